use Rattle.std.proofs.Common.{ℕ, ◌*◌, ◌<◌, ◌≤◌, false, ap, sym, ◌∙◌, ◌++◌, arith}
use Rattle.lfi_mends.specs.Mends.{mended}
use Rattle.lfi_mends.specs.inner.Rows.{accessed, any_accessed}
use Rattle.lfi_mends.proofs.Summed.{unsigned_same}
use Rattle.lfi_mends.proofs.Beside.{no_offset}
use Rattle.lfi_mends.proofs.Bounded.{unsigned_bounded, unloaded}
use Rattle.lfi_mends.proofs.accesses.unsigned.Goals as goal

product_fits : (a b : ℕ) → a < 4096 → b ≤ 8 → a * b < 32768
product_fits a b small few = grind arith

pub returns-clause-does : goal.returns-clause-does
returns-clause-does c = λ free.
    let i = c.args.i.now in
    unsigned_same i.size i.transfer i.imm12 i.rn i.rt (i.imm12 * c.bytes.result) (mended c.plain.result) (ap (λ n. i.imm12 * n) c.bytes.ensures.is)
    (product_fits i.imm12 c.bytes.result c.requires.fits.1.1.1.0 c.bytes.ensures.few) (no_offset i.transfer i.rt free)
    (c.plain.ensures.items free ∙ ap (λ l. l ++ accessed i.size i.transfer i.rt i.rn false (i.imm12 * c.bytes.result)) c.new.ensures.items)

pub returns-clause-bounded : goal.returns-clause-bounded
returns-clause-bounded c =
    let i = c.args.i.now in
    unsigned_bounded i.size i.transfer i.imm12 i.rn i.rt (i.imm12 * c.bytes.result) (mended c.plain.result) (ap (λ n. i.imm12 * n) c.bytes.ensures.is)
    (product_fits i.imm12 c.bytes.result c.requires.fits.1.1.1.0 c.bytes.ensures.few) (unloaded i.transfer i.rt (sym c.loads_base.ensures ∙ c.if-loads_base.false))
    (c.plain.ensures.all ∙ ap (λ l. l ++ any_accessed i.size i.transfer i.rt i.rn false (i.imm12 * c.bytes.result)) c.new.ensures.items)
