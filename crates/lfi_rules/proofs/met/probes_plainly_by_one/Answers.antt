use Rattle.std.proofs.Common.{◌≡◌, ℕ, ◌+◌, ◌*◌, ◌/◌, ◌^◌, ◌<◌, true, zero, suc, refl, sym, ◌∙◌, arith}
use Rattle.std.proofs.lemmas.Bool.{and_parts, eqb-true}
use Rattle.std.proofs.lemmas.Nat.{and_mask, mod_below}
use Rattle.a64_word.specs.inner.Bits.{bits_at}
use Rattle.lfi_classes.specs.Sets.{is_access}
use Rattle.lfi_rules.proofs.Fields.{joined}
use Rattle.lfi_rules.proofs.Plain.{by_one}
use Rattle.lfi_rules.proofs.met.probes_plainly_by_one.Goals as goal

-- of a store, and of a load that extends no sign, every size goes with opc
plain_access : (size transfer : ℕ) → transfer < 2 → is_access size transfer ≡ true
plain_access size zero less = refl
plain_access size (suc zero) less = refl
plain_access size (suc (suc t)) less = absurd (omega arith)

pub returns : goal.returns
returns c = λ h.
    let w : ℕ = c.args.word in
    let below : w < 2 ^ 32 = c.ranges.word.fits in
    let tests = and_parts _ _ h in
    let first = and_parts _ _ tests.0 in
    let op : bits_at w 24 6 ≡ 57 = sym (and_mask (w / 2 ^ 24) 6) ∙ eqb-true _ _ first.0 in
    let sign : bits_at w 23 1 ≡ 0 = sym (and_mask (w / 2 ^ 23) 1) ∙ eqb-true _ _ first.1 in
    let place : bits_at w 5 17 ≡ 31 = sym (and_mask (w / 2 ^ 5) 17) ∙ eqb-true _ _ tests.1 in
    let split : bits_at w 22 2 ≡ bits_at w 23 1 * 2 ^ 1 + bits_at w 22 1 = joined w 22 1 1 in
    let low : bits_at w 22 1 < 2 ^ 1 = mod_below (w / 2 ^ 22) (2 ^ 1) (omega arith) in
    by_one w below op place (plain_access (bits_at w 30 2) (bits_at w 22 2) (omega arith))
