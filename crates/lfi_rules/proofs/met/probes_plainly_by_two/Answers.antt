use Rattle.std.proofs.Common.{◌≡◌, ℕ, ◌+◌, ◌*◌, ◌/◌, ◌^◌, ◌<◌, sym, ap, ◌∙◌, arith}
use Rattle.std.proofs.lemmas.Bool.{and_parts, eqb-true, both_ways}
use Rattle.std.proofs.lemmas.Nat.{and_mask, mod_below}
use Rattle.a64_word.specs.inner.Bits.{bits_at}
use Rattle.lfi_rules.proofs.Fields.{joined}
use Rattle.lfi_rules.proofs.Operands.{flag_of}
use Rattle.lfi_rules.proofs.Plain.{by_two}
use Rattle.lfi_rules.proofs.met.probes_plainly_by_two.Goals as goal

pub returns : goal.returns
returns c = λ h.
    let w : ℕ = c.args.word in
    let below : w < 2 ^ 32 = c.ranges.word.fits in
    let tests = and_parts _ _ h in
    let first = and_parts _ _ tests.0 in
    let class : bits_at w 22 9 ≡ 164 = sym (and_mask (w / 2 ^ 22) 9) ∙ eqb-true _ _ first.0 in
    let imm : bits_at w 15 7 ≡ 0 = sym (and_mask (w / 2 ^ 15) 7) ∙ eqb-true _ _ first.1 in
    let rn : bits_at w 5 5 ≡ 31 = sym (and_mask (w / 2 ^ 5) 5) ∙ eqb-true _ _ tests.1 in
    let split : bits_at w 22 9 ≡ bits_at w 23 8 * 2 ^ 1 + bits_at w 22 1 = joined w 22 8 1 in
    let low : bits_at w 22 1 < 2 ^ 1 = mod_below (w / 2 ^ 22) (2 ^ 1) (omega arith) in
    let store : bits_at w 22 1 ≡ 0 = omega arith in
    by_two w below (omega arith) imm rn (λ load. absurd (both_ways (flag_of (bits_at w 22 1)) (ap flag_of store) load))
