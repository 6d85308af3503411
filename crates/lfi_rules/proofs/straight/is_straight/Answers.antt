use Rattle.std.proofs.Common.{◌≡◌, ◌≢◌, ℕ, ◌/◌, ◌%◌, ◌^◌, ◌<◌, ◌∙◌, arith, inl, inr}
use Rattle.std.specs.Prelude.{bit_and}
use Rattle.std.proofs.lemmas.Bool.{and_parts, and_cases, not-true, eqb-false}
use Rattle.std.proofs.lemmas.Nat.{and_mask, mod_below}
use Rattle.a64_word.specs.inner.Bits.{bits_at}
use Rattle.lfi_rules.proofs.Bits.{IsSpared, by_register, by_flags, IsAway, by_base, by_27, by_25, calm_by_bits}
use Rattle.lfi_rules.proofs.straight.is_straight.Goals as goal

pub returns : goal.returns
returns c = λ p i h s opens.
    let w : ℕ = c.args.word in
    let tests = and_parts _ _ h in
    let fields = and_parts _ _ tests.0 in
    let first = and_parts _ _ fields.0 in
    let low : w % 2 ^ 5 ≡ bits_at w 0 5 = omega arith in
    let group_is : bit_and (w / 2 ^ 26) 7 ≡ bits_at w 26 3 = and_mask (w / 2 ^ 26) 3 in
    let rd_is : bit_and w 31 ≡ bits_at w 0 5 = and_mask w 5 ∙ low in
    let rn_is : bit_and (w / 2 ^ 5) 31 ≡ bits_at w 5 5 = and_mask (w / 2 ^ 5) 5 in
    let shape_is : bit_and (w / 2 ^ 23) 255 ≡ bits_at w 23 8 = and_mask (w / 2 ^ 23) 8 in
    let bit_29 : bit_and (w / 2 ^ 29) 1 ≡ bits_at w 29 1 = and_mask (w / 2 ^ 29) 1 in
    let bit_27 : bit_and (w / 2 ^ 27) 1 ≡ bits_at w 27 1 = and_mask (w / 2 ^ 27) 1 in
    let bit_25 : bit_and (w / 2 ^ 25) 1 ≡ bits_at w 25 1 = and_mask (w / 2 ^ 25) 1 in
    let below_29 : bits_at w 29 1 < 2 ^ 1 = mod_below (w / 2 ^ 29) (2 ^ 1) (omega arith) in
    let below_27 : bits_at w 27 1 < 2 ^ 1 = mod_below (w / 2 ^ 27) (2 ^ 1) (omega arith) in
    let below_25 : bits_at w 25 1 < 2 ^ 1 = mod_below (w / 2 ^ 25) (2 ^ 1) (omega arith) in
    let group : bits_at w 26 3 ≢ 5 = λ e. eqb-false _ _ (not-true _ first.0) (group_is ∙ e) in
    let spared : IsSpared w = elim (and_cases _ _ (not-true _ first.1)) [
      | inl other ↦ by_register (λ e. eqb-false _ _ other (rd_is ∙ e))
      | inr flags ↦ elim (and_cases _ _ (not-true _ fields.1)) [
        | inl other ↦ by_register (λ e. eqb-false _ _ other (rd_is ∙ e))
        | inr shape ↦
            let some : bits_at w 29 1 ≢ 0 = λ e. eqb-false _ _ flags (bit_29 ∙ e) in
            by_flags (omega arith) (λ e. eqb-false _ _ shape (shape_is ∙ e))
      ]
    ] in
    let away : IsAway w = elim (and_cases _ _ (not-true _ tests.1)) [
      | inl parts ↦ elim (and_cases _ _ parts) [
        | inl a ↦ let other : bits_at w 27 1 ≢ 1 = λ e. eqb-false _ _ a (bit_27 ∙ e) in by_27 (omega arith)
        | inr b ↦ let other : bits_at w 25 1 ≢ 0 = λ e. eqb-false _ _ b (bit_25 ∙ e) in by_25 (omega arith)
      ]
      | inr base ↦ by_base (λ e. eqb-false _ _ base (rn_is ∙ e))
    ] in
    calm_by_bits p w i s group spared away opens
