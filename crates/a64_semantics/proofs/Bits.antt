-- Low bits, and rotations.
use Rattle.std.proofs.Common.{◌≡◌, ℕ, ◌+◌, ◌-◌, ◌*◌, ◌/◌, ◌%◌, ◌^◌, ◌<◌, ◌≤◌, inl, inr, ap, ap₂, ◌∙◌, arith, bit_or}
use Rattle.std.specs.Int.Bits.{or_self}
use Rattle.std.proofs.lemmas.Nat.{or_shifted, or_comm, mod-pow-add, shl-shr, shr_below}
use Rattle.std.proofs.lemmas.Nat.Bits.{ones_shr}
use Rattle.std.proofs.lemmas.Bool.{cases_eq}
use Rattle.std.proofs.Math.Nat.{mod-eq_of_lt, mul-mod_left, mod_self}
use Rattle.a64_word.specs.Bitmask.{rotated_right}

-- all ones, shifted right
pub ones_are : (count : ℕ) → 1 ≤ count → count ≤ 64 → 18446744073709551615 / 2 ^ (64 - count) ≡ 2 ^ count - 1
ones_are count some most =
    let back : 64 - (64 - count) ≡ count = omega arith in
    ones_shr 64 (64 - count) (omega arith) ∙ ap (λ k. 2 ^ k - 1) back

-- what is left of a number that is shifted left
pub shifted_left : (x by d : ℕ) → by ≤ d → x * 2 ^ (d - by) % 2 ^ d ≡ x % 2 ^ by * 2 ^ (d - by)
shifted_left x by d within =
    let whole : d ≡ by + (d - by) = omega arith in
    ap (λ k. x * 2 ^ (d - by) % 2 ^ k) whole ∙ mod-pow-add (x * 2 ^ (d - by)) by (d - by)
    ∙ ap₂ (λ high low. high % 2 ^ by * 2 ^ (d - by) + low) (shl-shr x (d - by)) (mul-mod_left x (2 ^ (d - by)))
    ∙ omega arith

-- the two parts of a rotated number share no bit
pub turned : (x by d : ℕ) → by < d → x < 2 ^ d → bit_or (x / 2 ^ (by % d)) (x * 2 ^ ((d - by % d) % d) % 2 ^ d) ≡ rotated_right d x by
turned x by d turn fits = elim (cases_eq by 0) [
  | inl none ↦ (
      let same : by % d ≡ 0 = mod-eq_of_lt turn ∙ none in
      let all : (d - 0) % d ≡ 0 = ap (λ k. k % d) (omega arith) ∙ mod_self d in
      let whole : x * 1 % 2 ^ d ≡ x = ap (λ n. n % 2 ^ d) (omega arith) ∙ mod-eq_of_lt fits in
      let nothing : x % 2 ^ 0 ≡ 0 = omega arith in
      let same_number : x / 2 ^ 0 ≡ x = omega arith in
      rw (same, all, none) (rw (whole, nothing, same_number) (or_self x ∙ omega arith)))
  | inr some ↦ (
      let same : by % d ≡ by = mod-eq_of_lt turn in
      let rest : (d - by) % d ≡ d - by = mod-eq_of_lt (omega arith) in
      let split : d - by + by ≡ d = omega arith in
      let high : x / 2 ^ by < 2 ^ (d - by) = shr_below x (d - by) by (rw split fits) in
      rw (same, rest) (ap (bit_or (x / 2 ^ by)) (shifted_left x by d (omega arith))
      ∙ or_comm (x / 2 ^ by) (x % 2 ^ by * 2 ^ (d - by)) ∙ or_shifted (x % 2 ^ by) (d - by) (x / 2 ^ by) high ∙ omega arith))
]
