-- Where a direct branch's offset stands in its word.
use Rattle.std.proofs.Common.{◌≡◌, ℕ, ◌+◌, ◌-◌, ◌*◌, ◌/◌, ◌^◌, ◌<◌, ◌≤◌, eqb, eqb-true, refl, sym, ap, ◌∙◌, arith, inl, inr}
use Rattle.std.specs.Int.Bits.{xor_zero_r}
use Rattle.std.specs.Prelude.{bit_and, bit_xor, nat_lt, if◌then◌else◌}
use Rattle.std.proofs.lemmas.Bool.{cases_Bool, cases_lt, eqb-false, lt-ltb, le-ltb}
use Rattle.std.proofs.lemmas.Nat.{and_mask, mod_below, pow_pos, xor_block}
use Rattle.a64_word.specs.inner.Bits.{bits_at}
use Rattle.lfi_rules.specs.inner.Passing.{low_of, half_of, IsOffset, of_branch, of_bit_test, of_other}

pub low_small : (kind : ℕ) → low_of kind ≤ 5
low_small kind = elim (cases_Bool (eqb (kind / 2) 5)) [
  | inl branch ↦ rw branch (omega arith)
  | inr other ↦ rw other (omega arith)
]

pub half_large : (kind : ℕ) → 8192 ≤ half_of kind
half_large kind = elim (cases_Bool (eqb (kind / 2) 5)) [
  | inl branch ↦ rw branch (omega arith)
  | inr other ↦ elim (cases_Bool (eqb kind 27)) [
    | inl test ↦ rw (other, test) (omega arith)
    | inr rest ↦ rw (other, rest) (omega arith)
  ]
]

pub half_small : (kind : ℕ) → half_of kind ≤ 33554432
half_small kind = elim (cases_Bool (eqb (kind / 2) 5)) [
  | inl branch ↦ rw branch (omega arith)
  | inr other ↦ elim (cases_Bool (eqb kind 27)) [
    | inl test ↦ rw (other, test) (omega arith)
    | inr rest ↦ rw (other, rest) (omega arith)
  ]
]

-- The bits from there on are the offset's.
pub field_at : (w kind low half : ℕ) → kind ≡ bits_at w 25 6 → low ≡ low_of kind → half ≡ half_of kind → IsOffset w (bit_and (w / 2 ^ low) (2 * half - 1)) half
field_at w kind low half e l h =
    let upper : bits_at w 26 5 ≡ kind / 2 = omega (arith, e) in
    elim (cases_Bool (eqb (kind / 2) 5)) [
      | inl branch ↦
          let low_is : low ≡ 0 = l ∙ rw branch refl in
          let half_is : half ≡ 33554432 = h ∙ rw branch refl in
          of_branch (upper ∙ eqb-true (kind / 2) 5 branch) (rw (low_is, half_is) (and_mask (w / 2 ^ 0) 26)) half_is
      | inr other ↦
          let low_is : low ≡ 5 = l ∙ rw other refl in
          elim (cases_Bool (eqb kind 27)) [
            | inl test ↦
                let half_is : half ≡ 8192 = h ∙ rw (other, test) refl in
                of_bit_test (sym e ∙ eqb-true kind 27 test) (rw (low_is, half_is) (and_mask (w / 2 ^ 5) 14)) half_is
            | inr rest ↦
                let half_is : half ≡ 262144 = h ∙ rw (other, rest) refl in
                of_other (λ five. eqb-false (kind / 2) 5 other (sym upper ∙ five)) (λ number. eqb-false kind 27 rest (e ∙ number))
                (rw (low_is, half_is) (and_mask (w / 2 ^ 5) 19)) half_is
          ]
    ]

pub field_fits : (w bits half : ℕ) → IsOffset w bits half → bits < 2 * half
field_fits w bits half (of_branch a b h) = let small = mod_below (w / 2 ^ 0) (2 ^ 26) (omega arith) in omega (arith, b, h, small)
field_fits w bits half (of_bit_test a b h) = let small = mod_below (w / 2 ^ 5) (2 ^ 14) (omega arith) in omega (arith, b, h, small)
field_fits w bits half (of_other a c b h) = let small = mod_below (w / 2 ^ 5) (2 ^ 19) (omega arith) in omega (arith, b, h, small)

-- half of the numbers that it may be is a power of two
pub half_power : (w bits half : ℕ) → IsOffset w bits half → (k : ℕ) × (half ≡ 2 ^ k)
half_power w bits half (of_branch a b h) = (25, h)
half_power w bits half (of_bit_test a b h) = (13, h)
half_power w bits half (of_other a c b h) = (18, h)

-- to flip the highest bit adds half of the numbers that there are, or takes it away
flips : (k high low : ℕ) → low < 2 ^ k → bit_xor (high * 2 ^ k + low) (2 ^ k) ≡ bit_xor high 1 * 2 ^ k + low
flips k high low less =
    let whole : 2 ^ k ≡ 1 * 2 ^ k + 0 = omega arith in
    ap (bit_xor (high * 2 ^ k + low)) whole ∙ xor_block k high 1 low 0 less (pow_pos k) ∙ ap (λ x. bit_xor high 1 * 2 ^ k + x) (xor_zero_r low)

pub flipped : (k bits : ℕ) → bits < 2 * 2 ^ k → bit_xor bits (2 ^ k) ≡ (if nat_lt bits (2 ^ k) then bits + 2 ^ k else bits - 2 ^ k)
flipped k bits fits = elim (cases_lt bits (2 ^ k)) [
  | inl less ↦
      let same : bits ≡ 0 * 2 ^ k + bits = omega arith in
      let more : bit_xor (0 * 2 ^ k + bits) (2 ^ k) ≡ 1 * 2 ^ k + bits = flips k 0 bits less in
      let sum : 1 * 2 ^ k + bits ≡ bits + 2 ^ k = omega arith in
      rw (lt-ltb bits (2 ^ k) less) (ap (λ x. bit_xor x (2 ^ k)) same ∙ more ∙ sum)
  | inr above ↦
      let low : ℕ = bits - 2 ^ k in
      let same : bits ≡ 1 * 2 ^ k + low = omega arith in
      let less : bit_xor (1 * 2 ^ k + low) (2 ^ k) ≡ 0 * 2 ^ k + low = flips k 1 low (omega arith) in
      let rest : 0 * 2 ^ k + low ≡ bits - 2 ^ k = omega arith in
      rw (le-ltb bits (2 ^ k) above) (ap (λ x. bit_xor x (2 ^ k)) same ∙ less ∙ rest)
]
