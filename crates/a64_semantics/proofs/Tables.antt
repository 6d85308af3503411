-- A condition's table says where it holds.
use Rattle.std.proofs.Common.{◌≡◌, ℕ, Bool, true, false, ◌/◌, ◌%◌, ◌^◌, ◌<◌, eqb, refl, ap, ◌∙◌, arith}
use Rattle.std.proofs.lemmas.Bool.{agree_below_at}
use Rattle.a64_word.specs.declared.operands.Condition.{Condition}
use Rattle.a64_word.specs.declared.operands.Condition.TheVariants as condition
use Rattle.a64_semantics.specs.declared.flags.Flags.{Flags}
use Rattle.a64_semantics.specs.Sums.{flags_of_number, number_of_flags}
use Rattle.a64_semantics.specs.Conditions.{holds}
use Rattle.a64_semantics.specs.inner.Tables.{numbers_holding}

holds_below : (condition : Condition) (n : ℕ) → n < 16 → eqb (numbers_holding condition / 2 ^ n % 2) 1 ≡ holds condition (flags_of_number n)
holds_below condition.Eq n h = agree_below_at (λ k. eqb (numbers_holding condition.Eq / 2 ^ k % 2) 1) (λ k. holds condition.Eq (flags_of_number k)) 16 n refl h
holds_below condition.Ne n h = agree_below_at (λ k. eqb (numbers_holding condition.Ne / 2 ^ k % 2) 1) (λ k. holds condition.Ne (flags_of_number k)) 16 n refl h
holds_below condition.Cs n h = agree_below_at (λ k. eqb (numbers_holding condition.Cs / 2 ^ k % 2) 1) (λ k. holds condition.Cs (flags_of_number k)) 16 n refl h
holds_below condition.Cc n h = agree_below_at (λ k. eqb (numbers_holding condition.Cc / 2 ^ k % 2) 1) (λ k. holds condition.Cc (flags_of_number k)) 16 n refl h
holds_below condition.Mi n h = agree_below_at (λ k. eqb (numbers_holding condition.Mi / 2 ^ k % 2) 1) (λ k. holds condition.Mi (flags_of_number k)) 16 n refl h
holds_below condition.Pl n h = agree_below_at (λ k. eqb (numbers_holding condition.Pl / 2 ^ k % 2) 1) (λ k. holds condition.Pl (flags_of_number k)) 16 n refl h
holds_below condition.Vs n h = agree_below_at (λ k. eqb (numbers_holding condition.Vs / 2 ^ k % 2) 1) (λ k. holds condition.Vs (flags_of_number k)) 16 n refl h
holds_below condition.Vc n h = agree_below_at (λ k. eqb (numbers_holding condition.Vc / 2 ^ k % 2) 1) (λ k. holds condition.Vc (flags_of_number k)) 16 n refl h
holds_below condition.Hi n h = agree_below_at (λ k. eqb (numbers_holding condition.Hi / 2 ^ k % 2) 1) (λ k. holds condition.Hi (flags_of_number k)) 16 n refl h
holds_below condition.Ls n h = agree_below_at (λ k. eqb (numbers_holding condition.Ls / 2 ^ k % 2) 1) (λ k. holds condition.Ls (flags_of_number k)) 16 n refl h
holds_below condition.Ge n h = agree_below_at (λ k. eqb (numbers_holding condition.Ge / 2 ^ k % 2) 1) (λ k. holds condition.Ge (flags_of_number k)) 16 n refl h
holds_below condition.Lt n h = agree_below_at (λ k. eqb (numbers_holding condition.Lt / 2 ^ k % 2) 1) (λ k. holds condition.Lt (flags_of_number k)) 16 n refl h
holds_below condition.Gt n h = agree_below_at (λ k. eqb (numbers_holding condition.Gt / 2 ^ k % 2) 1) (λ k. holds condition.Gt (flags_of_number k)) 16 n refl h
holds_below condition.Le n h = agree_below_at (λ k. eqb (numbers_holding condition.Le / 2 ^ k % 2) 1) (λ k. holds condition.Le (flags_of_number k)) 16 n refl h
holds_below condition.Al n h = agree_below_at (λ k. eqb (numbers_holding condition.Al / 2 ^ k % 2) 1) (λ k. holds condition.Al (flags_of_number k)) 16 n refl h
holds_below condition.Nv n h = agree_below_at (λ k. eqb (numbers_holding condition.Nv / 2 ^ k % 2) 1) (λ k. holds condition.Nv (flags_of_number k)) 16 n refl h

four_flags : (n : ℕ) → flags_of_number (n % 16) ≡ flags_of_number n
four_flags n =
    let negative : n % 16 / 8 % 2 ≡ n / 8 % 2 = omega arith in
    let none : n % 16 / 4 % 2 ≡ n / 4 % 2 = omega arith in
    let carried : n % 16 / 2 % 2 ≡ n / 2 % 2 = omega arith in
    let outside : n % 16 % 2 ≡ n % 2 = omega arith in
    rw (negative, none, carried, outside) refl

pub holds_by_table : (condition : Condition) (n : ℕ) → eqb (numbers_holding condition / 2 ^ (n % 16) % 2) 1 ≡ holds condition (flags_of_number n)
holds_by_table condition n =
    let small : n % 16 < 16 = omega arith in
    holds_below condition (n % 16) small ∙ ap (holds condition) (four_flags n)

same_flags : (n z c v : Bool) → flags_of_number (number_of_flags (record { negative = n; zero = z; carry = c; overflow = v })) ≡ record { negative = n; zero = z; carry = c; overflow = v }
same_flags false false false false = refl
same_flags false false false true = refl
same_flags false false true false = refl
same_flags false false true true = refl
same_flags false true false false = refl
same_flags false true false true = refl
same_flags false true true false = refl
same_flags false true true true = refl
same_flags true false false false = refl
same_flags true false false true = refl
same_flags true false true false = refl
same_flags true false true true = refl
same_flags true true false false = refl
same_flags true true false true = refl
same_flags true true true false = refl
same_flags true true true true = refl

pub holds_by_number : (condition : Condition) (f : Flags) → holds condition (flags_of_number (number_of_flags f)) ≡ holds condition f
holds_by_number condition f = ap (holds condition) (same_flags f.negative f.zero f.carry f.overflow)
