-- How many pages a table has.
use Rattle.std.proofs.Common.{◌≡◌, ℕ, zero, suc, ◌+◌, ◌<◌, ◌≤◌, eqb, List, [], ◌∷◌, length, refl, arith, inl, inr}
use Rattle.std.specs.Prelude.{slice_index, slice_set}
use Rattle.std.proofs.lemmas.Bool.{cases_Bool, eqb-true}
use Rattle.sparse_memory.specs.Kept.{some_in}

some_most : (table : List ℕ) → some_in table ≤ length table
some_most [] = omega arith
some_most (n ∷ rest) = let least = some_most rest in elim (cases_Bool (eqb n 0)) [
  | inl none ↦ rw none (omega arith)
  | inr some ↦ rw some (omega arith)
]

-- A table that has a page's 0 has room for one page more.
pub some_below : (table : List ℕ) (page : ℕ) → page < length table → slice_index table page ≡ 0 → some_in table < length table
some_below [] page inside none = absurd (omega arith)
some_below (n ∷ rest) zero inside none = let least = some_most rest in rw none (omega arith)
some_below (n ∷ rest) (suc page) inside none =
    let less = some_below rest page (omega arith) none in elim (cases_Bool (eqb n 0)) [
      | inl zero_n ↦ rw zero_n (omega arith)
      | inr some ↦ rw some (omega arith)
    ]

-- With a number in the place of a 0 it has one more.
pub some_more : (table : List ℕ) (page frame : ℕ) → page < length table → slice_index table page ≡ 0 → 0 < frame → some_in (slice_set table page frame) ≡ some_in table + 1
some_more [] page frame inside none some = absurd (omega arith)
some_more (n ∷ rest) zero frame inside none some = elim (cases_Bool (eqb frame 0)) [
  | inl empty ↦ let e : frame ≡ 0 = eqb-true frame 0 empty in absurd (omega (arith, e, some))
  | inr full ↦ rw (none, full) (omega arith)
]
some_more (n ∷ rest) (suc page) frame inside none some =
    let more = some_more rest page frame (omega arith) none some in omega (arith, more)

-- A table of zeros has no page.
pub some_none : (table : List ℕ) → ((k : ℕ) → slice_index table k ≡ 0) → some_in table ≡ 0
some_none [] all = refl
some_none (n ∷ rest) all = let none = some_none rest (λ k. all (suc k)) in rw (all zero) (omega (arith, none))
