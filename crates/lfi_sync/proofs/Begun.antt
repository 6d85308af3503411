-- Lists of threads' handles, before the first one is kept and after the last one.
use Rattle.std.proofs.Common.{◌≡◌, ◌<◌, ◌∙◌, ◌+◌, ℕ, List, [], Some, length, slice_get, sym, ap, subst, arith}

-- nothing is kept yet, and all elements are left
pub all_left : {H A : Type 0} (hs : List H) (left n : ℕ) (xs : List A) → hs ≡ [] → left ≡ n → n ≡ length xs → length hs + left ≡ length xs
all_left hs left n xs none from size = (let no : length hs ≡ 0 = ap length none in omega (arith, no, from, size))

pub from_first : {H A : Type 0} (hs : List H) (ys xs : List A) → hs ≡ [] → ys ≡ xs → (k : ℕ) → slice_get ys k ≡ slice_get xs (length hs + k)
from_first hs ys xs none same k = (let no : length hs ≡ 0 = ap length none in ap (λ l. slice_get l k) same ∙ ap (λ j. slice_get xs j) (let e : k ≡ length hs + k = omega (arith, no) in e))

none_in : {H : Type 0} (P : ℕ → H → Type 0) (k : ℕ) (h : H) → slice_get [] k ≡ Some h → P k h
none_in P k h at = absurd cc

-- whatever is asked of each is so where there is none
pub each_of_none : {H : Type 0} (P : ℕ → H → Type 0) (hs : List H) → hs ≡ [] → (k : ℕ) (h : H) → slice_get hs k ≡ Some h → P k h
each_of_none P hs none = subst (λ l. (k : ℕ) (h : _) → slice_get l k ≡ Some h → P k h) (sym none) (none_in P)

-- where one of the first is left, one of the second is too
pub one_left : (kept first second after firsts seconds : ℕ) → kept + first ≡ firsts → kept + second ≡ seconds → seconds ≡ firsts → after + 1 ≡ first → 0 < second
one_left kept first second after firsts seconds all other same more = omega (arith, all, other, same, more)

-- where none is left, all are kept
pub all_kept : (kept left all : ℕ) → kept + left ≡ all → left ≡ 0 → kept ≡ all
all_kept kept left all is over = omega (arith, is, over)
