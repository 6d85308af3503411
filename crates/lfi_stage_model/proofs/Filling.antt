-- Lists that are filled from their beginning, as another loses its first element.
use Rattle.std.proofs.Common.{◌≡◌, ℕ, zero, suc, ◌+◌, List, [], ◌∷◌, ◌++◌, Some, length, length-append, sym, ◌∙◌, ap, subst, slice_get, arith}
use Rattle.std.proofs.lemmas.Option.{none-some}
use Rattle.lfi_stage_model.proofs.Each.{some_same}

-- something that is so of each element of a list is so of each of the longer one
push_on : {A : Type 0} (P : ℕ → A → Type 0) (xs : List A) (x : A) → ((k : ℕ) (y : A) → slice_get xs k ≡ Some y → P k y) → P (length xs) x → (k : ℕ) (y : A) → slice_get (xs ++ x ∷ []) k ≡ Some y → P k y
push_on P [] x each is zero y at = subst (λ w. P 0 w) (some_same x y at) is
push_on P [] x each is (suc k) y at = absurd (none-some y at)
push_on P (z ∷ xs) x each is zero y at = each zero y at
push_on P (z ∷ xs) x each is (suc k) y at = push_on (λ j w. P (suc j) w) xs x (λ j w e. each (suc j) w e) is k y at

pub push_each : {A : Type 0} (P : ℕ → A → Type 0) (xs ys : List A) (x : A) → ys ≡ xs ++ x ∷ [] → ((k : ℕ) (y : A) → slice_get xs k ≡ Some y → P k y) → P (length xs) x → (k : ℕ) (y : A) → slice_get ys k ≡ Some y → P k y
push_each P xs ys x grown each is = subst (λ l. (k : ℕ) (y : _) → slice_get l k ≡ Some y → P k y) (sym grown) (push_on P xs x each is)

pub one_more : {A : Type 0} (xs ys : List A) (x : A) → ys ≡ xs ++ x ∷ [] → length ys ≡ length xs + 1
one_more xs ys x grown = ap length grown ∙ length-append xs (x ∷ [])

-- a list, of which what is left is what stands from place n on, and its next element
module _ {A : Type 0} (whole old new : List A) (x : A) (n : ℕ) (same : (k : ℕ) → slice_get old k ≡ slice_get whole (n + k)) (step : old ≡ x ∷ new) where
  pub next_is : slice_get whole n ≡ Some x
  next_is = ap (λ k. slice_get whole k) (let e : n ≡ n + 0 = omega arith in e) ∙ sym (same 0) ∙ ap (λ l. slice_get l 0) step

  pub still_from : (m : ℕ) → m ≡ n + 1 → (k : ℕ) → slice_get new k ≡ slice_get whole (m + k)
  still_from m at k = sym (ap (λ l. slice_get l (suc k)) step) ∙ same (suc k) ∙ ap (λ j. slice_get whole j) (let e : n + suc k ≡ m + k = omega arith in e)
