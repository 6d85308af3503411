-- What stands at the places of a list, also where one is replaced.
use Rattle.std.proofs.Common.{◌≡◌, ℕ, zero, suc, ◌≢◌, ◌<◌, List, [], ◌∷◌, Some, length, refl, ap, subst, slice_get, arith}
use Rattle.std.proofs.Math.ListN.{set}

-- what stands at a place, once
pub some_same : {A : Type 0} (a b : A) → Some a ≡ Some b → a ≡ b
some_same a b e = cc

pub one_some : {A : Type 0} {x y : A} → Some x ≡ Some y → x ≡ y
one_some e = cc

-- something stands at each place
pub some_at : {A : Type 0} (xs : List A) (k : ℕ) → k < length xs → (x : A) × (slice_get xs k ≡ Some x)
some_at [] k within = absurd (omega arith)
some_at (x ∷ xs) zero within = (x, refl)
some_at (x ∷ xs) (suc k) within = some_at xs k (omega arith)

pub set_each : {A : Type 0} (P : ℕ → A → Type 0) (xs : List A) (i : ℕ) (x : A) → ((k : ℕ) (y : A) → slice_get xs k ≡ Some y → P k y) → P i x → (k : ℕ) (y : A) → slice_get (set xs i x) k ≡ Some y → P k y
set_each P [] i x each is k y at = each k y at
set_each P (z ∷ xs) zero x each is zero y at = subst (λ w. P 0 w) (some_same x y at) is
set_each P (z ∷ xs) zero x each is (suc k) y at = each (suc k) y at
set_each P (z ∷ xs) (suc i) x each is zero y at = each zero y at
set_each P (z ∷ xs) (suc i) x each is (suc k) y at = set_each (λ j w. P (suc j) w) xs i x (λ j w e. each (suc j) w e) is k y at

pub set_same : {A : Type 0} (xs : List A) (i : ℕ) (x : A) → i < length xs → slice_get (set xs i x) i ≡ Some x
set_same [] i x within = absurd (omega arith)
set_same (z ∷ xs) zero x within = refl
set_same (z ∷ xs) (suc i) x within = set_same xs i x (omega arith)

pub set_other : {A : Type 0} (xs : List A) (i k : ℕ) (x : A) → k ≢ i → slice_get (set xs i x) k ≡ slice_get xs k
set_other [] i k x apart = refl
set_other (z ∷ xs) zero zero x apart = absurd (apart refl)
set_other (z ∷ xs) zero (suc k) x apart = refl
set_other (z ∷ xs) (suc i) zero x apart = refl
set_other (z ∷ xs) (suc i) (suc k) x apart = set_other xs i k x (λ e. apart (ap suc e))

-- the same of two lists
pub set_both : {A B : Type 0} (P : ℕ → A → B → Type 0) (xs : List A) (ys : List B) (i : ℕ) (x : A) (y : B) → ((k : ℕ) (a : A) (b : B) → slice_get xs k ≡ Some a → slice_get ys k ≡ Some b → P k a b) → P i x y
    → (k : ℕ) (a : A) (b : B) → slice_get (set xs i x) k ≡ Some a → slice_get (set ys i y) k ≡ Some b → P k a b
set_both P [] ys i x y each is k a b at by = absurd cc
set_both P (z ∷ xs) [] i x y each is k a b at by = absurd cc
set_both P (z ∷ xs) (w ∷ ys) zero x y each is zero a b at by = subst (λ v. P 0 a v) (some_same y b by) (subst (λ v. P 0 v y) (some_same x a at) is)
set_both P (z ∷ xs) (w ∷ ys) zero x y each is (suc k) a b at by = each (suc k) a b at by
set_both P (z ∷ xs) (w ∷ ys) (suc i) x y each is zero a b at by = each zero a b at by
set_both P (z ∷ xs) (w ∷ ys) (suc i) x y each is (suc k) a b at by = set_both (λ j v u. P (suc j) v u) xs ys i x y (λ j v u e f. each (suc j) v u e f) is k a b at by
