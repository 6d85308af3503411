-- Lists joined, and taken whole.
use Rattle.std.proofs.Common.{◌≡◌, ◌∙◌, ℕ, zero, suc, ◌≤◌, List, [], ◌∷◌, ◌++◌, length, take, refl, ap, arith, rules}

pub no_more : {X : Type 0} (xs : List X) → xs ++ [] ≡ xs
no_more xs = search rules

pub joined : {X : Type 0} (xs ys zs : List X) → xs ++ (ys ++ zs) ≡ (xs ++ ys) ++ zs
joined [] ys zs = refl
joined (x ∷ xs) ys zs = ap (λ l. x ∷ l) (joined xs ys zs)

pub all_taken : {X : Type 0} (xs : List X) (k : ℕ) → length xs ≤ k → take k xs ≡ xs
all_taken [] zero enough = refl
all_taken [] (suc k) enough = refl
all_taken (x ∷ xs) zero enough = absurd (omega (arith, enough))
all_taken (x ∷ xs) (suc k) enough = ap (λ l. x ∷ l) (all_taken xs k (omega (arith, enough)))

-- the end of a line behind four texts
pub joined_line : {X : Type 0} (a b c d end : List X) → (a ++ (b ++ (c ++ d))) ++ end ≡ (((a ++ b) ++ c) ++ d) ++ end
joined_line a b c d end = ap (λ l. l ++ end) (joined a b (c ++ d) ∙ joined (a ++ b) c d)
