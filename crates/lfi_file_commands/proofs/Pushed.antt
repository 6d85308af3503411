-- Texts that are put behind one another.
use Rattle.std.proofs.Common.{◌≡◌, ◌∙◌, ℕ, ◌+◌, suc, List, [], ◌∷◌, ◌++◌, length, ap, append_assoc, arith}
use Rattle.lfi_model.specs.Texts.{lines_from}

-- one more is put behind those that were
pub more : (old mid new a b : List ℕ) → mid ≡ old ++ a → new ≡ mid ++ b → new ≡ old ++ (a ++ b)
more old mid new a b first second = second ∙ ap (λ l. l ++ b) first ∙ append_assoc old a b

-- the same of one that is another by its words
pub more_as : (old mid new a b c : List ℕ) → b ≡ c → mid ≡ old ++ a → new ≡ mid ++ b → new ≡ old ++ (a ++ c)
more_as old mid new a b c same first second = more old mid new a b first second ∙ ap (λ l. old ++ (a ++ l)) same

joined_from : {A : Type 0} (line : ℕ → A → List ℕ) (n : ℕ) (xs ys : List A) → lines_from line n xs ++ lines_from line (n + length xs) ys ≡ lines_from line n (xs ++ ys)
joined_from line n [] ys = ap (λ k. lines_from line k ys) {x = n + 0} {y = n} (omega arith)
joined_from line n (x ∷ xs) ys =
    let number : n + suc (length xs) ≡ suc n + length xs = omega arith in
    append_assoc (line n x) (lines_from line (suc n) xs) (lines_from line (n + suc (length xs)) ys)
    ∙ ap (λ l. line n x ++ l) (ap (λ k. lines_from line (suc n) xs ++ lines_from line k ys) number ∙ joined_from line (suc n) xs ys)

-- what stands behind so many is numbered from there
pub joined_lines : {A : Type 0} (line : ℕ → A → List ℕ) (n : ℕ) (xs ys : List A) → n ≡ length xs → lines_from line 0 xs ++ lines_from line n ys ≡ lines_from line 0 (xs ++ ys)
joined_lines line n xs ys same = ap (λ k. lines_from line 0 xs ++ lines_from line k ys) {x = n} {y = 0 + length xs} (omega (arith, same)) ∙ joined_from line 0 xs ys

-- one line more
pub one_more : {A : Type 0} (line : ℕ → A → List ℕ) (old mid new : List ℕ) (n : ℕ) (xs ys : List A) → n ≡ length xs → mid ≡ old ++ lines_from line 0 xs → new ≡ mid ++ lines_from line n ys
    → new ≡ old ++ lines_from line 0 (xs ++ ys)
one_more line old mid new n xs ys same first second = more old mid new (lines_from line 0 xs) (lines_from line n ys) first second ∙ ap (λ l. old ++ l) (joined_lines line n xs ys same)
