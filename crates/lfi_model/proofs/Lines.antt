-- The lines of a run, one after another.
use Rattle.std.proofs.Common.{◌≡◌, ◌≢◌, codes, decimal, ℕ, zero, suc, ◌+◌, ◌<◌, ◌≤◌, List, [], ◌∷◌, ◌++◌, length, take, get_or, refl, sym, ap, ◌∙◌, arith, rules}
use Rattle.std.proofs.lemmas.List.{take_more}
use Rattle.lfi_model.specs.declared.outcome.Outcome.{Outcome}
use Rattle.lfi_model.specs.declared.outcome.Outcome.TheVariants.{Unused, Complete, Refused, Incomplete, Lost, PageFault, NoMemory}
use Rattle.lfi_model.specs.Texts.{lines_from, module_line, outcome_text}

pub claimed_line : (m : ℕ) (outcome : Outcome) → outcome ≢ Unused → module_line m outcome ≡ codes "module " ++ decimal m ++ codes ": " ++ outcome_text outcome ++ codes "\n"
claimed_line m Unused different = absurd (different refl)
claimed_line m (Complete n) different = refl
claimed_line m (Refused fault) different = refl
claimed_line m (Incomplete pages all) different = refl
claimed_line m (Lost fault) different = refl
claimed_line m (PageFault index) different = refl
claimed_line m NoMemory different = refl

no_more : {X : Type 0} (xs : List X) → xs ++ [] ≡ xs
no_more xs = search rules

joined : {X : Type 0} (xs ys zs : List X) → xs ++ (ys ++ zs) ≡ (xs ++ ys) ++ zs
joined [] ys zs = refl
joined (x ∷ xs) ys zs = ap (λ l. x ∷ l) (joined xs ys zs)

pub one_line_more : {A : Type 0} (line : ℕ → A → List ℕ) (n : ℕ) (xs : List A) (x : A) → lines_from line n (xs ++ x ∷ []) ≡ lines_from line n xs ++ line (n + length xs) x
one_line_more line n [] x = no_more (line n x) ∙ ap (λ k. line k x) {x = n} {y = n + 0} (omega arith)
one_line_more line n (y ∷ ys) x =
    let number : suc n + length ys ≡ n + suc (length ys) = omega arith in
    ap (λ l. line n y ++ l) (one_line_more line (suc n) ys x ∙ ap (λ k. lines_from line (suc n) ys ++ line k x) number)
    ∙ joined (line n y) (lines_from line (suc n) ys) (line (n + suc (length ys)) x)

taken : {X : Type 0} (xs : List X) (k : ℕ) → k < length xs → length (take k xs) ≡ k
taken xs k within = search rules

pub lines_more : {A : Type 0} (line : ℕ → A → List ℕ) (xs : List A) (k : ℕ) (d : A) → k < length xs
    → lines_from line 0 (take k xs) ++ line k (get_or xs k d) ≡ lines_from line 0 (take (k + 1) xs)
lines_more line xs k d within = sym (
    ap (lines_from line 0) (take_more xs k d within) ∙ one_line_more line 0 (take k xs) (get_or xs k d)
    ∙ ap (λ n. lines_from line 0 (take k xs) ++ line n (get_or xs k d)) {x = 0 + length (take k xs)} {y = k} (let e = taken xs k within in omega (arith, e))
    )

all_taken : {X : Type 0} (xs : List X) (k : ℕ) → length xs ≤ k → take k xs ≡ xs
all_taken [] zero enough = refl
all_taken [] (suc k) enough = refl
all_taken (x ∷ xs) zero enough = absurd (omega (arith, enough))
all_taken (x ∷ xs) (suc k) enough = ap (λ l. x ∷ l) (all_taken xs k (omega (arith, enough)))

pub lines_whole : {A : Type 0} (line : ℕ → A → List ℕ) (xs : List A) (k : ℕ) → length xs ≤ k → lines_from line 0 (take k xs) ≡ lines_from line 0 xs
lines_whole line xs k enough = ap (lines_from line 0) (all_taken xs k enough)
