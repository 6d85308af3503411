-- Of parts that take a turn one after another, each but the last has taken one.
use Rattle.std.proofs.Common.{◌≡◌, ◌∙◌, ◌<◌, ◌+◌, ℕ, List, Some, length, slice_get, sym, ap, subst, inl, inr, arith}
use Rattle.std.proofs.Math.ListN.{set}
use Rattle.std.proofs.lemmas.Bool.Decides.{eqb_tells}
use Rattle.lfi_stage_model.proofs.Each.{some_same, set_same, set_other}

-- the element at place k is replaced by one that is related to what it was
pub set_turned : {A : Type 0} (P : A → A → Type 0) (old new : List A) (k : ℕ) (x y : A) → k < length new
    → ((n : ℕ) (a b : A) → n < k → slice_get old n ≡ Some a → slice_get new n ≡ Some b → P a b)
    → slice_get old k ≡ Some x → P x y
    → (n : ℕ) (a b : A) → n < k + 1 → slice_get old n ≡ Some a → slice_get (set new k y) n ≡ Some b → P a b
set_turned P old new k x y within before was is n a b less at by = elim (eqb_tells n k) as (λ _. P a b) [
  | inl same ↦
      let here : x ≡ a = some_same x a (sym was ∙ ap (λ j. slice_get old j) (sym same.1) ∙ at) in
      let there : y ≡ b = some_same y b (sym (set_same new k y within) ∙ ap (λ j. slice_get (set new k y) j) (sym same.1) ∙ by) in
      subst (λ z. P z b) here (subst (λ z. P x z) there is)
  | inr other ↦ before n a b (let apart = other.1 in omega arith) at (sym (set_other new k n y other.1) ∙ by)
]
