-- The head of a page, word by word.
use Rattle.std.proofs.Common.{◌≡◌, ℕ, ◌+◌, ◌<◌, ◌≤◌, List, length, Bool, false, Some, subst, arith, inl, inr}
use Rattle.std.specs.Prelude.{slice_get}
use Rattle.std.proofs.lemmas.Bool.{cases_lt}
use Rattle.std.proofs.lemmas.Option.{slice_get_within}
use Rattle.lfi_module.specs.declared.profile.Profile.{Profile}
use Rattle.lfi_rules.specs.declared.needs.Need.{Need}
use Rattle.lfi_rules.specs.Calm.{IsCalm}
use Rattle.lfi_rules.specs.Faults.{Meets}
use Rattle.lfi_rules.specs.Verdicts.{Tells, MeetsAt}
use Rattle.lfi_rules.proofs.Due.{same_at}

pub meets_there : (p : Profile) (ws : List ℕ) (place word : ℕ) (need : Need) (b : Bool) → slice_get ws place ≡ Some word → Tells b (Meets p word need) → Tells b (MeetsAt p ws place need)
meets_there p ws place word need b at told = record {
  yes = λ h. record { word = word; at = at; met = told.yes h };
  no = λ h m. told.no h (subst (λ x. Meets p x need) (same_at ws place m.word word m.at at) m.met);
}

pub meets_nowhere : (p : Profile) (ws : List ℕ) (place : ℕ) (need : Need) → length ws ≤ place → Tells false (MeetsAt p ws place need)
meets_nowhere p ws place need past = record {
  yes = λ h. cc;
  no = λ h m. let l : place < length ws = slice_get_within ws place m.word m.at in omega arith;
}

-- calm words from the start on
pub more_calm : (p : Profile) (ws : List ℕ) (i word : ℕ) → ((j w : ℕ) → j < i → slice_get ws j ≡ Some w → IsCalm p w) → slice_get ws i ≡ Some word → IsCalm p word
    → (j w : ℕ) → j < i + 1 → slice_get ws j ≡ Some w → IsCalm p w
more_calm p ws i word calm at c j w low there = elim (cases_lt j i) [
  | inl before ↦ calm j w before there
  | inr not_before ↦
      let here : j ≡ i = omega arith in
      subst (λ x. IsCalm p x) (same_at ws i word w at (subst (λ x. slice_get ws x ≡ Some w) here there)) c
]
