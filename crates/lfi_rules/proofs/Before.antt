-- What is open at a place, found from the words before it.
use Rattle.std.proofs.Common.{◌≡◌, ℕ, ◌+◌, ◌-◌, ◌<◌, ◌≤◌, List, length, Some, refl, subst, sym, ◌∙◌, ap, arith, inl, inr}
use Rattle.std.specs.Prelude.{slice_get, slice_index, nat_lt, if◌then◌else◌}
use Rattle.std.proofs.lemmas.Bool.{cases_lt, lt-ltb, le-ltb}
use Rattle.std.proofs.lemmas.Option.{slice_get-get_or}
use Rattle.lfi_module.specs.declared.profile.Profile.{Profile}
use Rattle.lfi_rules.specs.declared.needs.Need.{Need}
use Rattle.lfi_rules.specs.declared.needs.Need.TheVariants.{Nothing}
use Rattle.lfi_rules.specs.Needs.{term_of, rest_of, window}
use Rattle.lfi_rules.specs.Calm.{IsCalm}
use Rattle.lfi_rules.specs.Faults.{Opens, IsDue, IsOpenAt, some_due, none_due}
use Rattle.lfi_rules.specs.inner.Passing.{AreCalmBefore}
use Rattle.lfi_rules.proofs.Broken.{Opens-same, calm_opens, opens_term}
use Rattle.lfi_rules.proofs.Due.{same_at}

-- where a need is opened that is due after calm words, these are no fewer than all that went by
not_among : (p : Profile) (ws : List ℕ) (place gone i d : ℕ) (need : Need) → AreCalmBefore p ws place gone → place ≡ i + d + 1 → IsDue p ws i d need → gone ≤ d
not_among p ws place gone i d need calm e due = elim (cases_lt d gone) [
  | inl among ↦
      let term : d < term_of need = due.term in
      let none : term_of need ≡ 0 = ap term_of (Opens-same p due.opening need Nothing due.opens (calm_opens p due.opening (calm.calm i due.opening (omega arith) (omega arith) due.at))) in
      absurd (omega arith)
  | inr past ↦ past
]

-- all that may go by went by
pub all_gone : (p : Profile) (ws : List ℕ) (place gone : ℕ) → AreCalmBefore p ws place gone → window p ≤ gone → IsOpenAt p ws place Nothing
all_gone p ws place gone calm all = none_due refl (λ i d need e due.
    let past : gone ≤ d = not_among p ws place gone i d need calm e due in
    let term : d < term_of need = due.term in
    let most : term_of need ≤ window p = opens_term p due.opening need due.opens in
    omega arith)

-- or all words did
pub at_first : (p : Profile) (ws : List ℕ) (place gone : ℕ) → AreCalmBefore p ws place gone → place ≤ gone → IsOpenAt p ws place Nothing
at_first p ws place gone calm all = none_due refl (λ i d need e due.
    let past : gone ≤ d = not_among p ws place gone i d need calm e due in
    omega arith)

-- or one before them isn't calm
pub at_loud : (p : Profile) (ws : List ℕ) (place gone word : ℕ) (opened : Need) → AreCalmBefore p ws place gone → gone < place → place ≤ length ws → slice_get ws (place - 1 - gone) ≡ Some word
    → Opens p word opened → (IsCalm p word → ⊥) → IsOpenAt p ws place (if nat_lt gone (term_of opened) then rest_of opened gone else Nothing)
at_loud p ws place gone word opened calm within room at o other = elim (cases_lt gone (term_of opened)) [
  | inl more ↦
      subst (λ b. IsOpenAt p ws place (if b then rest_of opened gone else Nothing)) (sym (lt-ltb gone (term_of opened) more))
      (some_due (place - 1 - gone) gone opened (omega arith) (record {
        opening = word;
        at = at;
        opens = o;
        calm = λ j w low high there. calm.calm j w (omega arith) (omega arith) there;
        within = omega arith;
        term = more;
      }) refl)
  | inr last ↦
      subst (λ b. IsOpenAt p ws place (if b then rest_of opened gone else Nothing)) (sym (le-ltb gone (term_of opened) last)) (none_due refl (λ i d need e due.
      let past : gone ≤ d = not_among p ws place gone i d need calm e due in
      elim (cases_lt gone d) [
        | inl further ↦ other (due.calm (place - 1 - gone) word (omega arith) (omega arith) at)
        | inr here ↦
            let there : i ≡ place - 1 - gone = omega arith in
            let w_is : due.opening ≡ word = same_at ws (place - 1 - gone) due.opening word (subst (λ x. slice_get ws x ≡ Some due.opening) there due.at) at in
            let same : term_of need ≡ term_of opened = ap term_of (Opens-same p word need opened (subst (λ x. Opens p x need) w_is due.opens) o) in
            let term : d < term_of need = due.term in
            omega arith
      ]))
]

pub no_calm : (p : Profile) (ws : List ℕ) (place : ℕ) → AreCalmBefore p ws place 0
no_calm p ws place = record { calm = λ j w low high at. absurd (omega arith) }

pub one_more_calm : (p : Profile) (ws : List ℕ) (place gone word : ℕ) → AreCalmBefore p ws place gone → gone < place → slice_get ws (place - 1 - gone) ≡ Some word → IsCalm p word
    → AreCalmBefore p ws place (gone + 1)
one_more_calm p ws place gone word calm within at c = record {
  calm = λ j w low high there. elim (cases_lt (place - 1 - gone) j) [
    | inl later ↦ calm.calm j w (omega arith) high there
    | inr not_later ↦
        let here : j ≡ place - 1 - gone = omega arith in
        subst (λ x. IsCalm p x) (same_at ws (place - 1 - gone) word w at (subst (λ x. slice_get ws x ≡ Some w) here there)) c
  ];
}

-- the word at a place that is written in another way
pub stands_at : (ws : List ℕ) (j i word : ℕ) → word ≡ slice_index ws j → j ≡ i → i < length ws → slice_get ws i ≡ Some word
stands_at ws j i word is same within = slice_get-get_or ws i 0 within ∙ ap Some (sym (is ∙ ap (λ x. slice_index ws x) same))
