-- What is due, and what is open: by the words themselves, and word by word.
use Rattle.std.proofs.Common.{◌≡◌, ℕ, zero, suc, ◌+◌, ◌-◌, ◌<◌, ◌≤◌, List, length, Some, refl, subst, sym, ◌∙◌, ap, arith, inl, inr}
use Rattle.std.specs.Prelude.{slice_get, if◌then◌else◌}
use Rattle.std.proofs.lemmas.Bool.{cases_lt, lt-ltb, le-ltb}
use Rattle.std.proofs.lemmas.Option.{slice_get_within, same_Some}
use Rattle.lfi_module.specs.declared.profile.Profile.{Profile}
use Rattle.lfi_rules.specs.declared.needs.Need.{Need}
use Rattle.lfi_rules.specs.declared.needs.Need.TheVariants.{Nothing, Call, Guard, Probe}
use Rattle.lfi_rules.specs.Needs.{term_of, rest_of, waits, window}
use Rattle.lfi_rules.specs.Calm.{IsCalm}
use Rattle.lfi_rules.specs.Faults.{Opens, Meets, meets_nothing, meets_by, IsDue, IsOpenAt, some_due, none_due, Leaves, opening, waiting}
use Rattle.lfi_rules.proofs.Broken.{Opens-same, calm_opens, opens_some, opens_term}

pub same_at : (ws : List ℕ) (i w v : ℕ) → slice_get ws i ≡ Some w → slice_get ws i ≡ Some v → w ≡ v
same_at ws i w v e f = same_Some w v (sym e ∙ f)

-- a calm word opens no need that has a term
no_opening : (p : Profile) (w : ℕ) (need : Need) → IsCalm p w → Opens p w need → 0 < term_of need → ⊥
no_opening p w need c o some =
    let e : term_of need ≡ 0 = ap term_of (Opens-same p w need Nothing o (calm_opens p w c)) in
    omega arith

-- the calm words after an opening one have none that opens a need which is due at the same place
no_later : (p : Profile) (ws : List ℕ) (i d j e : ℕ) (a b : Need) → IsDue p ws i d a → IsDue p ws j e b → i + d ≡ j + e → i < j → ⊥
no_later p ws i d j e a b due other same later =
    no_opening p other.opening b (due.calm j other.opening later (omega arith) other.at) other.opens
    (let l : e < term_of b = other.term in omega arith)

-- one need is due at a place
pub due_same : (p : Profile) (ws : List ℕ) (i d j e : ℕ) (a b : Need) → IsDue p ws i d a → IsDue p ws j e b → i + d ≡ j + e → (i ≡ j) × (a ≡ b)
due_same p ws i d j e a b due other same = elim (cases_lt i j) [
  | inl later ↦ absurd (no_later p ws i d j e a b due other same later)
  | inr not_later ↦ elim (cases_lt j i) [
    | inl sooner ↦ absurd (no_later p ws j e i d b a other due (sym same) sooner)
    | inr not_sooner ↦
        let here : i ≡ j = omega arith in
        let word : due.opening ≡ other.opening = same_at ws j due.opening other.opening (subst (λ x. slice_get ws x ≡ Some due.opening) here due.at) other.at in
        (here, Opens-same p other.opening a b (subst (λ x. Opens p x a) word due.opens) other.opens)
  ]
]

-- one calm word fewer
pub due_less : (p : Profile) (ws : List ℕ) (i d : ℕ) (need : Need) → IsDue p ws i (d + 1) need → IsDue p ws i d need
due_less p ws i d need due =
    let within : i + (d + 1) < length ws = due.within in
    let term : d + 1 < term_of need = due.term in
    record { opening = due.opening; at = due.at; opens = due.opens; calm = λ j w low high. due.calm j w low (omega arith); within = omega arith; term = omega arith }

-- one calm word more
pub due_more : (p : Profile) (ws : List ℕ) (i d word : ℕ) (need : Need) → IsDue p ws i d need → slice_get ws (i + d + 1) ≡ Some word → IsCalm p word → d + 1 < term_of need
    → IsDue p ws i (d + 1) need
due_more p ws i d word need due at calm term = record {
  opening = due.opening;
  at = due.at;
  opens = due.opens;
  calm = λ j w low high there. elim (cases_lt j (i + d + 1)) [
    | inl before ↦ due.calm j w low (omega arith) there
    | inr not_before ↦
        let here : i + d + 1 ≡ j = omega arith in
        subst (λ x. IsCalm p x) (same_at ws (i + d + 1) word w at (subst (λ x. slice_get ws x ≡ Some w) (sym here) there)) calm
  ];
  within = let l : i + d + 1 < length ws = slice_get_within ws (i + d + 1) word at in omega arith;
  term = term;
}

-- ---- what is left of a need
pub rest_none : (need : Need) → rest_of need 0 ≡ need
rest_none Nothing = refl
rest_none Call = refl
rest_none Guard = refl
rest_none (Probe count) = let e : count - 0 ≡ count = omega arith in ap Probe e

pub rest_term : (need : Need) (d : ℕ) → d < term_of need → term_of (rest_of need d) ≡ term_of need - d
rest_term Nothing d l = absurd (omega arith)
rest_term Call d l = omega arith
rest_term Guard d l = omega arith
rest_term (Probe count) d l = refl

pub rest_more : (need : Need) (d : ℕ) → d + 1 < term_of need → waits (rest_of need d) ≡ rest_of need (d + 1)
rest_more Nothing d l = absurd (omega arith)
rest_more Call d l = absurd (omega arith)
rest_more Guard d l = absurd (omega arith)
rest_more (Probe count) d l =
    let more : 1 < count - d = omega arith in
    let e : count - d - 1 ≡ count - (d + 1) = omega arith in
    ap (λ b. if b then Probe (count - d - 1) else Nothing) (lt-ltb 1 (count - d) more) ∙ ap Probe e

pub no_rest : (need : Need) → term_of need ≤ 1 → waits need ≡ Nothing
no_rest Nothing l = refl
no_rest Call l = refl
no_rest Guard l = refl
no_rest (Probe count) l = ap (λ b. if b then Probe (count - 1) else Nothing) (le-ltb 1 count l)

pub rest_met : (p : Profile) (w : ℕ) (need : Need) (d : ℕ) → Meets p w (rest_of need d) → Meets p w need
rest_met p w Nothing d m = m
rest_met p w Call d m = m
rest_met p w Guard d m = m
rest_met p w (Probe count) d (meets_nothing e) = cc
rest_met p w (Probe count) d (meets_by i s m) = meets_by i s m

pub met_rest : (p : Profile) (w : ℕ) (need : Need) (d : ℕ) → Meets p w need → Meets p w (rest_of need d)
met_rest p w Nothing d m = m
met_rest p w Call d m = m
met_rest p w Guard d m = m
met_rest p w (Probe count) d (meets_nothing e) = cc
met_rest p w (Probe count) d (meets_by i s m) = meets_by i s m

-- ---- what is open
pub open_at_start : (p : Profile) (ws : List ℕ) → IsOpenAt p ws 0 Nothing
open_at_start p ws = none_due refl (λ i d opened e due. omega arith)

pub open_same : (p : Profile) (ws : List ℕ) (k : ℕ) (a b : Need) → IsOpenAt p ws k a → IsOpenAt p ws k b → a ≡ b
open_same p ws k a b (some_due i d nd e due r) (some_due j f other g late q) =
    let both = due_same p ws i d j f nd other due late (omega arith) in
    let i_is : i ≡ j = both.0 in
    let d_is : d ≡ f = omega arith in
    r ∙ ap (λ x. rest_of x d) both.1 ∙ ap (rest_of other) d_is ∙ sym q
open_same p ws k a b (some_due i d nd e due r) (none_due g none) = absurd (none i d nd e due)
open_same p ws k a b (none_due e none) (some_due j f other g late q) = absurd (none j f other g late)
open_same p ws k a b (none_due e none) (none_due g more) = e ∙ sym g

-- nothing is due after a word that is no calm one and opens nothing
after_other : (p : Profile) (ws : List ℕ) (k word : ℕ) → slice_get ws k ≡ Some word → Opens p word Nothing → (IsCalm p word → ⊥)
    → (i d : ℕ) (opened : Need) → k + 1 ≡ i + d + 1 → IsDue p ws i d opened → ⊥
after_other p ws k word at o other i d opened e due = elim (cases_lt i k) [
  | inl before ↦ other (due.calm k word before (omega arith) at)
  | inr not_before ↦
      let here : i ≡ k = omega arith in
      let w_is : due.opening ≡ word = same_at ws k due.opening word (subst (λ x. slice_get ws x ≡ Some due.opening) here due.at) at in
      let nothing : term_of opened ≡ 0 = ap term_of (Opens-same p word opened Nothing (subst (λ x. Opens p x opened) w_is due.opens) o) in
      let term : d < term_of opened = due.term in
      omega arith
]

-- what is due after a calm word was due before it
after_calm : (p : Profile) (ws : List ℕ) (k word : ℕ) → slice_get ws k ≡ Some word → IsCalm p word
    → (i d : ℕ) (opened : Need) → k + 1 ≡ i + d + 1 → IsDue p ws i d opened → (e : ℕ) × (d ≡ e + 1) × IsDue p ws i e opened
after_calm p ws k word at calm i zero opened e due =
    let here : i ≡ k = omega arith in
    let w_is : due.opening ≡ word = same_at ws k due.opening word (subst (λ x. slice_get ws x ≡ Some due.opening) here due.at) at in
    absurd (no_opening p word opened calm (subst (λ x. Opens p x opened) w_is due.opens) due.term)
after_calm p ws k word at calm i (suc d) opened e due =
    let one : suc d ≡ d + 1 = omega arith in
    (d, one, due_less p ws i d opened (subst (λ x. IsDue p ws i x opened) one due))

pub next_open : (p : Profile) (ws : List ℕ) (k word : ℕ) (before after : Need) → IsOpenAt p ws k before → slice_get ws k ≡ Some word → Leaves p word before after
    → IsOpenAt p ws (k + 1) after
next_open p ws k word before after was at (opening o other) = elim (cases_lt 0 (term_of after)) [
  | inl some ↦ some_due k 0 after (omega arith) (record {
    opening = word;
    at = at;
    opens = o;
    calm = λ j w low high. absurd (omega arith);
    within = let l : k < length ws = slice_get_within ws k word at in omega arith;
    term = some;
  }) (sym (rest_none after))
  | inr none ↦
      let e : after ≡ Nothing = opens_some p word after o (omega arith) in
      none_due e (after_other p ws k word at (subst (Opens p word) e o) other)
]
next_open p ws k word before after (some_due i d opened e due r) at (waiting calm w) = elim (cases_lt (d + 1) (term_of opened)) [
  | inl more ↦
      let here : slice_get ws (i + d + 1) ≡ Some word = subst (λ x. slice_get ws x ≡ Some word) e at in
      some_due i (d + 1) opened (omega arith) (due_more p ws i d word opened due here calm more) (w ∙ ap waits r ∙ rest_more opened d more)
  | inr last ↦
      let term : d < term_of opened = due.term in
      let left : term_of (rest_of opened d) ≡ term_of opened - d = rest_term opened d term in
      none_due (w ∙ ap waits r ∙ no_rest (rest_of opened d) (omega arith)) (λ j f nd g late.
      let prior = after_calm p ws k word at calm j f nd g late in
      let f_is : f ≡ prior.0 + 1 = prior.1 in
      let both = due_same p ws i d j prior.0 opened nd due prior.2 (omega arith) in
      let i_is : i ≡ j = both.0 in
      let same : term_of opened ≡ term_of nd = ap term_of both.1 in
      let late_term : f < term_of nd = late.term in
      omega arith)
]
next_open p ws k word before after (none_due e none) at (waiting calm w) = none_due (w ∙ ap waits e) (λ j f nd g late.
    let prior = after_calm p ws k word at calm j f nd g late in
    let f_is : f ≡ prior.0 + 1 = prior.1 in
    none j prior.0 nd (omega arith) prior.2)

-- a need that is open has as many words as the profile gives, at most
pub open_term : (p : Profile) (ws : List ℕ) (k : ℕ) (need : Need) → IsOpenAt p ws k need → term_of need ≤ window p
open_term p ws k need (some_due i d opened e due r) =
    let l : d < term_of opened = due.term in
    let most : term_of opened ≤ window p = opens_term p due.opening opened due.opens in
    let left : term_of need ≡ term_of opened - d = ap term_of r ∙ rest_term opened d l in
    omega arith
open_term p ws k need (none_due e none) = let zero_term : term_of need ≡ 0 = ap term_of e in omega arith

-- what is open where nothing that may wait is left
pub open_closed : (p : Profile) (ws : List ℕ) (k : ℕ) (need : Need) → IsOpenAt p ws k need → need ≡ Nothing → (i d : ℕ) (opened : Need) → k ≡ i + d + 1 → IsDue p ws i d opened → ⊥
open_closed p ws k need (none_due e none) nothing i d opened at due = none i d opened at due
open_closed p ws k need (some_due j f other g late q) nothing i d opened at due =
    let l : f < term_of other = late.term in
    let left : term_of (rest_of other f) ≡ term_of other - f = rest_term other f l in
    let none : term_of (rest_of other f) ≡ 0 = ap term_of (sym q ∙ nothing) in
    omega arith
