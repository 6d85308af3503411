-- What the words after one that opens a need say of it, and break.
use Rattle.std.proofs.Common.{◌≡◌, ◌≢◌, ℕ, ◌+◌, ◌<◌, ◌≤◌, List, length, Some, None, refl, subst, sym, ap, ◌∙◌, arith, inl, inr}
use Rattle.std.specs.Prelude.{slice_get, slice_index}
use Rattle.std.proofs.lemmas.Bool.{cases_lt}
use Rattle.std.proofs.lemmas.Option.{slice_get_within, slice_get-get_or}
use Rattle.lfi_module.specs.declared.profile.Profile.{Profile}
use Rattle.lfi_rules.specs.declared.needs.Need.{Need}
use Rattle.lfi_rules.specs.declared.needs.Need.TheVariants.{Nothing, Probe}
use Rattle.lfi_rules.specs.declared.rule.Rule.{Rule}
use Rattle.lfi_rules.specs.declared.rule.Rule.TheVariants.{NeedMet}
use Rattle.lfi_rules.specs.Needs.{term_of, rest_of, window}
use Rattle.lfi_rules.specs.Calm.{IsCalm}
use Rattle.lfi_rules.specs.Faults.{Opens, opens_by, Meets, meets_nothing, Allowed, IsDue, BreaksInside, by_itself, IsOpenAt, some_due, Leaves}
use Rattle.lfi_rules.specs.Faults.{unmet as unmet_inside}
use Rattle.lfi_rules.specs.inner.Quiet.{IsToldWord}
use Rattle.lfi_rules.specs.inner.Least.{met, itself, unmet, IsLeastBroken, NoneBefore}
use Rattle.lfi_rules.specs.inner.Passing.{in_profile, IsFine, AreFine, AreCalmAfter, OpensAt, AreKeptAfter}
use Rattle.lfi_rules.proofs.Broken.{Opens-same, quiet_keeps, opens_in, opens_some, opens_term}
use Rattle.lfi_rules.proofs.Due.{same_at, rest_none, open_same, open_closed, next_open}
use Rattle.lfi_rules.proofs.Probes.{probe_not_calm, in_profile_met}
use Rattle.lfi_rules.proofs.Inside.{not_kept, next_none}

-- fewer calm words
due_down : (p : Profile) (ws : List ℕ) (i d e : ℕ) (need : Need) → IsDue p ws i d need → e ≤ d → IsDue p ws i e need
due_down p ws i d e need due less =
    let within : i + d < length ws = due.within in
    let term : d < term_of need = due.term in
    record { opening = due.opening; at = due.at; opens = due.opens; calm = λ j w low high. due.calm j w low (omega arith); within = omega arith; term = omega arith }

-- ---- a probe that comes behind calm words
pub none_calm : (p : Profile) (ws : List ℕ) (i : ℕ) → AreCalmAfter p ws i 0
none_calm p ws i = record { calm = λ j w low high at. absurd (omega arith) }

pub more_calm : (p : Profile) (ws : List ℕ) (i gone word : ℕ) → AreCalmAfter p ws i gone → slice_get ws (i + gone + 1) ≡ Some word → IsCalm p word → AreCalmAfter p ws i (gone + 1)
more_calm p ws i gone word calm at c = record {
  calm = λ j w low high there. elim (cases_lt j (i + gone + 1)) [
    | inl before ↦ calm.calm j w low (omega arith) there
    | inr not_before ↦
        let here : i + gone + 1 ≡ j = omega arith in
        subst (λ x. IsCalm p x) (same_at ws (i + gone + 1) word w at (subst (λ x. slice_get ws x ≡ Some w) (sym here) there)) c
  ];
}

pub fine_late : (p : Profile) (ws : List ℕ) (first n i word gone : ℕ) → slice_get ws i ≡ Some word → IsToldWord p word (first + i) n (Probe 1) → AreCalmAfter p ws i gone → gone < window p
    → ((next : ℕ) → slice_get ws (i + gone + 1) ≡ Some next → Meets p next (Probe 1)) → IsFine p ws first n i
fine_late p ws first n i word gone at q calm more m = record {
  alone = λ w e. subst (λ x. IsLeastBroken p x Nothing (first + i) n None) (same_at ws i word w at e) (quiet_keeps p word (first + i) n Nothing (Probe 1) q (met (meets_nothing refl)));
  after = λ d next nd due e misses last.
      let here : due.opening ≡ word = same_at ws i due.opening word due.at at in
      let opens : Opens p word (Probe (window p)) = opens_by q.instruction q.spells (opens_in p q.instruction ∙ ap (in_profile p) q.quiet.opens) in
      let same : nd ≡ Probe (window p) = Opens-same p word nd (Probe (window p)) (subst (λ x. Opens p x nd) here due.opens) opens in
      let term : term_of nd ≡ window p = ap term_of same in
      let end : i + d + 1 < length ws = slice_get_within ws (i + d + 1) next e in
      elim (cases_lt d gone) [
        | inl before ↦
            let is_last : d + 1 ≡ term_of nd = last (calm.calm (i + d + 1) next (omega arith) (omega arith) e) in
            omega arith
        | inr not_before ↦ elim (cases_lt gone d) [
          | inl past ↦
              let v : ℕ = slice_index ws (i + gone + 1) in
              let there : slice_get ws (i + gone + 1) ≡ Some v = slice_get-get_or ws (i + gone + 1) 0 (omega arith) in
              probe_not_calm p v 1 (m v there) (due.calm (i + gone + 1) v (omega arith) (omega arith) there)
          | inr not_past ↦
              let place : i + d + 1 ≡ i + gone + 1 = omega arith in
              misses (subst (λ x. Meets p next x) (sym same) (in_profile_met p next (Probe 1) (m next (subst (λ x. slice_get ws x ≡ Some next) place e))))
        ]
      ];
}

-- ---- looked at one by one
pub begun : (p : Profile) (ws : List ℕ) (first n i : ℕ) (need : Need) → OpensAt p ws first n i need → need ≢ Nothing → AreKeptAfter p ws first n i 0 need
begun p ws first n i need o some = record {
  left = some_due i 0 need (omega arith) (record {
    opening = o.word;
    at = o.at;
    opens = o.opens;
    calm = λ j w low high. absurd (omega arith);
    within = let l : i < length ws = slice_get_within ws i o.word o.at in omega arith;
    term = term;
  }) (sym (rest_none need));
  none = λ fine. record { later = at_least fine };
  kept = λ d w opened less. absurd (omega arith);
}
  where
    term : 0 < term_of need
    term = elim (cases_lt 0 (term_of need)) [
      | inl more ↦ more
      | inr none ↦ absurd (some (opens_some p o.word need o.opens (omega arith)))
    ]

    at_least : AreFine p ws first n 0 i → (k : ℕ) (r : Rule) → BreaksInside p ws first n k r → first + (i + 0 + 1) ≤ k
    at_least fine k r (by_itself j w e f b) = elim (cases_lt j i) [
      | inl early ↦ absurd ((fine.each j (omega arith) early).alone w f r (itself (subst (λ x. Allowed p w x n r → ⊥) e b)))
      | inr late ↦ elim (cases_lt i j) [
        | inl later ↦ omega arith
        | inr not_later ↦
            let here : j ≡ i = omega arith in
            let place : k ≡ first + i = omega arith in
            let same : w ≡ o.word = same_at ws i w o.word (subst (λ x. slice_get ws x ≡ Some w) here f) o.at in
            absurd (o.alone r (itself (subst (λ x. Allowed p o.word x n r → ⊥) place (subst (λ x. Allowed p x k n r → ⊥) same b))))
      ]
    ]
    at_least fine k r (unmet_inside j d w nd e f ten due misses last) = elim (cases_lt j i) [
      | inl early ↦ absurd ((fine.each j (omega arith) early).after d w nd due f misses last)
      | inr late ↦ omega arith
    ]

pub one_more_kept : (p : Profile) (ws : List ℕ) (first n i gone word : ℕ) (need left : Need) → AreKeptAfter p ws first n i gone need → slice_get ws (i + gone + 1) ≡ Some word
    → IsLeastBroken p word need (first + (i + gone + 1)) n None → Leaves p word need left → AreKeptAfter p ws first n i (gone + 1) left
one_more_kept p ws first n i gone word need left a at kept leaves = record {
  left = subst (λ x. IsOpenAt p ws x left) place (next_open p ws (i + gone + 1) word need left a.left at leaves);
  none = λ fine. subst (λ x. NoneBefore p ws first n x) place (next_none p ws first n (i + gone + 1) word need at (a.none fine) a.left kept);
  kept = λ d w opened less due e misses last. elim (cases_lt d gone) [
    | inl before ↦ a.kept d w opened before due e misses last
    | inr not_before ↦ here d w opened (omega arith) due e misses last
  ];
}
  where
    place : i + gone + 1 + 1 ≡ i + (gone + 1) + 1
    place = omega arith

    here : (d w : ℕ) (opened : Need) → d ≡ gone → IsDue p ws i d opened → slice_get ws (i + d + 1) ≡ Some w
        → (Meets p w opened → ⊥) → (IsCalm p w → d + 1 ≡ term_of opened) → ⊥
    here d w opened same due e misses last =
        let at_d : i + gone + 1 ≡ i + d + 1 = omega arith in
        let w_is : w ≡ word = same_at ws (i + d + 1) w word e (subst (λ x. slice_get ws x ≡ Some word) at_d at) in
        let left_is : need ≡ rest_of opened d = open_same p ws (i + gone + 1) need (rest_of opened d) a.left (some_due i d opened at_d due refl) in
        kept NeedMet (unmet refl (not_kept p word opened need d due.term left_is (subst (λ x. Meets p x opened → ⊥) w_is misses) (subst (λ x. IsCalm p x → d + 1 ≡ term_of opened) w_is last)))

-- nothing is due behind them that a word could fail
fine_end : (p : Profile) (ws : List ℕ) (first n i gone : ℕ) (opened need : Need) → OpensAt p ws first n i opened → AreKeptAfter p ws first n i gone need
    → ((d w : ℕ) (nd : Need) → gone ≤ d → IsDue p ws i d nd → slice_get ws (i + d + 1) ≡ Some w → ⊥) → IsFine p ws first n i
fine_end p ws first n i gone opened need o a none = record {
  alone = λ w e. subst (λ x. IsLeastBroken p x Nothing (first + i) n None) (same_at ws i o.word w o.at e) o.alone;
  after = λ d w nd due e misses last. elim (cases_lt d gone) [
    | inl before ↦ a.kept d w nd before due e misses last
    | inr not_before ↦ none d w nd not_before due e
  ];
}

pub fine_closed : (p : Profile) (ws : List ℕ) (first n i gone : ℕ) (opened need : Need) → OpensAt p ws first n i opened → AreKeptAfter p ws first n i gone need → need ≡ Nothing → IsFine p ws first n i
fine_closed p ws first n i gone opened need o a nothing = fine_end p ws first n i gone opened need o a (λ d w nd past due e.
    open_closed p ws (i + gone + 1) need a.left nothing i gone nd refl (due_down p ws i d gone nd due past))

pub fine_at_end : (p : Profile) (ws : List ℕ) (first n i gone : ℕ) (opened need : Need) → OpensAt p ws first n i opened → AreKeptAfter p ws first n i gone need → length ws ≤ i + gone + 1 → IsFine p ws first n i
fine_at_end p ws first n i gone opened need o a end = fine_end p ws first n i gone opened need o a (λ d w nd past due e.
    let within : i + d + 1 < length ws = slice_get_within ws (i + d + 1) w e in
    omega arith)

pub fine_over : (p : Profile) (ws : List ℕ) (first n i gone : ℕ) (opened need : Need) → OpensAt p ws first n i opened → AreKeptAfter p ws first n i gone need → window p ≤ gone → IsFine p ws first n i
fine_over p ws first n i gone opened need o a all = fine_end p ws first n i gone opened need o a (λ d w nd past due e.
    let term : d < term_of nd = due.term in
    let most : term_of nd ≤ window p = opens_term p due.opening nd due.opens in
    omega arith)
