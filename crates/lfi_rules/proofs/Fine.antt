-- Words that are fine, and the first fault after them.
use Rattle.std.proofs.Common.{◌≡◌, ℕ, zero, suc, ◌+◌, ◌<◌, ◌≤◌, List, length, Some, None, refl, subst, sym, ap, ◌∙◌, arith, inl, inr, ◌⊎◌}
use Rattle.std.specs.Prelude.{slice_get, slice_index}
use Rattle.std.proofs.lemmas.Bool.{cases_lt}
use Rattle.std.proofs.lemmas.Option.{slice_get_within, slice_get-get_or}
use Rattle.lfi_module.specs.declared.profile.Profile.{Profile}
use Rattle.lfi_rules.specs.declared.needs.Need.{Need}
use Rattle.lfi_rules.specs.declared.needs.Need.TheVariants.{Nothing, Call, Guard, Probe}
use Rattle.lfi_rules.specs.declared.rule.Rule.{Rule}
use Rattle.lfi_rules.specs.Rules.{rule_number}
use Rattle.lfi_rules.specs.Needs.{term_of}
use Rattle.lfi_rules.specs.Calm.{IsCalm}
use Rattle.lfi_rules.specs.Faults.{Opens, opens_by, Meets, meets_nothing, Allowed, IsDue, BreaksInside, by_itself, Leaves, opening, waiting, IsFirstInside}
use Rattle.lfi_rules.specs.Faults.{unmet as unmet_inside}
use Rattle.lfi_rules.specs.inner.Quiet.{IsToldWord}
use Rattle.lfi_rules.specs.inner.Least.{met, BreaksAfter, itself, unmet, IsLeastBroken, NoneBefore}
use Rattle.lfi_rules.specs.inner.Passing.{in_profile, IsMetAfter, IsFine, AreFine}
use Rattle.lfi_rules.proofs.Broken.{Opens-same, quiet_keeps, opens_in, calm_opens}
use Rattle.lfi_rules.proofs.Due.{same_at}
use Rattle.lfi_rules.proofs.Probes.{probe_not_calm, in_profile_met}
use Rattle.lfi_rules.proofs.Inside.{none_at_end}

-- a calm word doesn't meet a need that still has a later word
not_over : (p : Profile) (w d : ℕ) (need : Need) → 1 ≤ d → d < term_of need → Meets p w need → IsCalm p w → ⊥
not_over p w d Nothing some term m calm = omega arith
not_over p w d Call some term m calm = omega arith
not_over p w d Guard some term m calm = omega arith
not_over p w d (Probe count) some term m calm = probe_not_calm p w count m calm

-- what is due from a word whose next one meets what it opens isn't failed
not_failed : (p : Profile) (ws : List ℕ) (i d word : ℕ) (need : Need) → IsDue p ws i d need → IsMetAfter p ws i need → slice_get ws (i + d + 1) ≡ Some word → (Meets p word need → ⊥) → ⊥
not_failed p ws i zero word need due m at misses = let e : i + zero + 1 ≡ i + 1 = omega arith in misses (m word (subst (λ x. slice_get ws x ≡ Some word) e at))
not_failed p ws i (suc d) word need due m at misses =
    let end : i + suc d + 1 < length ws = slice_get_within ws (i + suc d + 1) word at in
    let next : ℕ = slice_index ws (i + 1) in
    let there : slice_get ws (i + 1) ≡ Some next = slice_get-get_or ws (i + 1) 0 (omega arith) in
    not_over p next (suc d) need (omega arith) due.term (m next there) (due.calm (i + 1) next (omega arith) (omega arith) there)

-- a word that keeps the rules, and the next meets what it opens
pub fine_opening : (p : Profile) (ws : List ℕ) (first n i word : ℕ) (need : Need) → slice_get ws i ≡ Some word → IsToldWord p word (first + i) n need → IsMetAfter p ws i need → IsFine p ws first n i
fine_opening p ws first n i word need at q m = record {
  alone = λ w e. subst (λ x. IsLeastBroken p x Nothing (first + i) n None) (same_at ws i word w at e) (quiet_keeps p word (first + i) n Nothing need q (met (meets_nothing refl)));
  after = λ d next nd due e misses last.
      let here : due.opening ≡ word = same_at ws i due.opening word due.at at in
      let opens : Opens p word (in_profile p need) = opens_by q.instruction q.spells (opens_in p q.instruction ∙ ap (in_profile p) q.quiet.opens) in
      let same : nd ≡ in_profile p need = Opens-same p word nd (in_profile p need) (subst (λ x. Opens p x nd) here due.opens) opens in
      not_failed p ws i d next nd due (λ v f. subst (λ x. Meets p v x) (sym same) (in_profile_met p v need (m v f))) e misses;
}

pub fine_quiet : (p : Profile) (ws : List ℕ) (first n i word : ℕ) → slice_get ws i ≡ Some word → IsToldWord p word (first + i) n Nothing → IsFine p ws first n i
fine_quiet p ws first n i word at q = fine_opening p ws first n i word Nothing at q (λ next e. meets_nothing refl)

-- what a word leaves after nothing is what it opens
pub leaves_opens : (p : Profile) (word : ℕ) (opened : Need) → Leaves p word Nothing opened → Opens p word opened
leaves_opens p word opened (opening o other) = o
leaves_opens p word opened (waiting calm e) = subst (λ x. Opens p word x) (sym e) (calm_opens p word calm)

-- a word that was looked at, which opens nothing
pub fine_alone : (p : Profile) (ws : List ℕ) (first n i word : ℕ) (opened : Need) → slice_get ws i ≡ Some word → IsLeastBroken p word Nothing (first + i) n None → Opens p word opened
    → opened ≡ Nothing → IsFine p ws first n i
fine_alone p ws first n i word opened at kept o nothing = record {
  alone = λ w e. subst (λ x. IsLeastBroken p x Nothing (first + i) n None) (same_at ws i word w at e) kept;
  after = λ d next nd due e misses last.
      let here : due.opening ≡ word = same_at ws i due.opening word due.at at in
      let none : term_of nd ≡ 0 = ap term_of (Opens-same p word nd opened (subst (λ x. Opens p x nd) here due.opens) o ∙ nothing) in
      let term : d < term_of nd = due.term in
      omega arith;
}

-- nothing of fine words breaks a rule before the word after them
pub none_of_fine : (p : Profile) (ws : List ℕ) (first n i : ℕ) → AreFine p ws first n 0 i → NoneBefore p ws first n i
none_of_fine p ws first n i fine = record { later = at_least } where
  at_least : (k : ℕ) (r : Rule) → BreaksInside p ws first n k r → first + i ≤ k
  at_least k r (by_itself j w e at broken) = elim (cases_lt j i) [
    | inl early ↦ absurd ((fine.each j (omega arith) early).alone w at r (itself (subst (λ x. Allowed p w x n r → ⊥) e broken)))
    | inr late ↦ omega arith
  ]
  at_least k r (unmet_inside j d w nd e at ten due misses last) = elim (cases_lt j i) [
    | inl early ↦ absurd ((fine.each j (omega arith) early).after d w nd due at misses last)
    | inr late ↦ omega arith
  ]

pub none_of_all : (p : Profile) (ws : List ℕ) (first n : ℕ) → AreFine p ws first n 0 (length ws) → IsFirstInside p ws first n None
none_of_all p ws first n fine = none_at_end p ws first n (none_of_fine p ws first n (length ws) fine)

-- what the word after fine ones breaks by itself
pub fault_alone : (p : Profile) (ws : List ℕ) (first n i word : ℕ) (rule : Rule) → slice_get ws i ≡ Some word → AreFine p ws first n 0 i → IsLeastBroken p word Nothing (first + i) n (Some rule)
    → IsFirstInside p ws first n (Some (record { word = first + i; rule = rule }))
fault_alone p ws first n i word rule at fine broken = record { breaks = breaks rule broken.0; least = least } where
  breaks : (r : Rule) → BreaksAfter p word Nothing (first + i) n r → BreaksInside p ws first n (first + i) r
  breaks r (itself b) = by_itself i word refl at b
  breaks r (unmet ten misses) = absurd (misses (met (meets_nothing refl)))

  least : (k : ℕ) (r : Rule) → BreaksInside p ws first n k r → (first + i < k) ⊎ ((first + i ≡ k) × (rule_number rule ≤ rule_number r))
  least k r (by_itself j w e f b) = elim (cases_lt j i) [
    | inl early ↦ absurd ((fine.each j (omega arith) early).alone w f r (itself (subst (λ x. Allowed p w x n r → ⊥) e b)))
    | inr late ↦ elim (cases_lt i j) [
      | inl later ↦ inl (omega arith)
      | inr not_later ↦
          let here : j ≡ i = omega arith in
          let place : k ≡ first + i = omega arith in
          let same : w ≡ word = same_at ws i w word (subst (λ x. slice_get ws x ≡ Some w) here f) at in
          inr (sym place, broken.1 r (itself (subst (λ x. Allowed p word x n r → ⊥) place (subst (λ x. Allowed p x k n r → ⊥) same b))))
    ]
  ]
  least k r (unmet_inside j d w nd e f ten due misses last) = elim (cases_lt j i) [
    | inl early ↦ absurd ((fine.each j (omega arith) early).after d w nd due f misses last)
    | inr late ↦ inl (omega arith)
  ]

pub joined_fine : (p : Profile) (ws : List ℕ) (first n start middle stop : ℕ) → AreFine p ws first n start middle → AreFine p ws first n middle stop → AreFine p ws first n start stop
joined_fine p ws first n start middle stop a b = record {
  each = λ i low high. elim (cases_lt i middle) [
    | inl early ↦ a.each i low early
    | inr late ↦ b.each i late high
  ];
}

pub none_fine : (p : Profile) (ws : List ℕ) (first n i : ℕ) → AreFine p ws first n i i
none_fine p ws first n i = record { each = λ j low high. absurd (omega arith) }
