-- What the word at one place breaks, by what it breaks after what is open there and by what it leaves open.
use Rattle.std.proofs.Common.{◌≡◌, ◌≢◌, ℕ, ◌+◌, List, Some, None, refl, subst, sym, ap, arith, inl, inr, ◌⊎◌}
use Rattle.std.specs.List.{slice_get}
use Rattle.lfi_module.specs.declared.profile.Profile.{Profile}
use Rattle.lfi_rules.specs.declared.needs.Need.{Need}
use Rattle.lfi_rules.specs.declared.needs.Need.TheVariants.{Nothing, Call, Guard, Probe}
use Rattle.lfi_rules.specs.declared.rule.Rule.{Rule}
use Rattle.lfi_rules.specs.declared.rule.Rule.TheVariants.{NeedMet}
use Rattle.lfi_rules.specs.Rules.{rule_number}
use Rattle.lfi_rules.specs.Faults.{BreaksInside, Breaks, inside, left_open, IsOpenAt, some_due, none_due, IsLeastAt}
use Rattle.lfi_rules.specs.inner.Least.{BreaksAfter, IsLeastBroken, unclosed}
use Rattle.lfi_rules.proofs.Broken.{number_range}
use Rattle.lfi_rules.proofs.Due.{open_closed}
use Rattle.lfi_rules.proofs.Inside.{break_after, break_here}

-- a word at its place, with what is open before it and after it
pub record IsAt (p : Profile) (ws : List ℕ) (k word : ℕ) (need left : Need) : Type 0 where
  pub here : slice_get ws k ≡ Some word
  pub before : IsOpenAt p ws k need
  pub after : IsOpenAt p ws (k + 1) left

-- A break there is one of the word after the need; or the module ends with what the word leaves open.
by_either : (p : Profile) (ws : List ℕ) (n k word : ℕ) (need left : Need) → IsAt p ws k word need left → (rule : Rule) → Breaks p ws n k rule
    → BreaksAfter p word need k n rule ⊎ ((rule ≡ NeedMet) × (k + 1 ≡ n) × (left ≢ Nothing))
by_either p ws n k word need left at rule (inside h) = inl (break_after p ws 0 n k word need at.here at.before k rule h (omega arith))
by_either p ws n k word need left at rule (left_open i d nd e last ten due) =
    inr (ten, last, λ nothing. open_closed p ws (k + 1) left at.after nothing i d nd (omega arith) due)

breaks_here : (p : Profile) (ws : List ℕ) (n k word : ℕ) (need left : Need) → IsAt p ws k word need left → (rule : Rule) → BreaksAfter p word need k n rule → Breaks p ws n k rule
breaks_here p ws n k word need left at rule b =
    let same : 0 + k ≡ k = omega arith in
    inside (subst (λ x. BreaksInside p ws 0 n x rule) same (break_here p ws 0 n k word need at.here at.before rule (subst (λ x. BreaksAfter p word need x n rule) (sym same) b)))

pub least_some : (p : Profile) (ws : List ℕ) (n k word : ℕ) (need left : Need) → IsAt p ws k word need left → (rule : Rule)
    → IsLeastBroken p word need k n (Some rule) → IsLeastAt p ws n k (Some rule)
least_some p ws n k word need left at rule b = (
  breaks_here p ws n k word need left at rule b.0,
  λ other h. elim (by_either p ws n k word need left at other h) [
    | inl after ↦ b.1 other after
    | inr last ↦ let ten : rule_number other ≡ 10 = ap rule_number last.0 in let range = number_range rule in omega (arith, range.1)
  ],
)

pub least_none : (p : Profile) (ws : List ℕ) (n k word : ℕ) (need left : Need) → IsAt p ws k word need left → (k + 1 ≡ n → left ≡ Nothing)
    → IsLeastBroken p word need k n None → IsLeastAt p ws n k None
least_none p ws n k word need left at closes b rule h = elim (by_either p ws n k word need left at rule h) [
  | inl after ↦ b rule after
  | inr last ↦ last.2 (closes last.1)
]

-- what is due where something is open
left_due : (p : Profile) (ws : List ℕ) (n k : ℕ) (left : Need) → IsOpenAt p ws (k + 1) left → left ≢ Nothing → k + 1 ≡ n → Breaks p ws n k NeedMet
left_due p ws n k left (none_due e none) some last = absurd (some e)
left_due p ws n k left (some_due i d opened e due rest) some last = left_open i d opened (omega arith) last refl due

least_open : (p : Profile) (ws : List ℕ) (n k word : ℕ) (need left : Need) → IsAt p ws k word need left → k + 1 ≡ n → left ≢ Nothing
    → IsLeastBroken p word need k n None → IsLeastAt p ws n k (Some NeedMet)
least_open p ws n k word need left at last some b = (
  left_due p ws n k left at.after some last,
  λ other h. elim (by_either p ws n k word need left at other h) [
    | inl after ↦ absurd (b other after)
    | inr unmet ↦ let ten : rule_number other ≡ 10 = ap rule_number unmet.0 in omega arith
  ],
)

pub least_last : (p : Profile) (ws : List ℕ) (n k word : ℕ) (need left : Need) → IsAt p ws k word need left → k + 1 ≡ n
    → IsLeastBroken p word need k n None → IsLeastAt p ws n k (unclosed left)
least_last p ws n k word need Nothing at last b = least_none p ws n k word need Nothing at (λ e. refl) b
least_last p ws n k word need Call at last b = least_open p ws n k word need Call at last (λ x. cc) b
least_last p ws n k word need Guard at last b = least_open p ws n k word need Guard at last (λ x. cc) b
least_last p ws n k word need (Probe count) at last b = least_open p ws n k word need (Probe count) at last (λ x. cc) b
