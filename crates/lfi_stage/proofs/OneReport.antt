-- Of the same texts, causes and claims there is one report.
use Rattle.std.proofs.Common.{◌≡◌, ◌⊎◌, ◌-◌, ◌^◌, ◌<◌, ◌≤◌, ℕ, zero, suc, List, [], ◌∷◌, Bool, true, false, Option, Some, None, length, sum, min, inl, inr, refl, sym, ◌∙◌, ap, subst, arith, slice_get, get_or, slice_index}
use Rattle.lfi_module.specs.Numbers.{module_count}
use Rattle.lfi_model.specs.Item.{ItemView}
use Rattle.lfi_model.specs.Outcomes.{Load}
use Rattle.lfi_model.specs.declared.outcome.Outcome.{Outcome}
use Rattle.lfi_model.proofs.OneText.{same_items, same_fault, same_strays}
use Rattle.lfi_model.proofs.OneOutcome.{one_outcome}
use Rattle.lfi_sequence.specs.Placed.{extent_at}
use Rattle.lfi_sequence.specs.Tells.{Tells}
use Rattle.lfi_sequence.specs.declared.report.ModuleReport.{ModuleReport}
use Rattle.lfi_model.specs.declared.connection.EndCause.{EndCause}
use Rattle.lfi_stage.specs.declared.settlement.Report.{Report}
use Rattle.lfi_receive.specs.declared.start.MessageStart.{MessageStart}
use Rattle.lfi_stage.specs.Reports.{Reports, IsClaimer}
use Rattle.lfi_stage_model.proofs.Each.{some_same}

-- a connection that claimed the module, or that none did
abbrev Claimer : ℕ → (ℕ → ℕ → Bool) → ℕ → Type 0
Claimer n claims m = ((c : ℕ) × (c < n) × (claims c m ≡ true)) ⊎ ((c : ℕ) → c < n → claims c m ≡ false)

claimer : (n : ℕ) (claims : ℕ → ℕ → Bool) (m : ℕ) → Claimer n claims m
claimer zero claims m = inr (λ c within. absurd (omega (arith, within)))
claimer (suc n) claims m = by (claims 0 m) refl (claimer n (λ c. claims (suc c)) m)
  where
    by : (b : Bool) → claims 0 m ≡ b → Claimer n (λ c. claims (suc c)) m → Claimer (suc n) claims m
    by true is later = inl (0, omega arith, is)
    by false is (inl found) = inl (suc found.0, (let low = found.1 in omega arith), found.2)
    by false is (inr none) = inr none_of
      where
        none_of : (c : ℕ) → c < suc n → claims c m ≡ false
        none_of zero within = is
        none_of (suc c) within = none c (omega (arith, within))

within_or_past : (c n : ℕ) → (c < n) ⊎ (n ≤ c)
within_or_past c zero = inr (omega arith)
within_or_past zero (suc n) = inl (omega arith)
within_or_past (suc c) (suc n) = elim (within_or_past c n) [
  | inl low ↦ inl (omega (arith, low))
  | inr high ↦ inr (omega (arith, high))
]

-- lists of one length with the same numbers are the same
same_numbers : (xs ys : List ℕ) → length xs ≡ length ys → ((c : ℕ) → c < length xs → slice_index xs c ≡ slice_index ys c) → xs ≡ ys
same_numbers [] [] long same = refl
same_numbers [] (y ∷ ys) long same = absurd (omega (arith, long))
same_numbers (x ∷ xs) [] long same = absurd (omega (arith, long))
same_numbers (x ∷ xs) (y ∷ ys) long same =
    let first : x ≡ y = same 0 (omega arith) in
    let later : xs ≡ ys = same_numbers xs ys (omega (arith, long)) (λ c within. same (suc c) (omega (arith, within))) in cc

module _ (connections : ℕ) (texts : ℕ → List ℕ) (causes : ℕ → EndCause) (claims : ℕ → ℕ → Bool) (one other : Report) (a : Reports connections texts causes claims one) (b : Reports connections texts causes claims other) where
  items_same : (m c : ℕ) → m < module_count → c < connections → a.items c m ≡ b.items c m
  items_same m c in_range within =
      same_items (texts c) (causes c) (claims c) (a.items c) (b.items c) (get_or one.faults c None) (get_or other.faults c None) (slice_index a.strays c) (slice_index b.strays c) (a.made c within) (b.made c within) m in_range

  -- what two reports tell of the same items
  same_told : (m : ℕ) (s t u v : ModuleReport) (items again : List ItemView) → items ≡ again → Some s ≡ Some t → Some u ≡ Some v → Tells m s items → Tells m u again → t.outcome ≡ v.outcome
  same_told m s t u v items again e st uv ts tu =
      let first : s ≡ t = some_same s t st in
      let second : u ≡ v = some_same u v uv in
      sym (ap outcome_of first) ∙ one_outcome (extent_at items) items s.outcome u.outcome ts.outcome (subst (λ l. Load (extent_at l) l u.outcome) (sym e) tu.outcome) ∙ ap outcome_of second
    where
      outcome_of : ModuleReport → Outcome
      outcome_of told = told.outcome

  pub one_of_modules : (m : ℕ) (told again : ModuleReport) → m < module_count → slice_get one.modules m ≡ Some told → slice_get other.modules m ≡ Some again → told.outcome ≡ again.outcome
  one_of_modules m told again in_range at_one at_other = elim (claimer connections claims m) [
    | inl found ↦
        let c = found.0 in let within = found.1 in let mine = found.2 in
        let x = a.claimed m in_range c within mine in
        let y = b.claimed m in_range c within mine in
        same_told m x.0 told y.0 again (a.items c m) (b.items c m) (items_same m c in_range within) (sym x.1 ∙ at_one) (sym y.1 ∙ at_other) x.2 y.2
    | inr none ↦
        let x = a.unclaimed m in_range none in
        let y = b.unclaimed m in_range none in
        same_told m x.0 told y.0 again [] [] refl (sym x.1 ∙ at_one) (sym y.1 ∙ at_other) x.2 y.2
  ]

  pub one_of_faults : (c : ℕ) → get_or one.faults c None ≡ get_or other.faults c None
  one_of_faults c = elim (within_or_past c connections) [
    | inl within ↦ same_fault (texts c) (causes c) (claims c) (a.items c) (b.items c) (get_or one.faults c None) (get_or other.faults c None) (slice_index a.strays c) (slice_index b.strays c) (a.made c within) (b.made c within)
    | inr past ↦ a.no_fault c past ∙ sym (b.no_fault c past)
  ]

  pub one_of_holders : (m : ℕ) → m < module_count → get_or one.holders m None ≡ get_or other.holders m None
  one_of_holders m in_range = by (get_or one.holders m None) (get_or other.holders m None) (a.holders m in_range) (b.holders m in_range)
    where
      by : (x y : Option ℕ) → IsClaimer connections (λ c. claims c m) x → IsClaimer connections (λ c. claims c m) y → x ≡ y
      by None None none nobody = refl
      by None (Some d) none it = absurd (let both : true ≡ false = sym it.1 ∙ none d it.0 in cc)
      by (Some c) None is none = absurd (let both : true ≡ false = sym is.1 ∙ none c is.0 in cc)
      by (Some c) (Some d) is it = ap (λ k. Some k) (a.apart c d m is.0 it.0 in_range is.1 it.1)

  pub one_of_starts : (c : ℕ) (start again : MessageStart) → c < connections → slice_get one.starts c ≡ Some start → slice_get other.starts c ≡ Some again → start.byte ≡ again.byte
  one_of_starts c start again within at_one at_other =
      let made = a.made c within in
      let x = a.starts c made.messages made.rest within made.cut in
      let y = b.starts c made.messages made.rest within made.cut in
      ap byte_of (some_same start x.0 (sym at_one ∙ x.1)) ∙ x.2.byte ∙ sym y.2.byte ∙ ap byte_of (some_same y.0 again (sym y.1 ∙ at_other))
    where
      byte_of : MessageStart → ℕ
      byte_of s = s.byte

  pub one_of_each : (c : ℕ) → slice_index one.connection_strays c ≡ slice_index other.connection_strays c
  one_of_each c = elim (within_or_past c connections) [
    | inl within ↦
        a.each c within
        ∙ ap (λ n. min n (2 ^ 64 - 1)) (same_strays (texts c) (causes c) (claims c) (a.items c) (b.items c) (get_or one.faults c None) (get_or other.faults c None) (slice_index a.strays c) (slice_index b.strays c) (a.made c within) (b.made c within))
        ∙ sym (b.each c within)
    | inr past ↦ a.no_strays c past ∙ sym (b.no_strays c past)
  ]

  pub one_of_strays : one.strays ≡ other.strays
  one_of_strays = a.total ∙ ap (λ l. min (sum l) (2 ^ 64 - 1)) (same_numbers a.strays b.strays (a.counted ∙ sym b.counted) each) ∙ sym b.total
    where
      each : (c : ℕ) → c < length a.strays → slice_index a.strays c ≡ slice_index b.strays c
      each c within =
          let counted = a.counted in
          let inside : c < connections = omega (arith, within, counted) in
          same_strays (texts c) (causes c) (claims c) (a.items c) (b.items c) (get_or one.faults c None) (get_or other.faults c None) (slice_index a.strays c) (slice_index b.strays c) (a.made c inside) (b.made c inside)
