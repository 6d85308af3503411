-- Where all items of a module were taken, nothing waits.
use Rattle.std.proofs.Common.{◌≡◌, ℕ, zero, suc, ◌+◌, ◌<◌, ◌≤◌, ◌==◌, List, [], ◌∷◌, ◌++◌, length, Option, Some, None, ◌⊎◌, refl, sym, ◌∙◌, ap, subst, inl, inr, arith, length-append}
use Rattle.std.specs.Prelude.{nat_lt, if◌then◌else◌}
use Rattle.std.specs.List.Sorted.{IsPermutation}
use Rattle.std.proofs.lemmas.Bool.{cases_lt, eqb-true}
use Rattle.std.proofs.lemmas.List.Sorted.{IsPermutation-sym, length_permutation}
use Rattle.lfi_model.specs.Item.{ItemView}
use Rattle.lfi_model.specs.Modules.{Member, IsModule}
use Rattle.lfi_sequence.specs.Come.{first_of}
use Rattle.lfi_sequence.proofs.Comes.{come_once, found_is_member, joined, split}
use Rattle.lfi_sequence.proofs.Chain.{permuted_come, member_permutation}
use Rattle.lfi_sequence.specs.declared.sequence.Sequence.{Sequence}
use Rattle.lfi_sequence.specs.Sequenced.{waiting, Sequenced}
use Rattle.lfi_sequence.proofs.Steps.{at_least, below}

abbrev AtPlace : {A : Type 0} → List A → ℕ → Type 0
AtPlace {A} xs k = (before : List A) × (after : List A) × (x : A) × (xs ≡ before ++ x ∷ after) × (length before ≡ k)

at_place : {A : Type 0} → (xs : List A) (k : ℕ) → k < length xs → AtPlace xs k
at_place [] k within = absurd (omega arith)
at_place (y ∷ ys) zero within = ([], ys, y, refl, refl)
at_place (y ∷ ys) (suc k) within = (let r : AtPlace ys k = at_place ys k (omega arith) in (y ∷ r.0, r.1, r.2, ap (λ l. y ∷ l) r.3, (let l = r.4 in omega arith)))

module _ (s : Sequence) (taken : List ItemView) (sequenced : Sequenced s taken) where
  pub come_or_waiting : (k : ℕ) (x : ItemView) → first_of taken k ≡ Some x → Member sequenced.come x ⊎ (waiting s.table.items k ≡ Some x)
  come_or_waiting k x first = elim (cases_lt k (length sequenced.come)) [
    | inl within ↦
        let p : AtPlace sequenced.come k = at_place sequenced.come k within in
        let known : first_of taken (length p.0) ≡ Some p.2 = (sequenced.has_come.each p.0 p.1 p.2 p.3).first in
        let same : Some p.2 ≡ Some x = sym known ∙ ap (first_of taken) p.4 ∙ first in
        let one : p.2 ≡ x = cc in
        inl (subst (λ z. Member sequenced.come z) one (subst (λ l. Member l p.2) (sym p.3) (joined p.0 p.1 p.2)))
    | inr past ↦ inr (sequenced.holds.waits k ∙ at_least k (length sequenced.come) None (first_of taken k) past ∙ first)
  ]

  module _ (items : List ItemView) (numbered : IsModule items) (permuted : IsPermutation items taken) where
    pub come_is : sequenced.come ≡ items
    come_is = come_once taken sequenced.come items sequenced.has_come (permuted_come items taken numbered permuted)

    none_past : (k : ℕ) → length items ≤ k → (o : Option ItemView) → first_of taken k ≡ o → o ≡ None
    none_past k past None is = refl
    none_past k past (Some x) is =
        let m = found_is_member (λ item. item.ordinal == k) taken x is in
        let p = split items x (member_permutation taken items (IsPermutation-sym items taken permuted) x m.1) in
        let place : x.ordinal ≡ length p.0 = (numbered p.0 p.1 x p.2).ordinal in
        let here : x.ordinal ≡ k = eqb-true x.ordinal k m.0 in
        let long : length items ≡ length p.0 + length (x ∷ p.1) = ap length p.2 ∙ length-append p.0 (x ∷ p.1) in
        absurd (omega arith)

    pub nothing_waits : (k : ℕ) → waiting s.table.items k ≡ None
    nothing_waits k = sequenced.holds.waits k ∙ elim (cases_lt k (length sequenced.come)) as (λ _. (if nat_lt k (length sequenced.come) then None else first_of taken k) ≡ None) [
      | inl within ↦ below k (length sequenced.come) None (first_of taken k) within
      | inr past ↦ at_least k (length sequenced.come) None (first_of taken k) past ∙ none_past k (let l = ap length come_is in omega arith) (first_of taken k) refl
    ]

pub no_second : (taken items : List ItemView) → IsModule items → IsPermutation items taken → (x : ItemView) → Member taken x → first_of taken x.ordinal ≡ Some x
no_second taken items numbered permuted x here =
    let p = split items x (member_permutation taken items (IsPermutation-sym items taken permuted) x here) in
    ap (first_of taken) (numbered p.0 p.1 x p.2).ordinal ∙ ((permuted_come items taken numbered permuted).each p.0 p.1 x p.2).first

pub same_count : (taken items : List ItemView) → IsPermutation items taken → length taken ≡ length items
same_count taken items permuted = length_permutation items taken permuted
