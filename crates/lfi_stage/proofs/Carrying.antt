-- One more item is carried to its sequence.
use Rattle.std.proofs.Common.{◌≡◌, ◌≢◌, ℕ, zero, suc, ◌+◌, ◌≤◌, ◌<◌, ◌==◌, Bool, true, false, cond, get_or, List, [], ◌∷◌, ◌++◌, length, refl, sym, ◌∙◌, ap, subst, inl, inr, arith}
use Rattle.std.specs.Prelude.{Option, Some, None, if◌then◌else◌, nat_lt, ◌⊎◌}
use Rattle.std.proofs.lemmas.Bool.Decides.{eqb_tells}
use Rattle.std.proofs.lemmas.Bool.{eqb-true, cases_lt}
use Rattle.std.proofs.Math.ListN.{set, get_or-eq_default}
use Rattle.std.proofs.lemmas.List.{get_or-set_same, get_or-set_other}
use Rattle.lfi_model.specs.Item.{ItemView}
use Rattle.lfi_queues.specs.Kept.{with_last}
use Rattle.lfi_queues.specs.Passes.{QueueId, PassView, items_at, AreAllPasses, after_rest, with_first}
use Rattle.lfi_queues.proofs.Rest.{first_taken, other_taken}
use Rattle.lfi_sequence.specs.Delivers.{Carries, with_last_in, with_held}
use Rattle.lfi_sequence.proofs.Carrying.{hand_carried, rest_taken}
use Rattle.lfi_sequence.specs.declared.sequence.Sequence.{Sequence}
use Rattle.lfi_sequence.proofs.Steps.{at_least, below}
use Rattle.lfi_stage.specs.Settled.{HasHandled, HaveHandled, SettlesBut, Settles}
use Rattle.lfi_sequence.specs.Sequenced.{Sequenced}
use Rattle.lfi_stage.specs.inner.Rows.{held_by, HasMore}

handled_as : (sequences : List (Option Sequence)) (f g : ℕ → List ItemView) → ((m : ℕ) → f m ≡ g m) → HaveHandled sequences f → HaveHandled sequences g
handled_as sequences f g same handled m in_range = subst (λ l. HasHandled sequences m l) (same m) (handled m in_range)

empty_again : (x : ItemView) (v : ℕ) → with_held (with_held (λ w. None) 0 (Some x)) 0 None v ≡ None
empty_again x v = by (0 == v)
  where
    by : (b : Bool) → (if b then None else (if b then Some x else None)) ≡ None
    by true = refl
    by false = refl

-- what a verifier holds is carried on
pub settles_hand : (takes : ℕ → List ItemView) (held now : ℕ → Option ItemView) (old new : List (Option Sequence)) (v : ℕ) (j : ItemView) → held v ≡ Some j → ((w : ℕ) → with_held held v None w ≡ now w) → SettlesBut takes held old
    → ((taken : ℕ → List ItemView) → HaveHandled old taken → HaveHandled new (with_last taken j.«module» j)) → SettlesBut takes now new
settles_hand takes held now old new v j is same s handles = record {
  lane_puts = with_last_in s.lane_puts j.«module» v j;
  lane_takes = with_last_in s.lane_takes j.«module» 0 j;
  carries = subst (λ (h : ℕ → Option ItemView). Carries takes (with_last_in s.lane_puts j.«module» v j) (with_last_in s.lane_takes j.«module» 0 j) h) (λ i w. same w i) (hand_carried takes s.lane_puts s.lane_takes held s.carries v j is);
  handled = handled_as new (with_last (λ m. s.lane_takes m 0) j.«module» j) (λ m. with_last_in s.lane_takes j.«module» 0 j m 0) (λ m. more (j.«module» == m) (s.lane_takes m)) (handles (λ m. s.lane_takes m 0) s.handled);
}
  where
    more : (b : Bool) (lists : ℕ → List ItemView) → cond b (lists 0 ++ j ∷ []) (lists 0) ≡ (if b then with_last lists 0 j 0 else lists 0)
    more true lists = refl
    more false lists = refl

-- the first verifier takes an item that is left, and it is carried on
pub settles_more : (takes : ℕ → List ItemView) (old new : List (Option Sequence)) (x : ItemView) → Settles takes old → ((taken : ℕ → List ItemView) → HaveHandled old taken → HaveHandled new (with_last taken x.«module» x)) → Settles (with_last takes 0 x) new
settles_more takes old new x s handles =
    let held = with_held (λ v. None) 0 (Some x) in
    let took : SettlesBut (with_last takes 0 x) held old = record { lane_puts = s.lane_puts; lane_takes = s.lane_takes; carries = rest_taken takes s.lane_puts s.lane_takes (λ v. None) s.carries 0 x refl; handled = s.handled } in
    settles_hand (with_last takes 0 x) held (λ v. None) old new 0 x refl (empty_again x) took handles

-- what the passes took, after a `rest`
pub rest_last : (q : QueueId) (n : ℕ) (takes : List (Option (PassView ItemView))) (x : ItemView) → 0 < n → AreAllPasses q n takes → (k : ℕ) → with_last (items_at takes) 0 x k ≡ items_at (with_first takes (λ p. after_rest p (Some x))) k
rest_last q n takes x some all zero = sym (first_taken q n takes x some all)
rest_last q n takes x some all (suc k) = by (0 == suc k) refl
  where
    by : (b : Bool) → (0 == suc k) ≡ b → cond b (items_at takes (suc k) ++ x ∷ []) (items_at takes (suc k)) ≡ items_at (with_first takes (λ p. after_rest p (Some x))) (suc k)
    by true e = absurd (let none = eqb-true 0 (suc k) e in omega arith)
    by false e = sym (other_taken takes x (suc k) (λ e. absurd (omega arith)))

pub settles_as : (f g : ℕ → List ItemView) (sequences : List (Option Sequence)) → ((k : ℕ) → f k ≡ g k) → Settles f sequences → Settles g sequences
settles_as f g sequences same s = subst (λ (h : ℕ → List ItemView). Settles h sequences) (λ i k. same k i) s

pub settles_held : (takes : ℕ → List ItemView) (held now : ℕ → Option ItemView) (sequences : List (Option Sequence)) → ((w : ℕ) → held w ≡ now w) → SettlesBut takes held sequences → SettlesBut takes now sequences
settles_held takes held now sequences same s = subst (λ (h : ℕ → Option ItemView). SettlesBut takes h sequences) (λ i w. same w i) s

-- those from v on hold what they held
abbrev pub from_on : ℕ → (ℕ → Option ItemView) → ℕ → Option ItemView
from_on v held w = if nat_lt w v then None else held w

module _ (held : ℕ → Option ItemView) (v w : ℕ) where
  apart_on : v ≢ w → from_on v held w ≡ from_on (v + 1) held w
  apart_on apart = by (cases_lt w v)
    where
      by : (w < v) ⊎ (v ≤ w) → from_on v held w ≡ from_on (v + 1) held w
      by (inl h) = below w v None (held w) h ∙ sym (below w (v + 1) None (held w) (omega arith))
      by (inr h) = at_least w v None (held w) h ∙ sym (at_least w (v + 1) None (held w) (omega arith))

  pub from_past : with_held (from_on v held) v None w ≡ from_on (v + 1) held w
  from_past = elim (eqb_tells v w) as (λ _. with_held (from_on v held) v None w ≡ from_on (v + 1) held w) [
    | inl e ↦ (let same : v ≡ w = e.1 in ap (λ b. if b then None else from_on v held w) e.0 ∙ sym (below w (v + 1) None (held w) (omega arith)))
    | inr n ↦ ap (λ b. if b then None else from_on v held w) n.0 ∙ apart_on n.1
  ]

  pub from_none : held v ≡ None → from_on v held w ≡ from_on (v + 1) held w
  from_none none = elim (eqb_tells v w) as (λ _. from_on v held w ≡ from_on (v + 1) held w) [
    | inl e ↦ (let same : v ≡ w = e.1 in at_least w v None (held w) (omega arith) ∙ ap held (sym same) ∙ none ∙ sym (below w (v + 1) None (held w) (omega arith)))
    | inr n ↦ apart_on n.1
  ]

pub from_here : (held : ℕ → Option ItemView) (v : ℕ) → from_on v held v ≡ held v
from_here held v = at_least v v None (held v) (omega arith)

pub from_end : (hands : List (Option ItemView)) (v w : ℕ) → length hands ≤ v → from_on v (held_by hands) w ≡ None
from_end hands v w past = by (cases_lt w v)
  where
    by : (w < v) ⊎ (v ≤ w) → from_on v (held_by hands) w ≡ None
    by (inl h) = below w v None (held_by hands w) h
    by (inr h) = at_least w v None (held_by hands w) h ∙ get_or-eq_default hands None (omega arith)

-- one item goes to the sequence of its module
pub handled_at : (sequences : List (Option Sequence)) (k : ℕ) (slot : Option Sequence) (item : ItemView) (taken : ℕ → List ItemView) → k ≡ item.«module» → k < length sequences → ((s : Sequence) → get_or sequences k None ≡ Some s → (after : Sequence) × (slot ≡ Some after) × HasMore s after item) → HaveHandled sequences taken
    → HaveHandled (set sequences k slot) (with_last taken item.«module» item)
handled_at sequences k slot item taken of_module room more have m in_range = elim (eqb_tells item.«module» m) as (λ _. HasHandled (set sequences k slot) m (with_last taken item.«module» item m)) [
  | inl e ↦
      let same : k ≡ m = of_module ∙ e.1 in
      let was = have m in_range in
      let one = more was.sequence (ap (λ z. get_or sequences z None) same ∙ was.at) in
      record {
        sequence = one.0;
        at = ap (λ z. get_or (set sequences k slot) z None) (sym same) ∙ get_or-set_same sequences k slot None room ∙ one.1;
        numbered = one.2.same ∙ was.numbered;
        sequenced = subst (λ b. Sequenced one.0 (cond b (taken m ++ item ∷ []) (taken m))) (sym e.0) (one.2.tie (taken m) was.sequenced);
      }
  | inr n ↦
      let was = have m in_range in
      record {
        sequence = was.sequence;
        at = get_or-set_other sequences k m slot None (λ e. n.1 (sym of_module ∙ sym e)) ∙ was.at;
        numbered = was.numbered;
        sequenced = subst (λ b. Sequenced was.sequence (cond b (taken m ++ item ∷ []) (taken m))) (sym n.0) was.sequenced;
      }
]
