-- Of sequencers that look at their lanes one after another, what each did, and whether one of them took an item.
use Rattle.std.proofs.Common.{◌≡◌, ◌∙◌, ◌≢◌, ◌<◌, ◌+◌, ℕ, Bool, true, false, List, [], ◌∷◌, ◌++◌, Some, length, slice_get, sym, ap, subst, inl, inr, arith, append_assoc}
use Rattle.std.proofs.Math.ListN.{set}
use Rattle.std.proofs.lemmas.Bool.Decides.{eqb_tells}
use Rattle.lfi_model.specs.Item.{ItemView}
use Rattle.lfi_queues.specs.Passes.{PassView}
use Rattle.lfi_sequence.specs.declared.sequencer.Sequencer.{Sequencer}
use Rattle.lfi_sequence.specs.declared.sequencer.SequencerTurn.{SequencerTurn}
use Rattle.lfi_sequence.specs.declared.sequencer.SequencerTurn.TheVariants.{Worked, Idle}
use Rattle.lfi_sequence.specs.Turns.{lane_pass_of, LaneTaken}
use Rattle.lfi_stage_model.proofs.Each.{some_same, set_same, set_other}
use Rattle.lfi_thread_loops.specs.inner.Workers.{HasLooked, TookSome}

-- a turn that took an item took some
pub took_item : (old new : Sequencer) → LaneTaken Worked (lane_pass_of old) (lane_pass_of new) → TookSome old new
took_item old new takes = record {
  items = takes.0 ∷ [];
  some = λ e. cc;
  adds = ap (λ (p : PassView ItemView). p.items) takes.1;
  same = record { queue = ap (λ (p : PassView ItemView). p.queue) takes.1; number = ap (λ (p : PassView ItemView). p.number) takes.1 };
}

longer : (xs : List ItemView) (x : ItemView) → xs ++ x ∷ [] ≢ []
longer [] x = λ e. cc
longer (y ∷ ys) x = λ e. cc

-- and with one more turn it took some still
pub took_more : (old mid new : Sequencer) (did : SequencerTurn) → TookSome old mid → LaneTaken did (lane_pass_of mid) (lane_pass_of new) → TookSome old new
took_more old mid new Worked took takes = record {
  items = took.items ++ takes.0 ∷ [];
  some = longer took.items takes.0;
  adds = ap (λ (p : PassView ItemView). p.items) takes.1 ∙ ap (λ (l : List ItemView). l ++ takes.0 ∷ []) took.adds ∙ append_assoc (lane_pass_of old).items took.items (takes.0 ∷ []);
  same = record { queue = ap (λ (p : PassView ItemView). p.queue) takes.1 ∙ took.same.queue; number = ap (λ (p : PassView ItemView). p.number) takes.1 ∙ took.same.number };
}
took_more old mid new Idle took takes = record {
  items = took.items;
  some = took.some;
  adds = ap (λ (p : PassView ItemView). p.items) takes ∙ took.adds;
  same = record { queue = ap (λ (p : PassView ItemView). p.queue) takes ∙ took.same.queue; number = ap (λ (p : PassView ItemView). p.number) takes ∙ took.same.number };
}

-- the element at place k is replaced by one that is related to what it was, by its place
pub set_looked : {A : Type 0} (P : ℕ → A → A → Type 0) (old new : List A) (k : ℕ) (x y : A) → k < length new
    → ((n : ℕ) (a b : A) → n < k → slice_get old n ≡ Some a → slice_get new n ≡ Some b → P n a b)
    → slice_get old k ≡ Some x → P k x y
    → (n : ℕ) (a b : A) → n < k + 1 → slice_get old n ≡ Some a → slice_get (set new k y) n ≡ Some b → P n a b
set_looked P old new k x y within before was is n a b less at by = elim (eqb_tells n k) as (λ _. P n a b) [
  | inl same ↦
      let here : x ≡ a = some_same x a (sym was ∙ ap (λ j. slice_get old j) (sym same.1) ∙ at) in
      let there : y ≡ b = some_same y b (sym (set_same new k y within) ∙ ap (λ j. slice_get (set new k y) j) (sym same.1) ∙ by) in
      subst (λ j. P j a b) (sym same.1) (subst (λ z. P k z b) here (subst (λ z. P k x z) there is))
  | inr other ↦ before n a b (let apart = other.1 in omega arith) at (sym (set_other new k n y other.1) ∙ by)
]

-- one of those before place n took an item
abbrev pub Took : (old new : List Sequencer) → ℕ → Type 0
Took old new n = (m : ℕ) × (s : Sequencer) × (t : Sequencer) × (m < n) × (slice_get old m ≡ Some s) × (slice_get new m ≡ Some t) × TookSome s t

-- none of them did
abbrev pub NoneTook : (is_filled : ℕ → Bool) → (old new : List Sequencer) → ℕ → Type 0
NoneTook is_filled old new n = (m : ℕ) (s t : Sequencer) → m < n → slice_get old m ≡ Some s → slice_get new m ≡ Some t → HasLooked (is_filled m) false s t

-- one that took an item looked at a filled lane
took_by : (is_filled : Bool) (s t : Sequencer) → HasLooked is_filled true s t → TookSome s t
took_by true s t looked = looked
took_by false s t looked = absurd (let no = looked.0 in cc)

module _ (old new : List Sequencer) (n : ℕ) (s t : Sequencer) (within : n < length new) (was : slice_get old n ≡ Some s) where
  pub took_before : Took old new n → Took old (set new n t) (n + 1)
  took_before took = (took.0, took.1, took.2, omega (arith, took.3), took.4, set_other new n took.0 t (λ e. omega (arith, took.3, e)) ∙ took.5, took.6)

  pub takes_here : (is_filled : Bool) → HasLooked is_filled true s t → Took old (set new n t) (n + 1)
  takes_here is_filled looked = (n, s, t, omega arith, was, set_same new n t within, took_by is_filled s t looked)

  pub none_here : (is_filled : ℕ → Bool) → HasLooked (is_filled n) false s t → NoneTook is_filled old new n → NoneTook is_filled old (set new n t) (n + 1)
  none_here is_filled looked none = set_looked (λ m a b. HasLooked (is_filled m) false a b) old new n s t within none was looked
