-- What is known of the parts, once they are taken to pieces, and once the lanes are drained.
use Rattle.std.proofs.Common.{◌≡◌, ◌≢◌, ℕ, zero, suc, ◌<◌, ◌≤◌, get_or, List, [], ◌∷◌, length, refl, sym, ◌∙◌, ap, subst, inl, inr, ◌⊎◌, arith}
use Rattle.std.specs.Prelude.{Option, Some, None, MatchOption, slice_get}
use Rattle.std.specs.Option.{option_map, option_map_or}
use Rattle.std.specs.Global.{Vec}
use Rattle.std.proofs.lemmas.Bool.{cases_lt}
use Rattle.std.proofs.lemmas.Option.{none-some}
use Rattle.lfi_module.specs.Numbers.{module_count}
use Rattle.lfi_model.specs.Item.{ItemView}
use Rattle.lfi_queues.specs.Kept.{Kept}
use Rattle.lfi_queues.specs.Passes.{QueueId, PassView, IsPass, IsSamePass, pass_at, AreAllPasses, items_at}
use Rattle.lfi_sequence.specs.Hands.{Hands}
use Rattle.lfi_sequence.specs.declared.verifier.Verifier.{Verifier}
use Rattle.lfi_sequence.specs.declared.sequence.Sequence.{Sequence}
use Rattle.lfi_sequence.specs.declared.sequencer.Sequencer.{Sequencer}
use Rattle.lfi_sequence.specs.Handed.{take_pass_of, lane_puts_of, hand_of, SameLanes}
use Rattle.lfi_sequence.specs.Lanes.{new_row}
use Rattle.lfi_stage_model.specs.Workers.{AreWorkers, IsVerifier}
use Rattle.lfi_stage_model.proofs.Kept.{row_pass}
use Rattle.lfi_stage.specs.Settled.{HasHandled, SettlesBut}
use Rattle.lfi_stage.specs.inner.Rows.{row_of, lane_items, held_by, only_first, DrainedTo, AreApart, AreRowsOf}

there_is : {A : Type 0} → (xs : List A) (k : ℕ) → k < length xs → (x : A) × (slice_get xs k ≡ Some x)
there_is [] k within = absurd (omega arith)
there_is (x ∷ xs) zero within = (x, refl)
there_is (x ∷ xs) (suc k) within = there_is xs k (omega arith)

past_end : {A : Type 0} → (xs : List A) (k : ℕ) → slice_get xs k ≡ None → length xs ≤ k
past_end xs k none = elim (cases_lt k (length xs)) [
  | inl within ↦ (let there = there_is xs k within in absurd (none-some there.0 (sym none ∙ there.1)))
  | inr past ↦ past
]

-- passes that are the same as others are as many
same_long : (xs ys : List (PassView ItemView)) → SameLanes xs ys → length ys ≡ length xs
same_long [] [] same = refl
same_long [] (y ∷ ys) same = absurd (none-some y (sym (same 0)))
same_long (x ∷ xs) [] same = absurd (let first = same 0 in none-some first.0 first.1)
same_long (x ∷ xs) (y ∷ ys) same = ap suc (same_long xs ys (λ m. same (suc m)))

row_long : (lanes : List QueueId) (k : ℕ) → length (new_row lanes k) ≡ length lanes
row_long [] k = refl
row_long (lane ∷ lanes) k = ap suc (row_long lanes k)

abbrev AtPlace : QueueId → ℕ → ℕ → Option (PassView ItemView) → Type 0
AtPlace queue count k place = MatchOption place (count ≤ k) (IsPass queue count k)

module _ (intake : QueueId) (lanes : List QueueId) (verifiers : List Verifier) (sequencers : List Sequencer) (parts : AreWorkers intake lanes verifiers sequencers) (takes : List (Option (PassView ItemView))) (rows : List (Option (Vec (PassView ItemView)))) (hands : List (Option ItemView))
    (pieces : AreApart verifiers takes rows hands) where
  row_as : (k : ℕ) (o : Option Verifier) → slice_get verifiers k ≡ o → row_of rows k ≡ option_map_or lane_puts_of o []
  row_as k o e = pieces.rows_are k ∙ ap (λ z. option_map_or lane_puts_of z []) e

  take_as : (k : ℕ) (o : Option Verifier) → slice_get verifiers k ≡ o → pass_at takes k ≡ option_map take_pass_of o
  take_as k o e = pieces.takes_are k ∙ ap (option_map take_pass_of) e

  long_by : (k : ℕ) (o : Option Verifier) → slice_get verifiers k ≡ o → (row_of rows k ≡ []) ⊎ (length (row_of rows k) ≡ length lanes)
  long_by k None e = inl (row_as k None e)
  long_by k (Some v) e = inr (ap length (row_as k (Some v) e) ∙ same_long (new_row lanes k) (lane_puts_of v) (parts.verifiers_are k v e).puts ∙ row_long lanes k)

  abbrev PutsAt : ℕ → QueueId → ℕ → List (PassView ItemView) → Type 0
  PutsAt m lane k row = AtPlace lane lane.putters k (slice_get row m)

  put_by : (m : ℕ) (lane : QueueId) → slice_get lanes m ≡ Some lane → (k : ℕ) (o : Option Verifier) → slice_get verifiers k ≡ o → PutsAt m lane k (option_map_or lane_puts_of o [])
  put_by m lane at k None e = (let count = parts.verifier_count in let putters = parts.putters m lane at in let past = past_end verifiers k e in omega arith)
  put_by m lane at k (Some v) e =
      let is : IsVerifier intake lanes k v = parts.verifiers_are k v e in
      let one = subst (λ o. MatchOption o (slice_get (lane_puts_of v) m ≡ None) (λ pass. (after : PassView ItemView) × (slice_get (lane_puts_of v) m ≡ Some after) × IsSamePass pass after)) (row_pass lanes k m lane at) (is.puts m) in
      let putters = parts.putters m lane at in
      let below = is.takes.0 in
      subst (λ o. AtPlace lane lane.putters k o) (sym one.1) (omega arith, one.2.queue, one.2.number)

  -- the rows are of these lanes
  pub rows_of_parts : AreRowsOf lanes rows
  rows_of_parts = record {
    long = λ k. long_by k (slice_get verifiers k) refl;
    puts = λ m lane at k. subst (λ row. PutsAt m lane k row) (sym (row_as k (slice_get verifiers k) refl)) (put_by m lane at k (slice_get verifiers k) refl);
  }

  take_by : (k : ℕ) (o : Option Verifier) → slice_get verifiers k ≡ o → AtPlace intake intake.takers k (option_map take_pass_of o)
  take_by k None e = (let count = parts.verifier_count in let past = past_end verifiers k e in omega arith)
  take_by k (Some v) e = (parts.verifiers_are k v e).takes

  -- the passes that take from the intake are all that do
  pub all_takes : AreAllPasses intake intake.takers takes
  all_takes k = subst (λ o. AtPlace intake intake.takers k o) (sym (take_as k (slice_get verifiers k) refl)) (take_by k (slice_get verifiers k) refl)

  abbrev HandsAt : Option (PassView ItemView) → List (PassView ItemView) → Option ItemView → Type 0
  HandsAt take row hand = Hands (option_map_or (λ pass. pass.items) take []) (λ m. option_map_or (λ pass. pass.items) (slice_get row m) []) hand

  hands_by : (k : ℕ) (o : Option Verifier) → slice_get verifiers k ≡ o → HandsAt (option_map take_pass_of o) (option_map_or lane_puts_of o []) (option_map_or hand_of o None)
  hands_by k None e = λ m in_range. refl
  hands_by k (Some v) e = (parts.verifiers_are k v e).hands_on

  -- each verifier has handed on what it took
  pub all_handed : (k : ℕ) → Hands (items_at takes k) (λ m. lane_items rows m k) (held_by hands k)
  all_handed k =
      subst (λ z. HandsAt (pass_at takes k) (row_of rows k) z) (sym (pieces.hands_are k))
      (subst (λ z. HandsAt (pass_at takes k) z (option_map_or hand_of (slice_get verifiers k) None)) (sym (pieces.rows_are k))
      (subst (λ z. HandsAt z (option_map_or lane_puts_of (slice_get verifiers k) []) (option_map_or hand_of (slice_get verifiers k) None)) (sym (pieces.takes_are k)) (hands_by k (slice_get verifiers k) refl)))

  module _ (sequences : List (Option Sequence)) (drained : (m : ℕ) (s : Sequencer) → slice_get sequencers m ≡ Some s → (after : Sequence) × (get_or sequences m None ≡ Some after) × DrainedTo (lane_items rows m) s after) where
    -- what lane m's taker took, once nothing is left in the lane
    abbrev Taken : ℕ → Type 0
    Taken m = (j : List ItemView) × (m < module_count → Kept (lane_items rows m) (only_first j) []) × (m < module_count → HasHandled sequences m j)

    taken_by : (m : ℕ) (o : Option Sequencer) → slice_get sequencers m ≡ o → Taken m
    taken_by m None e =
        let past = past_end sequencers m e in
        let count = parts.sequencer_count in
        ([], λ within. absurd (omega arith), λ within. absurd (omega arith))
    taken_by m (Some s) e =
        let d = drained m s e in (
          d.2.taken,
          λ within. d.2.kept,
          λ within.
              let lane = there_is lanes m (let count = parts.lane_count in omega arith) in
              let is = parts.sequencers_are m s lane.0 e lane.1 in
              record { sequence = d.0; at = d.1; numbered = d.2.same ∙ is.seated; sequenced = d.2.tie is.sequenced },
        )

    taken_from : (m : ℕ) → Taken m
    taken_from m = taken_by m (slice_get sequencers m) refl

    no_other : (xs : List ItemView) (t : ℕ) → t ≢ 0 → only_first xs t ≡ []
    no_other xs zero apart = absurd (apart refl)
    no_other xs (suc t) apart = refl

    -- all lanes are empty
    pub settled_but : SettlesBut (items_at takes) (held_by hands) sequences
    settled_but = record {
      lane_puts = lane_items rows;
      lane_takes = λ m. only_first (taken_from m).0;
      carries = record { verifiers = all_handed; lanes = λ m within. (taken_from m).1 within; one_taker = λ m t apart. no_other (taken_from m).0 t apart };
      handled = λ m within. (taken_from m).2 within;
    }
