-- What is kept of the parts.
use Rattle.std.proofs.Common.{◌≡◌, ℕ, zero, suc, ◌<◌, List, [], ◌∷◌, ◌++◌, length, refl, sym, ◌∙◌, ap, subst, arith}
use Rattle.std.specs.Prelude.{Option, Some, None, MatchOption, slice_get}
use Rattle.std.specs.Option.{option_map, option_map_or}
use Rattle.std.proofs.lemmas.Option.{none-some}
use Rattle.lfi_module.specs.Numbers.{module_count}
use Rattle.lfi_model.specs.Item.{ItemView}
use Rattle.lfi_queues.specs.Passes.{QueueId, PassView, IsPass, IsSamePass, new_pass}
use Rattle.lfi_sequence.specs.Hands.{Hands}
use Rattle.lfi_sequence.specs.declared.sequencer.Sequencer.{Sequencer}
use Rattle.lfi_sequence.specs.declared.sequencer.SequencerTurn.{SequencerTurn}
use Rattle.lfi_sequence.specs.declared.sequencer.SequencerTurn.TheVariants.{Worked, Idle}
use Rattle.lfi_sequence.specs.declared.verifier.Verifier.{Verifier}
use Rattle.lfi_sequence.specs.Handed.{take_pass_of, lane_puts_of, hand_of, HandsOn, SameLanes, AreLanes, put_in}
use Rattle.lfi_sequence.specs.Lanes.{new_row}
use Rattle.lfi_sequence.specs.Turns.{lane_pass_of, seat_module_of, IsSequenced, LaneTaken}
use Rattle.lfi_stage_model.specs.Workers.{IsVerifier, IsSequencer}

-- the pass of each lane of a new row
pub row_pass : (lanes : List QueueId) (k m : ℕ) (lane : QueueId) → slice_get lanes m ≡ Some lane → slice_get (new_row lanes k) m ≡ Some (new_pass lane k)
row_pass [] k m lane at = absurd (none-some lane at)
row_pass (first ∷ lanes) k zero lane at = ap (λ o. option_map (λ l. new_pass l k) o) at
row_pass (first ∷ lanes) k (suc m) lane at = row_pass lanes k m lane at

abbrev StaysAt : Option (PassView ItemView) → Option (PassView ItemView) → Type 0
StaysAt old new = MatchOption old (new ≡ None) (λ pass. (after : PassView ItemView) × (new ≡ Some after) × IsSamePass pass after)

stays : (o : Option (PassView ItemView)) → StaysAt o o
stays None = refl
stays (Some pass) = (pass, refl, record { queue = refl; number = refl })

stays_on : (o p q : Option (PassView ItemView)) → StaysAt o p → StaysAt p q → StaysAt o q
stays_on None p q h k = subst (λ z. StaysAt z q) h k
stays_on (Some pass) p q h k =
    let after = h.0 in
    let next : StaysAt (Some after) q = subst (λ z. StaysAt z q) h.1 k in
    (next.0, next.1, record { queue = next.2.queue ∙ h.2.queue; number = next.2.number ∙ h.2.number })

lanes_on : (one two three : List (PassView ItemView)) → SameLanes one two → SameLanes two three → SameLanes one three
lanes_on one two three h k m = stays_on (slice_get one m) (slice_get two m) (slice_get three m) (h m) (k m)

-- a new row has put nothing
none_put : (lanes : List QueueId) (k m : ℕ) → put_in (new_row lanes k) m ≡ []
none_put [] k m = refl
none_put (lane ∷ lanes) k zero = refl
none_put (lane ∷ lanes) k (suc m) = none_put lanes k m

pub new_verifier : (intake : QueueId) (lanes : List QueueId) (k : ℕ) (v : Verifier) → k < intake.takers → take_pass_of v ≡ new_pass intake k → lane_puts_of v ≡ new_row lanes k → hand_of v ≡ None → IsVerifier intake lanes k v
new_verifier intake lanes k v within pass row hand = record {
  takes = subst (λ (p : PassView ItemView). IsPass intake intake.takers k p) (sym pass) (within, refl, refl);
  puts = subst (λ (r : List (PassView ItemView)). SameLanes (new_row lanes k) r) (sym row) (λ m. stays (slice_get (new_row lanes k) m));
  hands_on = subst (λ (p : PassView ItemView). Hands p.items (put_in (lane_puts_of v)) (hand_of v)) (sym pass)
      (subst (λ (r : List (PassView ItemView)). Hands [] (put_in r) (hand_of v)) (sym row) (subst (λ (o : Option ItemView). Hands [] (put_in (new_row lanes k)) o) (sym hand) (λ m in_range. sym (ap (λ (l : List ItemView). l ++ []) (none_put lanes k m)))));
}

pub verifier_stays : (intake : QueueId) (lanes : List QueueId) (k : ℕ) (old new : Verifier) → IsVerifier intake lanes k old → IsSamePass (take_pass_of old) (take_pass_of new) → SameLanes (lane_puts_of old) (lane_puts_of new)
    → (HandsOn (take_pass_of old).items old → HandsOn (take_pass_of new).items new) → IsVerifier intake lanes k new
verifier_stays intake lanes k old new is same rows tie = record {
  takes = (is.takes.0, same.queue ∙ is.takes.1, same.number ∙ is.takes.2);
  puts = lanes_on (new_row lanes k) (lane_puts_of old) (lane_puts_of new) is.puts rows;
  hands_on = tie is.hands_on;
}

pub verifier_looked : (intake : QueueId) (lanes : List QueueId) (k : ℕ) (old new : Verifier) → IsVerifier intake lanes k old → take_pass_of new ≡ take_pass_of old → lane_puts_of new ≡ lane_puts_of old → hand_of new ≡ hand_of old → IsVerifier intake lanes k new
verifier_looked intake lanes k old new is pass row hand = record {
  takes = subst (λ (p : PassView ItemView). IsPass intake intake.takers k p) (sym pass) is.takes;
  puts = subst (λ (r : List (PassView ItemView)). SameLanes (new_row lanes k) r) (sym row) is.puts;
  hands_on = subst (λ (p : PassView ItemView). Hands p.items (put_in (lane_puts_of new)) (hand_of new)) (sym pass)
      (subst (λ (r : List (PassView ItemView)). Hands (take_pass_of old).items (put_in r) (hand_of new)) (sym row) (subst (λ (o : Option ItemView). Hands (take_pass_of old).items (put_in (lane_puts_of old)) o) (sym hand) is.hands_on));
}

pub new_sequencer : (lane : QueueId) (m : ℕ) (s : Sequencer) → seat_module_of s ≡ m → lane_pass_of s ≡ new_pass lane 0 → IsSequenced s → IsSequencer lane m s
new_sequencer lane m s numbered pass tie = record {
  takes = subst (λ (p : PassView ItemView). IsPass lane 1 0 p) (sym pass) (omega arith, refl, refl);
  seated = numbered;
  sequenced = tie;
}

pass_stays : (did : SequencerTurn) (lane : QueueId) (old new : PassView ItemView) → LaneTaken did old new → IsPass lane 1 0 old → IsPass lane 1 0 new
pass_stays Worked lane old new h is = (is.0, ap (λ (p : PassView ItemView). p.queue) h.1 ∙ is.1, ap (λ (p : PassView ItemView). p.number) h.1 ∙ is.2)
pass_stays Idle lane old new h is = (is.0, ap (λ (p : PassView ItemView). p.queue) h ∙ is.1, ap (λ (p : PassView ItemView). p.number) h ∙ is.2)

pub sequencer_stays : (lane : QueueId) (m : ℕ) (old new : Sequencer) (did : SequencerTurn) → IsSequencer lane m old → LaneTaken did (lane_pass_of old) (lane_pass_of new) → (IsSequenced old → IsSequenced new) → seat_module_of new ≡ seat_module_of old
    → IsSequencer lane m new
sequencer_stays lane m old new did is took tie same = record {
  takes = pass_stays did lane (lane_pass_of old) (lane_pass_of new) took is.takes;
  seated = same ∙ is.seated;
  sequenced = tie is.sequenced;
}

pub lanes_of : (intake : QueueId) (lanes : List QueueId) (k : ℕ) (v : Verifier) → IsVerifier intake lanes k v → length lanes ≡ module_count → AreLanes lanes (lane_puts_of v)
lanes_of intake lanes k v is long = record {
  all = long;
  each = λ m lane pass at_lane at_pass.
      let row : List (PassView ItemView) = lane_puts_of v in
      let one = subst (λ o. StaysAt o (slice_get row m)) (row_pass lanes k m lane at_lane) (is.puts m) in
      ap (λ o. option_map_or (λ (p : PassView ItemView). p.queue) o lane) (sym at_pass ∙ one.1) ∙ one.2.queue;
}
