-- Parts that took a turn are the parts still.
use Rattle.std.proofs.Common.{◌≡◌, ◌∙◌, ℕ, ◌≤◌, List, Some, sym, ap, subst, slice_get}
use Rattle.std.specs.Prelude.{set}
use Rattle.std.proofs.lemmas.List.{length-set}
use Rattle.lfi_model.specs.Item.{ItemView}
use Rattle.lfi_board.specs.declared.knowledge.Knowledge.{Knowledge}
use Rattle.lfi_board.specs.declared.seats.WatchSeat.{WatchSeat}
use Rattle.lfi_board.specs.Calls.{Saw}
use Rattle.lfi_board.specs.Knowledge.{ended_word}
use Rattle.lfi_board.specs.Known.{board_id, board_of, sequencer_board, watcher_board, known_by_watcher}
use Rattle.lfi_queues.specs.Passes.{QueueId, PassView, IsPass}
use Rattle.lfi_sequence.specs.declared.sequencer.Sequencer.{Sequencer}
use Rattle.lfi_sequence.specs.declared.verifier.Verifier.{Verifier}
use Rattle.lfi_sequence.specs.Handed.{seat_of as watch_seat_of}
use Rattle.lfi_sequence.specs.Turns.{seat_of as sequencer_seat_of}
use Rattle.lfi_receive.specs.declared.receiver.Receiver.{Receiver}
use Rattle.lfi_receive.specs.declared.receiver.ReceiverTurn.{ReceiverTurn}
use Rattle.lfi_receive.specs.declared.receiver.ReceiverTurn.TheVariants.{More, Put, Stray, Blocked, Finished}
use Rattle.lfi_receive.specs.Receivers.{pass_of, seat_of}
use Rattle.lfi_receive.specs.Turns.{PutsAsTold}
use Rattle.lfi_stage_model.specs.Workers.{IsVerifier, IsSequencer}
use Rattle.lfi_stage_model.specs.declared.shared.Shared.{Shared}
use Rattle.lfi_stage_model.specs.Shares.{intake_of, board_at, lanes_of}
use Rattle.lfi_stage_model.specs.Parts.{IsReceiver, HasSeat, AreAllParts}
use Rattle.lfi_stage_model.proofs.Each.{set_each}

pass_stays : (queue : QueueId) (count c : ℕ) (did : ReceiverTurn) (old new : PassView ItemView) → IsPass queue count c old → PutsAsTold did old new → IsPass queue count c new
pass_stays queue count c More old new is puts = subst (IsPass queue count c) (sym puts) is
pass_stays queue count c Put old new is puts = (is.0, ap (λ p. p.queue) puts.1 ∙ is.1, ap (λ p. p.number) puts.1 ∙ is.2)
pass_stays queue count c Stray old new is puts = subst (IsPass queue count c) (sym puts) is
pass_stays queue count c Blocked old new is puts = (is.0, ap (λ p. p.queue) puts ∙ is.1, ap (λ p. p.number) puts ∙ is.2)
pass_stays queue count c Finished old new is puts = subst (IsPass queue count c) (sym puts) is

pub receiver_turns : (shared : Shared) (c : ℕ) (old new : Receiver) (did : ReceiverTurn) → IsReceiver shared c old → PutsAsTold did (pass_of old) (pass_of new) → board_of (seat_of new) ≡ board_of (seat_of old) → IsReceiver shared c new
receiver_turns shared c old new did is puts board = record { pass = pass_stays (intake_of shared) (intake_of shared).putters c did (pass_of old) (pass_of new) is.pass puts; seat = board ∙ is.seat }

pub receiver_ends : (shared : Shared) (c : ℕ) (old new : Receiver) → IsReceiver shared c old → pass_of new ≡ pass_of old → seat_of new ≡ seat_of old → IsReceiver shared c new
receiver_ends shared c old new is pass seat = record {
  pass = (is.pass.0, ap (λ p. p.queue) pass ∙ is.pass.1, ap (λ p. p.number) pass ∙ is.pass.2);
  seat = ap board_of seat ∙ is.seat;
}

-- the verifier's seat knows as many receivers as before
pub seat_turns : (shared : Shared) (old new : Verifier) → HasSeat shared old → watch_seat_of new ≡ watch_seat_of old → HasSeat shared new
seat_turns shared old new is same = record { seat = ap watcher_board same ∙ is.seat; knows = ap (λ (w : WatchSeat). (known_by_watcher w).receivers) same ∙ is.knows }

pub seat_saw : (shared : Shared) (old new : Verifier) (count : ℕ) → HasSeat shared old → watcher_board (watch_seat_of new) ≡ watcher_board (watch_seat_of old) → Saw (known_by_watcher (watch_seat_of old)) (known_by_watcher (watch_seat_of new)) ended_word count → HasSeat shared new
seat_saw shared old new count is board saw = record { seat = board ∙ is.seat; knows = ap (λ (h : Knowledge). h.receivers) saw.1 ∙ is.knows }

module _ (shared : Shared) (receivers : List Receiver) (verifiers : List Verifier) (sequencers : List Sequencer) where
  pub with_receiver : (c : ℕ) (r : Receiver) → AreAllParts shared receivers verifiers sequencers → IsReceiver shared c r → AreAllParts shared (set receivers c r) verifiers sequencers
  with_receiver c r parts is =
      let are = parts.receivers_are in
      let long = length-set receivers c r in
      record {
        receivers_are = record {
          count = long ∙ are.count;
          few = subst (λ n. n ≤ 8) (sym long) are.few;
          board = long ∙ are.board;
          each = set_each (λ k q. IsReceiver shared k q) receivers c r are.each is;
        };
        others_are = parts.others_are;
      }

  pub with_verifier : (k : ℕ) (v : Verifier) → AreAllParts shared receivers verifiers sequencers → IsVerifier (intake_of shared) (lanes_of shared) k v → AreAllParts shared receivers (set verifiers k v) sequencers
  with_verifier k v parts is =
      let workers = parts.others_are.workers in
      record {
        receivers_are = parts.receivers_are;
        others_are = record {
          workers = record {
            verifier_count = length-set verifiers k v ∙ workers.verifier_count;
            some = workers.some;
            few = workers.few;
            lane_count = workers.lane_count;
            sequencer_count = workers.sequencer_count;
            putters = workers.putters;
            takers = workers.takers;
            verifiers_are = set_each (λ n w. IsVerifier (intake_of shared) (lanes_of shared) n w) verifiers k v workers.verifiers_are is;
            sequencers_are = workers.sequencers_are;
          };
          seats = parts.others_are.seats;
        };
      }

  pub with_sequencer : (m : ℕ) (s : Sequencer) → AreAllParts shared receivers verifiers sequencers → ((lane : QueueId) → slice_get (lanes_of shared) m ≡ Some lane → IsSequencer lane m s) → sequencer_board (sequencer_seat_of s) ≡ board_id (board_at shared) → AreAllParts shared receivers verifiers (set sequencers m s)
  with_sequencer m s parts is seat =
      let workers = parts.others_are.workers in
      let lanes = lanes_of shared in
      record {
        receivers_are = parts.receivers_are;
        others_are = record {
          workers = record {
            verifier_count = workers.verifier_count;
            some = workers.some;
            few = workers.few;
            lane_count = workers.lane_count;
            sequencer_count = length-set sequencers m s ∙ workers.sequencer_count;
            putters = workers.putters;
            takers = workers.takers;
            verifiers_are = workers.verifiers_are;
            sequencers_are = λ n q lane. (λ e at_lane. set_each (λ j w. (l : QueueId) → slice_get lanes j ≡ Some l → IsSequencer l j w) sequencers m s (λ j w at l at_l. workers.sequencers_are j w l at at_l) is n q e lane at_lane);
          };
          seats = set_each (λ j w. sequencer_board (sequencer_seat_of w) ≡ board_id (board_at shared)) sequencers m s parts.others_are.seats seat;
        };
      }
