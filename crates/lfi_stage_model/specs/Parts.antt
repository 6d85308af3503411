-- The parts of one stage.
use Rattle.std.specs.Prelude.{◌≡◌, ℕ, ◌≤◌, List, length, Some, slice_get}
use Rattle.lfi_board.specs.Known.{board_id, board_of, board_receivers, sequencer_board, watcher_board, known_by_watcher}
use Rattle.lfi_queues.specs.Passes.{IsPass}
use Rattle.lfi_sequence.specs.declared.sequencer.Sequencer.{Sequencer}
use Rattle.lfi_sequence.specs.declared.verifier.Verifier.{Verifier}
use Rattle.lfi_sequence.specs.Handed.{seat_of as watch_seat_of}
use Rattle.lfi_sequence.specs.Turns.{seat_of as sequencer_seat_of}
use Rattle.lfi_receive.specs.declared.receiver.Receiver.{Receiver}
use Rattle.lfi_receive.specs.Receivers.{pass_of, seat_of}
use Rattle.lfi_stage_model.specs.Workers.{AreWorkers}
use Rattle.lfi_stage_model.specs.declared.shared.Parts.{Parts}
use Rattle.lfi_stage_model.specs.declared.shared.Shared.{Shared}
use Rattle.lfi_stage_model.specs.Shares.{intake_of, board_at, lanes_of}

-- It is receiver c: its pass is number c of the intake, and its seat is at the board.
pub record IsReceiver (shared : Shared) (c : ℕ) (r : Receiver) : Type 0 where
  pub pass : IsPass (intake_of shared) (intake_of shared).putters c (pass_of r)
  pub seat : board_of (seat_of r) ≡ board_id (board_at shared)

-- The verifier's seat is at the board, and knows how many receivers that has.
pub record HasSeat (shared : Shared) (v : Verifier) : Type 0 where
  pub seat : watcher_board (watch_seat_of v) ≡ board_id (board_at shared)
  pub knows : (known_by_watcher (watch_seat_of v)).receivers ≡ board_receivers (board_at shared)

-- These are all verifiers and sequencers of the stage.
pub record AreOthers (shared : Shared) (verifiers : List Verifier) (sequencers : List Sequencer) : Type 0 where
  pub workers : AreWorkers (intake_of shared) (lanes_of shared) verifiers sequencers
  pub seats : (m : ℕ) (s : Sequencer) → slice_get sequencers m ≡ Some s → sequencer_board (sequencer_seat_of s) ≡ board_id (board_at shared)

-- These are all its receivers: at most 8, as many as put to its intake and as its board has.
pub record AreReceivers (shared : Shared) (receivers : List Receiver) : Type 0 where
  pub count : length receivers ≡ (intake_of shared).putters
  pub few : length receivers ≤ 8
  pub board : length receivers ≡ board_receivers (board_at shared)
  pub each : (c : ℕ) (r : Receiver) → slice_get receivers c ≡ Some r → IsReceiver shared c r

-- These are all parts of the stage.
pub record AreAllParts (shared : Shared) (receivers : List Receiver) (verifiers : List Verifier) (sequencers : List Sequencer) : Type 0 where
  pub receivers_are : AreReceivers shared receivers
  pub others_are : AreOthers shared verifiers sequencers

-- the same of parts that are one value
abbrev pub ArePartsOf : Shared → Parts → Type 0
ArePartsOf shared parts = AreAllParts shared parts.receivers.items parts.verifiers.items parts.sequencers.items
