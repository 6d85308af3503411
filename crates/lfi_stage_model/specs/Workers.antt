-- The parts of a stage that settling takes to pieces.
use Rattle.std.specs.Prelude.{◌≡◌, ℕ, ◌<◌, ◌≤◌, List, length, Some, slice_get}
use Rattle.lfi_module.specs.Numbers.{module_count}
use Rattle.lfi_queues.specs.Passes.{QueueId, IsPass}
use Rattle.lfi_sequence.specs.declared.verifier.Verifier.{Verifier}
use Rattle.lfi_sequence.specs.declared.sequencer.Sequencer.{Sequencer}
use Rattle.lfi_sequence.specs.Lanes.{new_row}
use Rattle.lfi_sequence.specs.Handed.{take_pass_of, lane_puts_of, HandsOn, SameLanes}
use Rattle.lfi_sequence.specs.Turns.{lane_pass_of, seat_module_of, IsSequenced}

-- It is verifier k: its passes are number k of the intake and of each lane, and it has handed on what it took.
pub record IsVerifier (intake : QueueId) (lanes : List QueueId) (k : ℕ) (v : Verifier) : Type 0 where
  pub takes : IsPass intake intake.takers k (take_pass_of v)
  pub puts : SameLanes (new_row lanes k) (lane_puts_of v)
  pub hands_on : HandsOn (take_pass_of v).items v

-- It is the sequencer of module m, by its seat at the board: it alone takes from the module's lane, and it has placed what it took.
pub record IsSequencer (lane : QueueId) (m : ℕ) (s : Sequencer) : Type 0 where
  pub takes : IsPass lane 1 0 (lane_pass_of s)
  pub seated : seat_module_of s ≡ m
  pub sequenced : IsSequenced s

-- These are all verifiers and sequencers of one stage, with this intake and these lanes.
pub record AreWorkers (intake : QueueId) (lanes : List QueueId) (verifiers : List Verifier) (sequencers : List Sequencer) : Type 0 where
  pub verifier_count : length verifiers ≡ intake.takers
  pub some : 0 < intake.takers
  pub few : intake.takers ≤ 8
  pub lane_count : length lanes ≡ module_count
  pub sequencer_count : length sequencers ≡ module_count
  pub putters : (m : ℕ) (lane : QueueId) → slice_get lanes m ≡ Some lane → lane.putters ≡ intake.takers
  pub takers : (m : ℕ) (lane : QueueId) → slice_get lanes m ≡ Some lane → lane.takers ≡ 1
  pub verifiers_are : (k : ℕ) (v : Verifier) → slice_get verifiers k ≡ Some v → IsVerifier intake lanes k v
  pub sequencers_are : (m : ℕ) (s : Sequencer) (lane : QueueId) → slice_get sequencers m ≡ Some s → slice_get lanes m ≡ Some lane → IsSequencer lane m s
