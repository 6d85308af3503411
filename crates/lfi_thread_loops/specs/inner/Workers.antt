-- Verifiers and sequencers that are with their threads. Only private clauses and proofs use it.
use Rattle.std.specs.Prelude.{◌≡◌, ◌≢◌, ℕ, Bool, true, false, IsTrue, List, [], ◌++◌, length, Some, slice_get}
use Rattle.lfi_module.specs.Numbers.{module_count}
use Rattle.lfi_board.specs.Known.{board_id, sequencer_board}
use Rattle.lfi_model.specs.Item.{ItemView}
use Rattle.lfi_queues.specs.Passes.{QueueId, IsSamePass}
use Rattle.lfi_sequence.specs.declared.verifier.Verifier.{Verifier}
use Rattle.lfi_sequence.specs.declared.verifier.VerifierTurn.TheVariants.{Idle}
use Rattle.lfi_sequence.specs.declared.sequencer.Sequencer.{Sequencer}
use Rattle.lfi_sequence.specs.Handed.{AsTold}
use Rattle.lfi_sequence.specs.declared.sequencer.SequencerTurn.TheVariants.{Idle as IdleLane}
use Rattle.lfi_sequence.specs.Turns.{lane_pass_of, seat_of as sequencer_seat_of, LaneTaken}
use Rattle.lfi_stage_model.specs.Workers.{IsSequencer}
use Rattle.lfi_stage_model.specs.declared.shared.Shared.{Shared}
use Rattle.lfi_stage_model.specs.Shares.{board_at, lanes_of}
use Rattle.lfi_thread_loops.specs.declared.sequencer_loop.LaneLook.{LaneLook}
use Rattle.lfi_thread_loops.specs.declared.sequencer_loop.LaneLook.TheVariants.{Empty}
use Rattle.lfi_thread_loops.specs.declared.verifier_loop.VerifierExit.{VerifierExit}
use Rattle.lfi_thread_loops.specs.declared.verifier_loop.VerifierExit.TheVariants.{Over, Stopped}
use Rattle.lfi_thread_loops.specs.declared.promises.PartExit.{PartExit}
use Rattle.lfi_thread_loops.specs.declared.promises.PartExit.TheVariants as exit
use Rattle.lfi_thread_loops.specs.Seated.{IsVerifierOf, HasEnded}

-- The turn found no item, neither in hand nor in the intake.
abbrev pub FoundNothing : (old new : Verifier) → Type 0
FoundNothing old new = AsTold Idle old new

-- where a verifier's thread ends and isn't told to stop, all receivers have ended, and nothing is in hand
abbrev pub EndsAsTold : VerifierExit → Shared → Verifier → Type 0
EndsAsTold Over shared v = HasEnded shared v
EndsAsTold (Stopped stopped) shared v = Unit {0}

-- What the thread of the verifier with this number gives back: the verifier, once all receivers have ended; nothing where it gave up.
abbrev pub IsVerifiedBy : Shared → (number : ℕ) → PartExit Verifier → Type 0
IsVerifiedBy shared number (exit.Ended v) = IsVerifierOf shared number v × HasEnded shared v
IsVerifiedBy shared number (exit.GaveUp stopped) = Unit {0}

-- The sequencer took one or more items of its lane.
pub record TookSome (old new : Sequencer) : Type 0 where
  pub items : List ItemView
  pub some : items ≢ []
  pub adds : (lane_pass_of new).items ≡ (lane_pass_of old).items ++ items
  pub same : IsSamePass (lane_pass_of old) (lane_pass_of new)

-- what a sequencer did that found this: one take that gave none, or it took items
abbrev pub LookedAt : LaneLook → (old new : Sequencer) → Type 0
LookedAt Empty old new = LaneTaken IdleLane (lane_pass_of old) (lane_pass_of new)
LookedAt look old new = TookSome old new

-- What a sequencer did in a round: nothing where its lane isn't among the filled ones; else one take that gave none, or it took items.
abbrev pub HasLooked : (is_filled took : Bool) → (old new : Sequencer) → Type 0
HasLooked false took old new = (took ≡ false) × (new ≡ old)
HasLooked true false old new = LaneTaken IdleLane (lane_pass_of old) (lane_pass_of new)
HasLooked true true old new = TookSome old new

-- The sequencers of the filled lanes looked at them, and the others did nothing. The answer is yes exactly where one of them took an item.
pub record HavePlaced (is_filled : ℕ → Bool) (worked : Bool) (old new : List Sequencer) : Type 0 where
  pub each : (m : ℕ) (s t : Sequencer) → slice_get old m ≡ Some s → slice_get new m ≡ Some t → (took : Bool) × HasLooked (is_filled m) took s t
  pub some : IsTrue worked → (m : ℕ) × (s : Sequencer) × (t : Sequencer) × (slice_get old m ≡ Some s) × (slice_get new m ≡ Some t) × TookSome s t
  pub none : worked ≡ false → (m : ℕ) (s t : Sequencer) → slice_get old m ≡ Some s → slice_get new m ≡ Some t → HasLooked (is_filled m) false s t

-- It is the sequencer of module m of the stage, with a seat at its board.
pub record IsSequencerOf (shared : Shared) (m : ℕ) (s : Sequencer) : Type 0 where
  pub lanes : length (lanes_of shared) ≡ module_count
  pub is : (lane : QueueId) → slice_get (lanes_of shared) m ≡ Some lane → IsSequencer lane m s
  pub seat : sequencer_board (sequencer_seat_of s) ≡ board_id (board_at shared)

-- These are all sequencers of the stage.
pub record AreSequencersOf (shared : Shared) (sequencers : List Sequencer) : Type 0 where
  pub lanes : length (lanes_of shared) ≡ module_count
  pub count : length sequencers ≡ module_count
  pub are : (m : ℕ) (s : Sequencer) (lane : QueueId) → slice_get sequencers m ≡ Some s → slice_get (lanes_of shared) m ≡ Some lane → IsSequencer lane m s
  pub seats : (m : ℕ) (s : Sequencer) → slice_get sequencers m ≡ Some s → sequencer_board (sequencer_seat_of s) ≡ board_id (board_at shared)
