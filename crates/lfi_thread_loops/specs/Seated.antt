-- The verifiers of a stage.
use Rattle.std.specs.Prelude.{◌≡◌, ℕ, List, length, Some, None, slice_get}
use Rattle.lfi_module.specs.Numbers.{module_count}
use Rattle.lfi_board.specs.Knowledge.{ended_word, sees}
use Rattle.lfi_board.specs.Known.{board_receivers, known_by_watcher}
use Rattle.lfi_board.specs.declared.knowledge.Knowledge.{Knowledge}
use Rattle.lfi_sequence.specs.Handed.{hand_of, seat_of}
use Rattle.lfi_sequence.specs.declared.verifier.Verifier.{Verifier}
use Rattle.lfi_stage_model.specs.Workers.{IsVerifier}
use Rattle.lfi_stage_model.specs.declared.shared.Shared.{Shared}
use Rattle.lfi_stage_model.specs.Parts.{HasSeat}
use Rattle.lfi_stage_model.specs.Shares.{board_at, intake_of, lanes_of}

-- It is verifier k of the stage, with a seat at its board.
pub record IsVerifierOf (shared : Shared) (k : ℕ) (v : Verifier) : Type 0 where
  pub lanes : length (lanes_of shared) ≡ module_count
  pub is : IsVerifier (intake_of shared) (lanes_of shared) k v
  pub seat : HasSeat shared v

-- They are verifiers of the stage, in the order of their numbers.
abbrev pub AreVerifiersOf : Shared → List Verifier → Type 0
AreVerifiersOf shared verifiers = (k : ℕ) (v : Verifier) → slice_get verifiers k ≡ Some v → IsVerifierOf shared k v

-- The last that its seat saw is that all receivers of the stage have ended.
abbrev pub HasSeenAllEnd : Shared → Verifier → Type 0
HasSeenAllEnd shared v = (before : Knowledge) × (known_by_watcher (seat_of v) ≡ sees ended_word (board_receivers (board_at shared)) before)

-- Its thread ended after its seat had seen that all receivers of the stage had ended, with nothing in hand.
abbrev pub HasEnded : Shared → Verifier → Type 0
HasEnded shared v = HasSeenAllEnd shared v × (hand_of v ≡ None)
