-- Parts that have done nothing yet.
use Rattle.std.specs.Prelude.{◌≡◌, [], None}
use Rattle.lfi_receive.specs.declared.receiver.Receiver.{Receiver}
use Rattle.lfi_receive.specs.Receivers.{cause_of, hand_of, StandsFor}
use Rattle.lfi_sequence.specs.declared.sequencer.Sequencer.{Sequencer}
use Rattle.lfi_sequence.specs.declared.verifier.Verifier.{Verifier}
use Rattle.lfi_sequence.specs.Handed.{take_pass_of, hand_of as held_by}
use Rattle.lfi_sequence.specs.Turns.{lane_pass_of}

-- a receiver of which no byte has come
pub record IsFresh (r : Receiver) : Type 0 where
  pub stands : StandsFor r []
  pub running : cause_of r ≡ None
  pub empty_handed : hand_of r ≡ None

-- a verifier that has taken nothing, and holds nothing
pub record IsFreshVerifier (v : Verifier) : Type 0 where
  pub taken : (take_pass_of v).items ≡ []
  pub empty_handed : held_by v ≡ None

-- a sequencer that has taken nothing
abbrev pub IsFreshSequencer : Sequencer → Type 0
IsFreshSequencer s = (lane_pass_of s).items ≡ []
