-- What a turn of each verifier, and of each sequencer, did. Only private clauses and proofs use it.
use Rattle.std.specs.Prelude.{◌≡◌, ℕ, List, Some, slice_get}
use Rattle.lfi_sequence.specs.declared.verifier.Verifier.{Verifier}
use Rattle.lfi_sequence.specs.declared.verifier.VerifierTurn.{VerifierTurn}
use Rattle.lfi_sequence.specs.declared.sequencer.Sequencer.{Sequencer}
use Rattle.lfi_sequence.specs.declared.sequencer.SequencerTurn.{SequencerTurn}
use Rattle.lfi_sequence.specs.Handed.{AsTold}
use Rattle.lfi_sequence.specs.Turns.{lane_pass_of, LaneTaken}

-- Each verifier took one turn: it put one item and took none, or it is one take, and one put of what that gave.
abbrev pub HaveVerified : (old new : List Verifier) → Type 0
HaveVerified old new = (k : ℕ) (v w : Verifier) → slice_get old k ≡ Some v → slice_get new k ≡ Some w → (did : VerifierTurn) × AsTold did v w

-- Each sequencer took one turn: one take from its lane.
abbrev pub HavePlaced : (old new : List Sequencer) → Type 0
HavePlaced old new = (m : ℕ) (s t : Sequencer) → slice_get old m ≡ Some s → slice_get new m ≡ Some t → (did : SequencerTurn) × LaneTaken did (lane_pass_of s) (lane_pass_of t)
