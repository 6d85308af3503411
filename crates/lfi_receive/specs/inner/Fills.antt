-- What a receiver is told of a look for bytes. Only private clauses and proofs use it.
use Rattle.std.specs.Prelude.{◌≡◌, ℕ, List, Option, Some, None}
use Rattle.lfi_model.specs.declared.connection.EndCause.{EndCause}
use Rattle.lfi_model.specs.declared.connection.EndCause.TheVariants as cause_kind
use Rattle.lfi_receive.specs.declared.input.Filled.{Filled}
use Rattle.lfi_receive.specs.declared.input.Filled.TheVariants.{Bytes, End, Failed}
use Rattle.lfi_receive.specs.declared.receiver.Receiver.{Receiver}
use Rattle.lfi_receive.specs.Receivers.{StandsFor, cause_of, hand_of, pass_of, seat_of, strays_at}

-- what ends the input where this came of it
abbrev pub cause_by : Filled → Option EndCause
cause_by Bytes = None
cause_by End = Some cause_kind.End
cause_by Failed = Some cause_kind.Failed

-- Its input, which wasn't over, is over where this says so; nothing else changes.
pub record EndsBy (filled : Filled) (old new : Receiver) : Type 0 where
  pub stands : (bytes : List ℕ) → StandsFor old bytes → StandsFor new bytes
  pub ends : cause_of new ≡ cause_by filled
  pub hand : hand_of new ≡ hand_of old
  pub pass : pass_of new ≡ pass_of old
  pub seat : seat_of new ≡ seat_of old
  pub strays : strays_at new ≡ strays_at old
