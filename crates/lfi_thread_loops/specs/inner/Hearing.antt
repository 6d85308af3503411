-- What has been heard so far of what an input had. Only private clauses and proofs use it.
use Rattle.std.specs.Prelude.{◌≡◌, ℕ, List, Option}
use Rattle.std.specs.Io.KnownBytes.{Consumes}
use Rattle.lfi_receive.specs.declared.receiver.Receiver.{Receiver}
use Rattle.lfi_receive.specs.declared.input.Input.{Input}
use Rattle.lfi_receive.specs.Receivers.{StandsFor, cause_of, claimed_by}
use Rattle.lfi_receive.specs.Inputs.{left_of}
use Rattle.lfi_receive.specs.Pulls.{EndsAt}
use Rattle.lfi_stage_model.specs.declared.shared.Shared.{Shared}
use Rattle.lfi_stage_model.specs.Parts.{IsReceiver}
use Rattle.lfi_thread_loops.specs.Heard.{HasHeard}
use Rattle.lfi_thread_loops.specs.declared.promises.PartExit.{PartExit}
use Rattle.lfi_thread_loops.specs.declared.promises.PartExit.TheVariants.{Ended, GaveUp}

-- The receiver stands for a beginning of the whole, and the input has the rest.
pub record IsHearing {R : Type 0} (remaining : R → Option (List ℕ)) (whole : Option (List ℕ)) (r : Receiver) (input : Input R) : Type 0 where
  pub heard : List ℕ
  pub stands : StandsFor r heard
  pub consumes : Consumes whole (left_of remaining input) heard
  pub ends : EndsAt (claimed_by r) (cause_of r) (left_of remaining input) heard

-- No byte came: it stands for what it stood for, with the same cause and the same modules.
pub record IsAsBefore (old new : Receiver) : Type 0 where
  pub stands : (bytes : List ℕ) → StandsFor old bytes → StandsFor new bytes
  pub cause : cause_of new ≡ cause_of old
  pub claimed : (m : ℕ) → claimed_by new m ≡ claimed_by old m

-- What the thread of the receiver with this number gives back, whose input had this: the receiver, which has heard it; nothing where it gave up.
abbrev pub IsHeardBy : Shared → (number : ℕ) → (whole : Option (List ℕ)) → PartExit Receiver → Type 0
IsHeardBy shared number whole (Ended r) = IsReceiver shared number r × HasHeard whole r
IsHeardBy shared number whole (GaveUp stopped) = Unit {0}
