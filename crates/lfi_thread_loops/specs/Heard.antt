-- What a receiver's thread gives back.
use Rattle.std.specs.Prelude.{◌≡◌, ◌++◌, ℕ, Bool, List, Option, Some, None}
use Rattle.lfi_model.specs.declared.connection.EndCause.{EndCause}
use Rattle.lfi_model.specs.declared.connection.EndCause.TheVariants.{End, Starved, Failed}
use Rattle.lfi_receive.specs.declared.receiver.Receiver.{Receiver}
use Rattle.lfi_receive.specs.Receivers.{StandsFor, IsFinished, AsksMemory, cause_of, cause_after, claimed_by}

-- How much of what a reader had was heard: all of it; or, where there was no memory for a page, all up to the end of that page's header; or, where a read failed, what had come before.
abbrev pub IsHeard : (claimed : ℕ → Bool) → EndCause → (heard text : List ℕ) → Type 0
IsHeard claimed Starved heard text = AsksMemory claimed heard × (rest : List ℕ) × (text ≡ heard ++ rest)
IsHeard claimed Failed heard text = (rest : List ℕ) × (text ≡ heard ++ rest)
IsHeard claimed End heard text = heard ≡ text

-- how much was heard of what a reader had, where that is known
abbrev pub IsHeardOf : (claimed : ℕ → Bool) → Option EndCause → (heard : List ℕ) → (whole : Option (List ℕ)) → Type 0
IsHeardOf claimed cause heard None = Unit {0}
IsHeardOf claimed cause heard (Some whole) = IsHeard claimed (cause_after cause) heard whole

-- The receiver has put all that it makes of what was heard of an input, which had this.
pub record HasHeard (whole : Option (List ℕ)) (r : Receiver) : Type 0 where
  pub heard : List ℕ
  pub hears : IsHeardOf (claimed_by r) (cause_of r) heard whole
  pub stands : StandsFor r heard
  pub finished : IsFinished r
