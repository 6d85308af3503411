-- How far threads are to go, and why they are to stop.
use Rattle.std.specs.Prelude.{ℕ, Option, Some, None}
use Rattle.lfi_sync.specs.declared.lifecycle.State.{State}
use Rattle.lfi_sync.specs.declared.lifecycle.State.TheVariants as states
use Rattle.lfi_sync.specs.declared.lifecycle.Stopped.{Stopped}
use Rattle.lfi_sync.specs.declared.refusal.LoadError.{LoadError}
use Rattle.lfi_sync.specs.declared.refusal.LoadError.TheVariants as errors

-- the number of a state: a later one's is greater
abbrev pub state_number : State → ℕ
state_number states.Starting = 0
state_number states.Running = 1
state_number states.Verified = 2
state_number states.NoMemory = 3
state_number states.NoThread = 4

-- why the threads are to stop in a state, where they are
abbrev pub stops_for : State → Option LoadError
stops_for states.NoMemory = Some errors.NoMemory
stops_for states.NoThread = Some errors.NoThread
stops_for _ = None

-- why a thread that was told so is to stop
abbrev pub why_of : Stopped → LoadError
why_of stopped = stopped.why
