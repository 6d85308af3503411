-- What is told where the input ends, and of the modules that a fault loses. Source: docs/PROFILE.md, "Streams".
use Rattle.std.specs.Prelude.{◌≡◌, ℕ, List, Option, Some, None, Result, Ok, Err}
use Rattle.lfi_frame.specs.declared.fault.FrameFault.{FrameFault}
use Rattle.lfi_frame.specs.declared.feed.Position.TheVariants.{Faulty}
use Rattle.lfi_frame.specs.Streams.{Message}
use Rattle.lfi_model.specs.declared.connection.EndCause.TheVariants as cause
use Rattle.lfi_model.specs.Items.{connection_fault}
use Rattle.lfi_connection.specs.declared.event.Event.{Event}
use Rattle.lfi_connection.specs.declared.event.Event.TheVariants.{Nothing}
use Rattle.lfi_connection.specs.Endings.{Loses}
use Rattle.lfi_stream.specs.declared.numbers.LfiStreamText.{LfiStreamText}
use Rattle.lfi_stream.specs.Numbers.{position_at, progress_at}
use Rattle.lfi_stream.specs.Streams.{all}

-- At a stream's fault a module is lost by it, or none is open; nothing else changes.
abbrev pub LosesIn : FrameFault → (old new : LfiStreamText) → Event → Type 0
LosesIn fault old new event = Loses fault (progress_at old.modules) (progress_at new.modules) event × (new ≡ record old { modules = new.modules }) × (event ≡ Nothing → new ≡ old)

-- the same of an answer that has an event
abbrev pub LosesOne : FrameFault → (old new : LfiStreamText) → Option (Result Event FrameFault) → Type 0
LosesOne fault old new (Some (Ok event)) = LosesIn fault old new event
LosesOne fault old new answer = ⊥

-- The fault of a stream whose text is these messages and this rest, where its input ends; the numbers of the modules are as they were.
abbrev pub Ends : Result Event FrameFault → (old new : LfiStreamText) → (messages : List Message) (rest : List ℕ) → Type 0
Ends (Err fault) old new messages rest =
    (connection_fault messages rest cause.End all ≡ Some fault) × (position_at new.feed.place new.feed.number ≡ Some (Faulty fault)) × (new ≡ record old { feed = new.feed })
Ends (Ok Nothing) old new messages rest = (connection_fault messages rest cause.End all ≡ None) × (new ≡ old)
Ends (Ok event) old new messages rest = ⊥
