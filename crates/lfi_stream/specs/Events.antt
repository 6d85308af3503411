-- What the events of a stream tell of its text. Source: docs/PROFILE.md, "Streams".
use Rattle.std.specs.Prelude.{◌≡◌, ℕ, ◌+◌, ◌*◌, ◌≤◌, List, ◌++◌, drop, flat_map, Some, Result, Ok, Err}
use Rattle.lfi_frame.specs.Streams.{Message, spelling, rest_of, faulty}
use Rattle.lfi_frame.specs.declared.fault.FrameFault.{FrameFault}
use Rattle.lfi_frame.specs.declared.feed.Position.TheVariants.{Faulty}
use Rattle.lfi_connection.specs.declared.event.Event.{Event}
use Rattle.lfi_connection.specs.declared.event.Event.TheVariants.{Code}
use Rattle.lfi_model.specs.declared.connection.Progress.TheVariants.{Going}
use Rattle.lfi_connection.specs.DuePages.{offset_of}
use Rattle.lfi_connection.specs.Events.{Grows, TellsCode, Follows, IsInMessage}
use Rattle.lfi_stream.specs.declared.numbers.LfiStreamText.{LfiStreamText}
use Rattle.lfi_stream.specs.Numbers.{position_at, progress_at}
use Rattle.lfi_stream.specs.Streams.{all, made_of, StandsFor}

-- After an event the numbers stand for the text with the bytes used, and the event tells what they brought.
pub record IsTold (stream : LfiStreamText) (messages : List Message) (rest used : List ℕ) (event : Event) : Type 0 where
  pub now : List Message
  pub left : List ℕ
  pub stands : StandsFor stream now left
  pub text : flat_map spelling now ++ left ≡ flat_map spelling messages ++ (rest ++ used)
  pub grows : Grows event all messages rest now left (drop 12 rest ++ used)
  pub code : TellsCode event all messages rest used
  pub follows : Follows event (λ m. (made_of messages (rest_of rest) m).progress)
  pub inside : IsInMessage messages rest used now left

-- The text has come to a header with this fault, and the numbers of the modules are those of it.
pub record IsAtFault (stream : LfiStreamText) (messages : List Message) (rest : List ℕ) (fault : FrameFault) : Type 0 where
  pub shows : rest_of rest ≡ faulty fault
  pub position : position_at stream.feed.place stream.feed.number ≡ Some (Faulty fault)
  pub progress : (m : ℕ) → progress_at stream.modules m ≡ (made_of messages (rest_of rest) m).progress

-- What is told of the bytes used: an event, or the stream's fault.
abbrev pub Tells : Result Event FrameFault → LfiStreamText → (messages : List Message) → (rest used : List ℕ) → Type 0
Tells (Ok event) stream messages rest used = IsTold stream messages rest used event
Tells (Err fault) stream messages rest used = IsAtFault stream messages (rest ++ used) fault

-- Code is that of an open module, and lies within its words, whatever the numbers are.
abbrev pub IsWithin : Result Event FrameFault → (used : ℕ) → LfiStreamText → Type 0
IsWithin (Ok (Code page ended)) used stream = (progress_at stream.modules page.«module» ≡ Going page.extent page.pages) × (offset_of page + used ≤ 4 * page.extent.words)
IsWithin answer used stream = Unit {0}
