-- The events of a stream as C sees them: include/lfi_verifier.h.
use Rattle.std.specs.Prelude.{◌≡◌, ℕ, ◌+◌, ◌*◌, ◌≤◌, ◌⊎◌, true, false, Bool, List, Result, Ok, Err}
use Rattle.lfi_module.specs.Profiles.{profile_number}
use Rattle.lfi_frame.specs.Streams.{Message}
use Rattle.lfi_frame.specs.Faults.{number_of as fault_number}
use Rattle.lfi_frame.specs.declared.fault.FrameFault.{FrameFault}
use Rattle.lfi_model.specs.declared.item.Reason.{Reason}
use Rattle.lfi_model.specs.declared.item.Reason.TheVariants.{Close, Lost, PageFault, NoMemory}
use Rattle.lfi_connection.specs.declared.event.Event.{Event}
use Rattle.lfi_connection.specs.declared.event.Event.TheVariants.{Open, Code, Stray, End}
use Rattle.lfi_connection.specs.DuePages.{offset_of}
use Rattle.lfi_module.specs.Extents.{ExtentView}
use Rattle.lfi_model.specs.declared.connection.Progress.TheVariants.{Going}
use Rattle.lfi_stream.specs.Numbers.{progress_at}
use Rattle.lfi_stream.specs.declared.numbers.LfiStreamText.{LfiStreamText}
use Rattle.lfi_stream.specs.Events.{Tells}
use Rattle.lfi_stream.specs.Endings.{Ends, LosesIn}
use Rattle.lfi_verifier.specs.declared.finding.Finding.{Finding}
use Rattle.lfi_verifier.specs.declared.stream.LfiEvent.{LfiEvent}
use Rattle.lfi_verifier.specs.Faults.{fault_told}
use Rattle.lfi_verifier.specs.Statuses.{status_number}

-- the numbers of nothing
abbrev pub nothing_told : LfiEvent
nothing_told = record { kind = 0; «module» = 0; words = 0; entry = 0; profile = 0; page_bytes = 0; pages = 0; reason = 0; number = 0; ended = 0; verdict = 0; fault = record { word = 0; rule = 0 }; offset = 0 }

-- the numbers are those of no stream
abbrev pub no_stream : LfiEvent
no_stream = record nothing_told { kind = 6 }

-- why a module ended: its number, and that of the fault or of the page
abbrev pub reason_numbers : Reason → ℕ × ℕ
reason_numbers Close = (1, 0)
reason_numbers (Lost fault) = (2, fault_number fault)
reason_numbers (PageFault index) = (3, index)
reason_numbers NoMemory = (4, 0)

-- 1 for yes
abbrev pub one_if : Bool → ℕ
one_if = elim [ true ↦ 1 | false ↦ 0 ]

-- the numbers of an event
abbrev pub numbers_of : Event → LfiEvent
numbers_of (Open k extent) = record nothing_told { kind = 1; «module» = k; words = extent.words; entry = extent.entry; profile = profile_number extent.profile; page_bytes = 4 * extent.pages }
numbers_of (Code page ended) = record nothing_told { kind = 2; «module» = page.«module»; ended = one_if ended; offset = offset_of page }
numbers_of (Stray k) = record nothing_told { kind = 3; «module» = k }
numbers_of (End k extent pages reason) = record nothing_told { kind = 4; «module» = k; words = extent.words; pages = pages; reason = (reason_numbers reason).0; number = (reason_numbers reason).1 }
numbers_of event = nothing_told

-- the same of an answer: an event, or the stream's fault
abbrev pub event_numbers : Result Event FrameFault → LfiEvent
event_numbers (Ok event) = numbers_of event
event_numbers (Err fault) = record nothing_told { kind = 5; number = fault_number fault }

-- the same with what is found of code
abbrev pub with_finding : LfiEvent → Finding → LfiEvent
with_finding told finding = record told { verdict = status_number finding.status; fault = fault_told finding.fault }

-- The numbers tell an event that tells what the used bytes brought, after this text.
pub record TellsNext (told : LfiEvent) (stream : LfiStreamText) (messages : List Message) (rest used : List ℕ) : Type 0 where
  pub event : Result Event FrameFault
  pub finding : Finding
  pub numbers : told ≡ with_finding (event_numbers event) finding
  pub tells : Tells event stream messages rest used

-- They tell what the end of the input makes of this text.
pub record TellsEnd (told : LfiEvent) (old new : LfiStreamText) (messages : List Message) (rest : List ℕ) : Type 0 where
  pub event : Result Event FrameFault
  pub finding : Finding
  pub numbers : told ≡ with_finding (event_numbers event) finding
  pub ends : Ends event old new messages rest

-- They tell the next module that is lost by this fault, or that none is left.
pub record TellsLost (fault : FrameFault) (told : LfiEvent) (old new : LfiStreamText) : Type 0 where
  pub event : Event
  pub finding : Finding
  pub numbers : told ≡ with_finding (numbers_of event) finding
  pub loses : LosesIn fault old new event

-- The bytes used are code of a module that is open by the stream's numbers, and lie within its words.
pub record LiesWithin (stream : LfiStreamText) (told : LfiEvent) (used : ℕ) : Type 0 where
  pub extent : ExtentView
  pub pages : ℕ
  pub going : progress_at stream.modules told.«module» ≡ Going extent pages
  pub within : told.offset + used ≤ 4 * extent.words

-- the numbers tell something of a module's code: they are those of code, or of an end
abbrev pub TellsOfCode : LfiEvent → Type 0
TellsOfCode told = (told.kind ≡ 2) ⊎ (told.kind ≡ 4)
