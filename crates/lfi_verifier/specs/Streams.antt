-- What a connection's stream stands for, with what is judged of its code; and what its calls tell: include/lfi_verifier.h.
use Rattle.std.specs.Prelude.{◌≡◌, ℕ, ◌+◌, List, ◌∷◌, [], ◌++◌, Result}
use Rattle.lfi_frame.specs.Streams.{Message}
use Rattle.lfi_frame.specs.declared.fault.FrameFault.{FrameFault}
use Rattle.lfi_model.specs.Item.{ItemView}
use Rattle.lfi_model.specs.Items.{item_of}
use Rattle.lfi_model.specs.declared.item.ItemKind.TheVariants as item
use Rattle.lfi_connection.specs.declared.event.Event.{Event}
use Rattle.lfi_connection.specs.declared.event.Event.TheVariants.{End}
use Rattle.lfi_stream.specs.Endings.{LosesIn}
use Rattle.lfi_stream.specs.Events.{Tells}
use Rattle.lfi_stream.specs.Numbers.{progress_at}
use Rattle.lfi_stream.specs.Streams as text
use Rattle.lfi_verifier.specs.declared.finding.Finding.{Finding}
use Rattle.lfi_verifier.specs.declared.stream.LfiEvent.{LfiEvent}
use Rattle.lfi_verifier.specs.declared.stream.LfiStream.{LfiStream}
use Rattle.lfi_verifier.specs.StreamEvents.{numbers_of, event_numbers, with_finding}
use Rattle.lfi_verifier.specs.StreamVerdicts.{AreJudged, HasJudged, Finds, FindsOutcome, StaysJudged, nothing_found}

-- The numbers stand for a stream of which these whole messages came, and then these bytes, and all code of its open modules is judged.
pub record StandsForStream (stream : LfiStream) (messages : List Message) (rest : List ℕ) : Type 0 where
  pub text : text.StandsFor stream.text messages rest
  pub judged : HasJudged stream.verdicts messages rest

-- The numbers tell an event that tells what the used bytes brought, after this text, and what is found of code; and all code is judged.
pub record JudgesNext (told : LfiEvent) (stream : LfiStream) (messages : List Message) (rest used : List ℕ) : Type 0 where
  pub event : Result Event FrameFault
  pub finding : Finding
  pub numbers : told ≡ with_finding (event_numbers event) finding
  pub tells : Tells event stream.text messages rest used
  pub finds : Finds event finding messages rest used
  pub judged : StaysJudged event stream.verdicts stream.text messages rest used tells

-- what is told of the code of a module that is lost, where the modules have these items: its outcome
abbrev pub FindsLost : Event → Finding → (ℕ → List ItemView) → Type 0
FindsLost (End k extent pages reason) finding items = FindsOutcome extent (items k ++ item_of k (pages + 1) extent (item.End reason) ∷ []) finding
FindsLost event finding items = finding ≡ nothing_found

-- The numbers tell the next module that is lost by this fault, with its outcome, or that none is left; and the others are judged as before.
pub record JudgesLost (fault : FrameFault) (told : LfiEvent) (old new : LfiStream) (items : ℕ → List ItemView) : Type 0 where
  pub event : Event
  pub finding : Finding
  pub numbers : told ≡ with_finding (numbers_of event) finding
  pub loses : LosesIn fault old.text new.text event
  pub finds : FindsLost event finding items
  pub judged : AreJudged new.verdicts.modules (progress_at new.text.modules) items
