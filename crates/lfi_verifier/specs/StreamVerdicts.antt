-- What is judged of a stream's code while it comes, and what its events tell of it. Source: include/lfi_verifier.h.
use Rattle.std.specs.Prelude.{◌≡◌, ◌≢◌, ℕ, ◌+◌, List, [], ◌∷◌, ◌++◌, drop, get_or, Option, Some, None, Result, Ok, Err}
use Rattle.a64_word.specs.Words.{words_of}
use Rattle.lfi_module.specs.Extents.{ExtentView}
use Rattle.lfi_module.specs.declared.profile.Profile.{Profile}
use Rattle.lfi_rules.specs.Faults.{FirstFault}
use Rattle.lfi_rules.specs.declared.fault.Fault.{Fault}
use Rattle.lfi_frame.specs.declared.fault.FrameFault.{FrameFault}
use Rattle.lfi_frame.specs.Streams.{Message, Rest, rest_of, unfinished}
use Rattle.lfi_model.specs.Item.{ItemView}
use Rattle.lfi_model.specs.Items.{item_of}
use Rattle.lfi_model.specs.Outcomes.{Load}
use Rattle.lfi_model.specs.declared.connection.Progress.{Progress}
use Rattle.lfi_model.specs.declared.connection.Progress.TheVariants.{Going}
use Rattle.lfi_model.specs.declared.item.ItemKind.TheVariants as item
use Rattle.lfi_model.specs.declared.outcome.Outcome.{Outcome}
use Rattle.lfi_model.specs.declared.outcome.Outcome.TheVariants as outcome
use Rattle.lfi_connection.specs.declared.event.Event.{Event}
use Rattle.lfi_connection.specs.declared.event.Event.TheVariants as event
use Rattle.lfi_stream.specs.declared.numbers.LfiStreamText.{LfiStreamText}
use Rattle.lfi_stream.specs.Events.{Tells}
use Rattle.lfi_stream.specs.Numbers.{progress_at}
use Rattle.lfi_stream.specs.Outcomes.{code_of, HasWholePages}
use Rattle.lfi_stream.specs.Streams.{made_of}
use Rattle.lfi_verifier.specs.declared.cut_state.LfiCutState.{LfiCutState}
use Rattle.lfi_verifier.specs.declared.finding.Finding.{Finding}
use Rattle.lfi_verifier.specs.declared.state.LfiState.{LfiState}
use Rattle.lfi_verifier.specs.declared.status.Status.TheVariants.{Lawful, Refused, Incomplete, BadState}
use Rattle.lfi_verifier.specs.declared.verdicts.LfiStreamVerdicts.{LfiStreamVerdicts}
use Rattle.lfi_verifier.specs.CutStates.{StandsForCut}
use Rattle.lfi_verifier.specs.States.{StandsFor, status_after}

-- the state of no module
abbrev pub no_state : LfiState
no_state = record { profile = 0; words = 0; judged = 0; fault = record { word = 0; rule = 0 }; need = 0 }

-- that of module m
abbrev pub state_at : List LfiState → ℕ → LfiState
state_at states m = get_or states m no_state

-- nothing is told of code
abbrev pub nothing_found : Finding
nothing_found = record { status = Lawful; fault = None }

-- the numbers are those of no module, and nothing is judged
abbrev pub bad_found : Finding
bad_found = record { status = BadState; fault = None }

-- What is told of these bytes, the first of a module of `words` words: the first fault by a profile of the whole words of them, or that there is none.
pub record FindsSoFar (profile : Profile) (words : ℕ) (bytes : List ℕ) (finding : Finding) : Type 0 where
  pub fault : Option Fault
  pub first : FirstFault profile (words_of bytes) words fault
  pub is : finding ≡ record { status = status_after fault; fault = fault }

-- what is told of an outcome: that the module is complete and lawful, or its first fault, or neither
abbrev pub finding_of : Outcome → Finding
finding_of (outcome.Complete words) = record { status = Lawful; fault = None }
finding_of (outcome.Refused fault) = record { status = Refused; fault = Some fault }
finding_of result = record { status = Incomplete; fault = None }

-- What is told of a module with these items: the outcome that one plain pass over them makes, which `lfiload load` tells.
pub record FindsOutcome (extent : ExtentView) (items : List ItemView) (finding : Finding) : Type 0 where
  pub outcome : Outcome
  pub loads : Load extent items outcome
  pub is : finding ≡ finding_of outcome

-- The state of an open module is that of its whole pages.
pub record IsJudged (state : LfiState) (extent : ExtentView) (pages : ℕ) (items : List ItemView) : Type 0 where
  pub whole : HasWholePages extent pages items
  pub stands : StandsFor state extent.profile extent.words (code_of items)

-- the same of each open module
abbrev pub AreJudged : List LfiState → (ℕ → Progress) → (ℕ → List ItemView) → Type 0
AreJudged states progress items = (m : ℕ) (extent : ExtentView) (pages : ℕ) → progress m ≡ Going extent pages → IsJudged (state_at states m) extent pages (items m)

-- and where the modules are those of a text
abbrev pub JudgesPages : LfiStreamVerdicts → (messages : List Message) → Rest → Type 0
JudgesPages verdicts messages rest = AreJudged verdicts.modules (λ m. (made_of messages rest m).progress) (λ m. (made_of messages rest m).items)

-- What came of the page that is due of an open module is judged, after its whole pages.
abbrev pub JudgesComing : LfiCutState → (messages : List Message) (rest : List ℕ) → Type 0
JudgesComing coming messages rest = (m size index len : ℕ) (extent : ExtentView) (pages : ℕ) → rest_of rest ≡ unfinished m size index len →
    (made_of messages (rest_of rest) m).progress ≡ Going extent pages → drop 12 rest ≢ [] →
    StandsForCut coming extent.profile extent.words (code_of (made_of messages (rest_of rest) m).items ++ drop 12 rest)

-- All code of open modules is judged that these messages and this rest have.
pub record HasJudged (verdicts : LfiStreamVerdicts) (messages : List Message) (rest : List ℕ) : Type 0 where
  pub pages : JudgesPages verdicts messages (rest_of rest)
  pub coming : JudgesComing verdicts.coming messages rest

-- What an event tells of code, where these bytes were used after this text: of code, the first fault of all that came of its module, these bytes included; of an end, the module's outcome.
abbrev pub Finds : Result Event FrameFault → Finding → (messages : List Message) → (rest used : List ℕ) → Type 0
Finds (Ok (event.Code page ended)) finding messages rest used =
    FindsSoFar page.extent.profile page.extent.words (code_of (made_of messages (rest_of rest) page.«module»).items ++ (drop 12 rest ++ used)) finding
Finds (Ok (event.End k extent pages reason)) finding messages rest used =
    FindsOutcome extent ((made_of messages (rest_of rest) k).items ++ item_of k (pages + 1) extent (item.End reason) ∷ []) finding
Finds other finding messages rest used = finding ≡ nothing_found

-- After an event all code of open modules is judged; after a fault, the whole pages of those that the numbers tell as open.
abbrev pub StaysJudged : (told : Result Event FrameFault) → LfiStreamVerdicts → (text : LfiStreamText) → (messages : List Message) → (rest used : List ℕ) → Tells told text messages rest used → Type 0
StaysJudged (Err fault) verdicts text messages rest used told = AreJudged verdicts.modules (progress_at text.modules) (λ m. (made_of messages (rest_of (rest ++ used)) m).items)
StaysJudged (Ok event) verdicts text messages rest used told = HasJudged verdicts told.now told.left
