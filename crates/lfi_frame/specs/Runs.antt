-- What a feed has told over many calls.
use Rattle.std.specs.Prelude.{◌≡◌, ℕ, true, false, List, [], ◌∷◌, ◌++◌, take, drop, flat_map, Result, Ok, Err}
use Rattle.lfi_frame.specs.declared.fault.FrameFault.{FrameFault}
use Rattle.lfi_frame.specs.declared.feed.Feed.{Feed}
use Rattle.lfi_frame.specs.declared.answer.Step.{Step}
use Rattle.lfi_frame.specs.declared.answer.Got.{Got}
use Rattle.lfi_frame.specs.declared.answer.Got.TheVariants.{More, Open, Page, Payload, Close}
use Rattle.lfi_frame.specs.Streams.{Message, open_message, page_message, close_message}
use Rattle.lfi_frame.specs.Feeds.{IsFed, used_in}

-- one call: the feed before it, the piece, the answer, and the feed after it
pub record Call : Type 0 where
  pub old : Feed
  pub piece : List ℕ
  pub answer : Result Step (ℕ × FrameFault)
  pub new : Feed

-- these calls lead from one feed to another, and each keeps what `feed` promises
abbrev pub AreCalls : Feed → List Call → Feed → Type 0
AreCalls from [] to = from ≡ to
AreCalls from (call ∷ calls) to = (call.old ≡ from) × IsFed call.old call.piece call.answer call.new × AreCalls call.new calls to

-- the bytes that a call used
abbrev pub used_by : Call → List ℕ
used_by call = take (used_in call.answer) call.piece

-- what a listener puts together from the answers: the whole messages, and of the page whose header came last its module, size, index and bytes
pub record Heard : Type 0 where
  pub messages : List Message
  pub m : ℕ
  pub size : ℕ
  pub index : ℕ
  pub payload : List ℕ

-- what was heard, with what one answer brings
abbrev pub hear_got : Got → Heard → List ℕ → Heard
hear_got More heard used = heard
hear_got (Open m extent) heard used = record heard { messages = heard.messages ++ open_message m extent ∷ [] }
hear_got (Page m size index len) heard used = record { messages = heard.messages; m = m; size = size; index = index; payload = [] }
hear_got (Payload false) heard used = record heard { payload = heard.payload ++ used }
hear_got (Payload true) heard used = record heard { messages = heard.messages ++ page_message heard.m heard.size heard.index (heard.payload ++ used) ∷ [] }
hear_got (Close m) heard used = record heard { messages = heard.messages ++ close_message m ∷ [] }

-- the same; a fault brings nothing
abbrev pub hear_answer : Result Step (ℕ × FrameFault) → Heard → List ℕ → Heard
hear_answer (Ok step) heard used = hear_got step.got heard used
hear_answer (Err fault) heard used = heard

-- what was heard after these calls
abbrev pub hear : Heard → List Call → Heard
hear heard [] = heard
hear heard (call ∷ calls) = hear (hear_answer call.answer heard (used_by call)) calls

-- before the first call
abbrev pub nothing_heard : Heard
nothing_heard = record { messages = []; m = 0; size = 0; index = 0; payload = [] }

-- the bytes of all pieces
abbrev pub joined : List (List ℕ) → List ℕ
joined pieces = flat_map (λ piece. piece) pieces

-- These calls use the pieces up: each is given the bytes that are still left of the first piece.
abbrev pub UseUp : List (List ℕ) → List Call → Type 0
UseUp pieces [] = joined pieces ≡ []
UseUp pieces (call ∷ calls) = (later : List (List ℕ)) × (joined pieces ≡ call.piece ++ joined later) × UseUp (drop (used_in call.answer) call.piece ∷ later) calls
