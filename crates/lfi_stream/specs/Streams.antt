-- What a stream whose numbers a caller keeps stands for. Source: docs/PROFILE.md, "Streams".
use Rattle.std.specs.Prelude.{◌≡◌, ℕ, Bool, true, List, ◌++◌, flat_map, Some, None, IsSome, ◌⊎◌, All}
use Rattle.lfi_frame.specs.Streams.{Message, IsMessage, spelling, Rest}
use Rattle.lfi_frame.specs.Feeds.{IsAt, fault_at}
use Rattle.lfi_frame.specs.declared.feed.Position.{Position}
use Rattle.lfi_model.specs.Items.{Share, share_of}
use Rattle.lfi_connection.specs.Connections.{Holds}
use Rattle.lfi_stream.specs.declared.numbers.LfiStreamText.{LfiStreamText}
use Rattle.lfi_stream.specs.declared.numbers.LfiStreamFeed.{LfiStreamFeed}
use Rattle.lfi_stream.specs.Numbers.{position_at, names_none, page_at, progress_at}

-- each claim of a module succeeds
abbrev pub all : ℕ → Bool
all m = true

-- what a text of these messages and this rest makes of module m: its items, its strays, and how far it is
abbrev pub made_of : (messages : List Message) (rest : Rest) → ℕ → Share
made_of messages rest m = share_of true m messages rest

-- where it is in its messages, it has no fault, and the bytes since the last whole message are these
pub record IsIn (feed : LfiStreamFeed) (rest : List ℕ) : Type 0 where
  pub position : Position
  pub is : position_at feed.place feed.number ≡ Some position
  pub faultless : fault_at position ≡ None
  pub holds : IsAt feed.held position rest

-- The numbers stand for a stream of which these whole messages came, and then these bytes, and which has no fault.
pub record StandsFor (stream : LfiStreamText) (messages : List Message) (rest : List ℕ) : Type 0 where
  pub each : All IsMessage messages
  pub feed : IsIn stream.feed rest
  pub page : (names_none stream.page ≡ true) ⊎ IsSome (page_at stream)
  pub holds : Holds (progress_at stream.modules) (page_at stream) all messages rest

-- The numbers stand for a stream of which these bytes came.
pub record StandsForText (stream : LfiStreamText) (text : List ℕ) : Type 0 where
  pub messages : List Message
  pub rest : List ℕ
  pub spelled : text ≡ flat_map spelling messages ++ rest
  pub stands : StandsFor stream messages rest
