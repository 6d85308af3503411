-- What the events of a connection tell of its text. Source: docs/PROFILE.md, "Streams".
use Rattle.std.specs.Prelude.{◌≡◌, ℕ, ◌+◌, ◌<◌, ◌≤◌, ◌==◌, if◌then◌else◌, Bool, true, false, List, [], ◌∷◌, ◌++◌, length, drop, flat_map, ◌⊎◌, Option, Some, None}
use Rattle.lfi_module.specs.Pages.{page_count}
use Rattle.lfi_frame.specs.Streams.{Message, spelling, rest_of, unfinished}
use Rattle.lfi_frame.specs.Feeds.{FeedStands}
use Rattle.lfi_frame.specs.declared.feed.Feed.{Feed}
use Rattle.lfi_frame.specs.declared.answer.Got.{Got}
use Rattle.lfi_frame.specs.declared.answer.Got.TheVariants as got
use Rattle.lfi_model.specs.declared.item.ItemKind.TheVariants as item
use Rattle.lfi_model.specs.declared.connection.Progress.{Progress}
use Rattle.lfi_model.specs.declared.connection.Progress.TheVariants.{Unclaimed, Going, Ended}
use Rattle.lfi_model.specs.Item.{ItemView}
use Rattle.lfi_model.specs.Items.{Share, with_item, with_stray, item_of}
use Rattle.lfi_connection.specs.declared.due_page.DuePage.{DuePage}
use Rattle.lfi_connection.specs.declared.event.Event.{Event}
use Rattle.lfi_connection.specs.declared.event.Event.TheVariants.{Nothing, Open, Begin, Code, Stray, End}
use Rattle.lfi_connection.specs.Modules.{IsPossible, IsOver}
use Rattle.lfi_connection.specs.DuePages.{bytes_of, IsWhole, GoesOn}
use Rattle.lfi_connection.specs.Connections.{made_of, IsDue, Holds}

-- What module m has got after an event, by what it had got before: the item that the event tells. `payload` is that of the page that ended.
abbrev pub after_event : ℕ → Event → (payload : List ℕ) → Share → Share
after_event m (Open k extent) payload s = if m == k then with_item s (item_of m 0 extent item.Open) (Going extent 0) else s
after_event m (Code page true) payload s =
    if m == page.«module» then with_item s (item_of m (page.pages + 1) page.extent (item.Page payload)) (Going page.extent (page.pages + 1)) else s
after_event m (Stray k) payload s = if m == k then with_stray s else s
after_event m (End k extent pages reason) payload s = if m == k then with_item s (item_of m (pages + 1) extent (item.End reason)) Ended else s
after_event m event payload s = s

-- What the text made of each module grows by what the event tells, and by nothing else.
abbrev pub Grows : Event → (claimed : ℕ → Bool) → (messages : List Message) → (rest : List ℕ) → (now : List Message) → (left : List ℕ) → (payload : List ℕ) → Type 0
Grows event claimed messages rest now left payload = (m : ℕ) → made_of claimed now (rest_of left) m ≡ after_event m event payload (made_of claimed messages (rest_of rest) m)

-- an event that isn't code
abbrev pub IsPlain : Event → Type 0
IsPlain (Code page ended) = ⊥
IsPlain event = Unit {0}

-- How far the module of an event was before it: one that opens wasn't claimed; one of which a page begins was open, and has that page, of which no byte came; one that ends was open too.
abbrev pub Follows : Event → (ℕ → Progress) → Type 0
Follows (Open k extent) was = was k ≡ Unclaimed
Follows (Begin page) was = (was page.«module» ≡ Going page.extent page.pages) × (page.pages < page_count page.extent.pages page.extent.words) × (page.come ≡ 0)
Follows (End k extent pages reason) was = (was k ≡ Going extent pages) × IsPossible (Going extent pages)
Follows event was = Unit {0}

-- Code is told of the page that is coming, and of no byte more than it has.
abbrev pub Continues : Event → (coming : Option DuePage) → (count : ℕ) → Type 0
Continues (Code page ended) coming count = (coming ≡ Some page) × GoesOn page count ended
Continues event coming count = Unit {0}

-- Which page is coming after an event: the one that begins; of which code came with `count` bytes more, or none where it ended; else the same.
abbrev pub coming_after : Event → (count : ℕ) → Option DuePage → Option DuePage
coming_after (Begin page) count coming = Some page
coming_after (Code page true) count coming = None
coming_after (Code page false) count coming = Some (record page { come = page.come + count })
coming_after event count coming = coming

-- The bytes used go on in one message: to its end, or in its header, or in its payload.
abbrev pub IsInMessage : (messages : List Message) (rest used : List ℕ) → (now : List Message) (left : List ℕ) → Type 0
IsInMessage messages rest used now left = (left ≡ []) ⊎ ((now ≡ messages) × (left ≡ rest ++ used) × ((length left ≤ 12) ⊎ (12 ≤ length rest)))

-- The bytes used after this text are payload of this page, which is the next one of an open module; they end it where all of it came.
pub record IsCodeOf (page : DuePage) (ended : Bool) (claimed : ℕ → Bool) (messages : List Message) (rest used : List ℕ) : Type 0 where
  pub due : IsDue page (made_of claimed messages (rest_of rest) page.«module»).progress rest
  pub whole : IsWhole ended (length (drop 12 rest ++ used)) (bytes_of page)

-- no page is due whose payload comes after this text
abbrev pub IsPassed : (claimed : ℕ → Bool) → (messages : List Message) → (rest : List ℕ) → Type 0
IsPassed claimed messages rest = (m size index len : ℕ) → rest_of rest ≡ unfinished m size index len → IsOver (made_of claimed messages (rest_of rest) m).progress

-- Code is told of its page; and where none is told, none was used.
abbrev pub TellsCode : Event → (claimed : ℕ → Bool) → (messages : List Message) → (rest used : List ℕ) → Type 0
TellsCode (Code page ended) claimed messages rest used = IsCodeOf page ended claimed messages rest used
TellsCode Nothing claimed messages rest used = (used ≡ []) ⊎ IsPassed claimed messages rest
TellsCode event claimed messages rest used = IsPassed claimed messages rest

-- the answer to a claim, where a module opens that wasn't claimed before, is that of these claims
abbrev pub Answers : Got → (is_free : Bool) → (claimed : ℕ → Bool) → (was : ℕ → Progress) → Type 0
Answers (got.Open k extent) is_free claimed was = was k ≡ Unclaimed → claimed k ≡ is_free
Answers got is_free claimed was = Unit {0}

-- After an event the text is longer by the bytes used, and cut so; the feed, the modules and the page that is coming stand for it.
pub record Moves (feed : Feed) (progress : ℕ → Progress) (coming : Option DuePage) (claimed : ℕ → Bool) (messages : List Message) (rest used : List ℕ) (event : Event) : Type 0 where
  pub now : List Message
  pub left : List ℕ
  pub stands : FeedStands feed now left
  pub holds : Holds progress (coming_after event (length used) coming) claimed now left
  pub text : flat_map spelling now ++ left ≡ flat_map spelling messages ++ (rest ++ used)
  pub grows : Grows event claimed messages rest now left (drop 12 rest ++ used)
  pub code : TellsCode event claimed messages rest used
  pub follows : Follows event (λ m. (made_of claimed messages (rest_of rest) m).progress)
  pub inside : IsInMessage messages rest used now left

-- the items that an event tells; `payload` is that of the page that ended
abbrev pub items_told : Event → (payload : List ℕ) → List ItemView
items_told (Open k extent) payload = item_of k 0 extent item.Open ∷ []
items_told (Code page true) payload = item_of page.«module» (page.pages + 1) page.extent (item.Page payload) ∷ []
items_told (End k extent pages reason) payload = item_of k (pages + 1) extent (item.End reason) ∷ []
items_told event payload = []

-- how many strays it tells
abbrev pub strays_told : Event → ℕ
strays_told (Stray k) = 1
strays_told event = 0
