-- What a feed stands for, and what its answers tell. Source: this project's format, docs/PROFILE.md.
use Rattle.std.specs.Prelude.{◌*◌, ◌≡◌, ◌≢◌, ℕ, ◌%◌, ◌≤◌, ◌<◌, ◌+◌, ◌-◌, ◌^◌, Bool, true, false, nat_lt, List, [], ◌∷◌, ◌++◌, length, take, drop, ◌⊎◌, Option, Some, None, Result, Ok, Err, All, if◌then◌else◌}
use Rattle.lfi_module.specs.Extents.{ExtentView}
use Rattle.lfi_module.specs.Pages.{IsPageSize}
use Rattle.lfi_frame.specs.declared.header.Header.{Header}
use Rattle.lfi_frame.specs.declared.fault.FrameFault.{FrameFault}
use Rattle.lfi_frame.specs.declared.fault.FrameFault.TheVariants.{NoMemory, Ended, ReadFailed}
use Rattle.lfi_frame.specs.declared.feed.Feed.{Feed}
use Rattle.lfi_frame.specs.declared.answer.Step.{Step}
use Rattle.lfi_frame.specs.declared.answer.Got.{Got}
use Rattle.lfi_frame.specs.declared.answer.Got.TheVariants.{More, Open, Page, Payload, Close}
use Rattle.lfi_frame.specs.declared.feed.Position.{Position}
use Rattle.lfi_frame.specs.declared.feed.Position.TheVariants as position
use Rattle.lfi_frame.specs.Streams.{AreBytes, Message, open_message, page_message, close_message, is_open, opened_by, pages_by, page_kind, is_page, size_by, spelling, header_bytes, header_fault, IsMessage, rest_of, faulty, unfinished, short, whole}

-- the header of a page
abbrev pub page_header : (m size index len : ℕ) → Header
page_header m size index len = record { kind = page_kind size; second = 0; «module» = m; a = index; b = len }

-- The bytes since the last whole message are a page's header and some of its payload, of which so much is still to come.
pub record IsInPage (rest : List ℕ) (left : ℕ) : Type 0 where
  pub m : ℕ
  pub size : ℕ
  pub index : ℕ
  pub len : ℕ
  pub payload : List ℕ
  pub spelled : rest ≡ header_bytes (page_header m size index len) ++ payload
  pub faultless : header_fault (page_header m size index len) ≡ None
  pub sized : IsPageSize size
  pub index_fits : index < 2 ^ 32
  pub to_come : length payload + left ≡ len
  pub unended : 0 < left

-- what a fault says of the bytes since the last whole message: they show it; or, for the faults that bytes do not show, they are no whole message, and where the input ended they are some
abbrev pub IsSeen : FrameFault → List ℕ → Type 0
IsSeen NoMemory rest = rest_of rest ≢ whole
IsSeen ReadFailed rest = rest_of rest ≢ whole
IsSeen Ended rest = (rest ≢ []) × (rest_of rest ≢ whole)
IsSeen fault rest = rest_of rest ≡ faulty fault

-- what a position and the held bytes say of the bytes since the last whole message
abbrev pub IsAt : List ℕ → Position → List ℕ → Type 0
IsAt held (position.Header filled) rest = (filled < 12) × (rest ≡ take filled held) × AreBytes rest
IsAt held (position.Payload left) rest = IsInPage rest left
IsAt held (position.Faulty fault) rest = IsSeen fault rest

-- The feed has been given the spellings of these messages, and then these bytes.
pub record FeedStands (feed : Feed) (messages : List Message) (rest : List ℕ) : Type 0 where
  pub each : All IsMessage messages
  pub position : IsAt feed.held feed.position rest

-- the bytes that it holds: those of the header that came last, as far as they came
abbrev pub header_held : Feed → List ℕ
header_held feed = feed.held

-- Of the bytes since the last whole message it holds the header, as far as that came.
abbrev pub HoldsHeader : Feed → (rest : List ℕ) → Type 0
HoldsHeader feed rest = take (length rest) (header_held feed) ≡ take 12 rest

-- What a call tells that used these bytes after that rest.
abbrev pub IsTold : Got → Feed → List Message → List ℕ → List ℕ → Type 0
IsTold More new messages rest used =
    FeedStands new messages (rest ++ used) × ((rest_of (rest ++ used) ≡ short) ⊎ (used ≡ []))
IsTold (Open m extent) new messages rest used =
    FeedStands new (messages ++ open_message m extent ∷ []) [] × (rest ++ used ≡ spelling (open_message m extent))
IsTold (Page m size index len) new messages rest used =
    FeedStands new messages (rest ++ used) × (length (rest ++ used) ≡ 12) × (rest_of (rest ++ used) ≡ unfinished m size index len)
IsTold (Payload false) new messages rest used =
    (m size index len : ℕ) × (rest_of rest ≡ unfinished m size index len) × (rest_of (rest ++ used) ≡ unfinished m size index len) × FeedStands new messages (rest ++ used)
IsTold (Payload true) new messages rest used =
    let payload = drop 12 rest ++ used in
    (m size index len : ℕ) × (rest_of rest ≡ unfinished m size index len) × (rest ++ used ≡ spelling (page_message m size index payload)) × FeedStands new (messages ++ page_message m size index payload ∷ []) []
IsTold (Close m) new messages rest used =
    FeedStands new (messages ++ close_message m ∷ []) [] × (rest ++ used ≡ spelling (close_message m))

-- the length of a page that an answer tells is that of whole words, at least one and at most a full page's
abbrev pub IsInRange : Got → Type 0
IsInRange (Page m size index len) = (0 < len) × (len ≤ 4 * size) × (len % 4 ≡ 0)
IsInRange got = Unit {0}

-- the bytes that a call used
abbrev pub used_in : Result Step (ℕ × FrameFault) → ℕ
used_in (Ok step) = step.used
used_in (Err fault) = fault.0

-- Where nothing came to its end, the whole piece was used.
abbrev pub UsesAll : Result Step (ℕ × FrameFault) → ℕ → Type 0
UsesAll (Ok step) len = step.got ≡ More → step.used ≡ len
UsesAll (Err fault) len = Unit {0}

-- Where a page goes on, the whole piece was payload.
abbrev pub UsesPayload : Result Step (ℕ × FrameFault) → ℕ → Type 0
UsesPayload (Ok step) len = step.got ≡ Payload false → step.used ≡ len
UsesPayload (Err fault) len = Unit {0}

-- A header with a fault is used to its end, and nothing after it.
abbrev pub UsesHeader : Result Step (ℕ × FrameFault) → List ℕ → Type 0
UsesHeader (Ok step) rest = Unit {0}
UsesHeader (Err fault) rest = length rest + fault.0 ≡ 12

-- whatever text the feed stands for, the answer uses bytes of a header
abbrev pub IsHeaderUsed : Feed → Result Step (ℕ × FrameFault) → Type 0
IsHeaderUsed old answer = (messages : List Message) (rest : List ℕ) → FeedStands old messages rest → UsesHeader answer rest

-- What an answer tells. A fault is shown by the bytes that were used, or was there before.
abbrev pub Tells : Result Step (ℕ × FrameFault) → Feed → List Message → List ℕ → List ℕ → Type 0
Tells (Ok step) new messages rest piece = IsTold step.got new messages rest (take step.used piece)
Tells (Err fault) new messages rest piece =
    let used = take fault.0 piece in
    FeedStands new messages (rest ++ used) × ((rest_of (rest ++ used) ≡ faulty fault.1) ⊎ (used ≡ []))

-- What a call tells holds of every text that the feed stands for.
abbrev pub IsFed : Feed → List ℕ → Result Step (ℕ × FrameFault) → Feed → Type 0
IsFed old piece answer new = (messages : List Message) (rest : List ℕ) → FeedStands old messages rest → Tells answer new messages rest piece

-- a feed can be at a position: of a header it holds fewer than its twelve bytes, and of a payload a byte is still to come
abbrev pub can_be_at : Position → Bool
can_be_at (position.Header filled) = nat_lt filled 12
can_be_at (position.Payload left) = nat_lt 0 left
can_be_at (position.Faulty fault) = true

-- how many bytes end the header or the payload in which a stream is; none after a fault
abbrev pub awaited_at : Position → ℕ
awaited_at (position.Header filled) = 12 - filled
awaited_at (position.Payload left) = left
awaited_at (position.Faulty fault) = 0

-- the same, of a feed's stream
abbrev pub awaited : Feed → ℕ
awaited feed = awaited_at feed.position

-- the fault of a stream at a position
abbrev pub fault_at : Position → Option FrameFault
fault_at (position.Header filled) = None
fault_at (position.Payload left) = None
fault_at (position.Faulty fault) = Some fault

-- the fault of a feed's stream, once it has one
abbrev pub feed_fault : Feed → Option FrameFault
feed_fault feed = fault_at feed.position

-- the fault that an answer tells
abbrev pub fault_told : Result Step (ℕ × FrameFault) → Option FrameFault
fault_told (Ok step) = None
fault_told (Err fault) = Some fault.1

-- the fault that the end of the input brought
abbrev pub fault_ended : Result Unit FrameFault → Option FrameFault
fault_ended (Ok _) = None
fault_ended (Err fault) = Some fault

-- The input ended without a fault exactly where nothing has come since the last whole message.
abbrev pub IsAtEnd : Option FrameFault → List ℕ → Result Unit FrameFault → Type 0
IsAtEnd None rest (Ok _) = rest ≡ []
IsAtEnd None rest (Err fault) = (rest ≢ []) × (fault ≡ Ended)
IsAtEnd (Some before) rest answer = Unit {0}

-- how large a module is that a header opens
abbrev pub opened : Header → ExtentView
opened h = record { words = h.a; entry = h.b; profile = opened_by h.kind; pages = pages_by h.second }

-- what a header brings, and where a feed is after it
abbrev pub got_by : Header → Got
got_by h = if is_page h.kind then Page h.«module» (size_by h.kind) h.a h.b else if is_open h.kind then Open h.«module» (opened h) else Close h.«module»

-- what is told of a header: its fault, or what it brings
abbrev pub answer_by : Option FrameFault → Header → Result Got FrameFault
answer_by (Some fault) h = Err fault
answer_by None h = Ok (got_by h)

-- the same, by the header alone
abbrev pub answer_to : Header → Result Got FrameFault
answer_to h = answer_by (header_fault h) h

-- where a feed is after a header
abbrev pub position_by : Option FrameFault → Header → Position
position_by (Some fault) h = position.Faulty fault
position_by None h = if is_page h.kind then position.Payload h.b else position.Header 0

-- the same, by the header alone
abbrev pub position_after : Header → Position
position_after h = position_by (header_fault h) h
