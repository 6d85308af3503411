-- A stream of bytes as messages. Source: this project's format, docs/PROFILE.md.
use Rattle.std.specs.Prelude.{◌*◌, ◌≡◌, ◌≢◌, ℕ, ◌<◌, ◌==◌, ◌%◌, ◌^◌, nat_lt, nat_le, ◌||◌, ◌&&◌, not, if◌then◌else◌, Bool, List, [], ◌∷◌, ◌++◌, length, drop, slice_index, Option, Some, None, flat_map, All}
use Rattle.byteorder.specs.Endian.{little_bytes, little_number}
use Rattle.lfi_module.specs.Numbers.{module_count, most_words, small_page, large_page}
use Rattle.lfi_module.specs.Pages.{IsPageSize, HasPages}
use Rattle.lfi_module.specs.declared.profile.Profile.{Profile}
use Rattle.lfi_module.specs.declared.profile.Profile.TheVariants.{One, Two}
use Rattle.lfi_module.specs.Extents.{ExtentView}
use Rattle.lfi_frame.specs.declared.header.Header.{Header}
use Rattle.lfi_frame.specs.declared.fault.FrameFault.{FrameFault}
use Rattle.lfi_frame.specs.declared.fault.FrameFault.TheVariants.{Kind, SecondByte, Module, PageLength, CloseNumbers, WordCount, Entry}

-- a list of bytes
abbrev pub AreBytes : List ℕ → Type 0
AreBytes bytes = (i : ℕ) → slice_index bytes i < 256

-- a whole message: a module with its words, entry, profile and pages' size; a page of it, small or large, with its index and bytes; or its close
pub data Message : Type 0 where
  open_message : (m : ℕ) (extent : ExtentView) → Message
  page_message : (m size index : ℕ) (payload : List ℕ) → Message
  close_message : (m : ℕ) → Message

-- the kind of a module's opening, by its profile
abbrev pub open_kind : Profile → ℕ
open_kind = elim [ One ↦ 1 | Two ↦ 4 ]

-- whether a kind is that of an opening, and of which profile it then is
abbrev pub is_open : ℕ → Bool
is_open kind = kind == 1 || kind == 4

-- the profile of a module that a message of this kind opens
abbrev pub opened_by : ℕ → Profile
opened_by kind = if kind == 4 then Two else One

-- the second byte of a module's opening, by the size of its pages, and which size it then is
abbrev pub second_byte : (pages : ℕ) → ℕ
second_byte pages = if pages == large_page then 2 else 0

-- the page size that the second byte of an Open tells, in words
abbrev pub pages_by : (second : ℕ) → ℕ
pages_by second = if second == 2 then large_page else small_page

-- the second bytes that a header of a kind can have
abbrev pub is_second : (kind second : ℕ) → Bool
is_second kind second = second == 0 || kind == 4 && second == 2

-- the kind of a page, by its size
abbrev pub page_kind : (size : ℕ) → ℕ
page_kind size = if size == large_page then 5 else 2

-- whether a kind is that of a page, and of which size it then is
abbrev pub is_page : ℕ → Bool
is_page kind = kind == 2 || kind == 5

-- the page size of a page's kind, in words
abbrev pub size_by : ℕ → ℕ
size_by kind = if kind == 5 then large_page else small_page

-- the header of a message
abbrev pub header_of : Message → Header
header_of (open_message m extent) = record { kind = open_kind extent.profile; second = second_byte extent.pages; «module» = m; a = extent.words; b = extent.entry }
header_of (page_message m size index payload) = record { kind = page_kind size; second = 0; «module» = m; a = index; b = length payload }
header_of (close_message m) = record { kind = 3; second = 0; «module» = m; a = 0; b = 0 }

-- the bytes that follow the header
abbrev pub payload_of : Message → List ℕ
payload_of (open_message m extent) = []
payload_of (page_message m size index payload) = payload
payload_of (close_message m) = []

-- the twelve bytes of a header
abbrev pub header_bytes : Header → List ℕ
header_bytes h = h.kind ∷ h.second ∷ (little_bytes 2 h.«module» ++ (little_bytes 4 h.a ++ little_bytes 4 h.b))

-- the bytes of a message
abbrev pub spelling : Message → List ℕ
spelling message = header_bytes (header_of message) ++ payload_of message

-- the header that twelve bytes spell
abbrev pub header_at : List ℕ → Header
header_at bytes = record {
  kind = slice_index bytes 0;
  second = slice_index bytes 1;
  «module» = little_number 2 (drop 2 bytes);
  a = little_number 4 (drop 4 bytes);
  b = little_number 4 (drop 8 bytes);
}

-- the payload of a page of this size is whole words, at least one and at most a full page's
abbrev pub is_page_length : (size bytes : ℕ) → Bool
is_page_length size bytes = nat_lt 0 bytes && nat_le bytes (4 * size) && bytes % 4 == 0

-- The first fault that a header shows by itself: of its kind (1 Open, 2 Page, 3 Close, 4 Open by the second profile, 5 large Page), its second byte, its module, the length of a page, the numbers of a Close, the words of an Open (at most 4,194,304) and its entry.
abbrev pub header_fault : Header → Option FrameFault
header_fault h =
    if h.kind == 0 || nat_lt 5 h.kind then Some Kind
    else if not (is_second h.kind h.second) then Some SecondByte
    else if nat_le module_count h.«module» then Some Module
    else if is_page h.kind && not (is_page_length (size_by h.kind) h.b) then Some PageLength
    else if h.kind == 3 && not (h.a == 0 && h.b == 0) then Some CloseNumbers
    else if is_open h.kind && (h.a == 0 || nat_lt most_words h.a) then Some WordCount
    else if is_open h.kind && nat_le h.a h.b then Some Entry
    else None

-- the pages of a message are of a size that they can have
abbrev pub HasSizes : Message → Type 0
HasSizes (open_message m extent) = HasPages extent.profile extent.pages
HasSizes (page_message m size index payload) = IsPageSize size
HasSizes (close_message m) = Unit {0}

-- a message without a fault, whose numbers fit their four bytes
pub record IsMessage (message : Message) : Type 0 where
  pub faultless : header_fault (header_of message) ≡ None
  pub a_fits : (header_of message).a < 2 ^ 32
  pub b_fits : (header_of message).b < 2 ^ 32
  pub sizes : HasSizes message

-- How a text goes on: by fewer than twelve bytes, by a header with a fault, by the header of a page (module, size, index, length) whose payload isn't whole, or by a whole message.
pub data Rest : Type 0 where
  short : Rest
  faulty : (fault : FrameFault) → Rest
  unfinished : (m size index len : ℕ) → Rest
  whole : Rest

-- a text that begins with this header, by how many bytes it has after it
abbrev pub rest_after : Option FrameFault → Header → ℕ → Rest
rest_after (Some fault) h payload = faulty fault
rest_after None h payload = if is_page h.kind && nat_lt payload h.b then unfinished h.«module» (size_by h.kind) h.a h.b else whole

-- how a text goes on
abbrev pub rest_of : List ℕ → Rest
rest_of bytes =
    if nat_lt (length bytes) 12 then short
    else rest_after (header_fault (header_at bytes)) (header_at bytes) (length (drop 12 bytes))

-- The bytes are the spellings of these messages, and then a rest in which no whole message stands.
pub record Cut (bytes : List ℕ) (messages : List Message) (rest : List ℕ) : Type 0 where
  pub spelled : bytes ≡ flat_map spelling messages ++ rest
  pub each : All IsMessage messages
  pub stops : rest_of rest ≢ whole
