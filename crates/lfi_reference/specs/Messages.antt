-- What the reference implementation's messages and rests stand for. Source: this project's format, docs/PROFILE.md.
use Rattle.std.specs.Prelude.{◌≡◌, ℕ, Bool, if◌then◌else◌, List, ◌++◌}
use Rattle.lfi_frame.specs.Streams.{Message, open_message, page_message, close_message, spelling, IsMessage, Rest, short, faulty, unfinished, whole}
use Rattle.lfi_module.specs.Numbers.{small_page, large_page}
use Rattle.lfi_module.specs.Extents.{ExtentView}
use Rattle.lfi_reference.specs.declared.message.PlainExtent.{PlainExtent}
use Rattle.lfi_reference.specs.declared.message.PlainMessage.{PlainMessage}
use Rattle.lfi_reference.specs.declared.message.PlainMessage.TheVariants.{Open, Page, Close}
use Rattle.lfi_reference.specs.declared.rest.PlainRest.{PlainRest}
use Rattle.lfi_reference.specs.declared.rest.PlainRest.TheVariants.{Short, Faulty, Unfinished, Whole}

-- the words of a full page, a large one or a small one
abbrev pub size_of : Bool → ℕ
size_of large = if large then large_page else small_page

-- the extent of a module
abbrev pub extent_by : PlainExtent → ExtentView
extent_by extent = record { words = extent.words; entry = extent.entry; profile = extent.profile; pages = size_of extent.large }

-- a message of the reference implementation
abbrev pub message_of : PlainMessage → Message
message_of (Open m extent) = open_message m (extent_by extent)
message_of (Page m large index payload) = page_message m (size_of large) index payload.items
message_of (Close m) = close_message m

-- a rest of the reference implementation
abbrev pub rest_by : PlainRest → Rest
rest_by Short = short
rest_by (Faulty fault) = faulty fault
rest_by (Unfinished m large index len) = unfinished m (size_of large) index len
rest_by Whole = whole

-- a text is the spelling of this message, and then more
pub record Begins (bytes : List ℕ) (message : Message) (more : List ℕ) : Type 0 where
  pub is : IsMessage message
  pub spelled : bytes ≡ spelling message ++ more
