-- What `lfiload info` tells of files. Source: this project's profile, docs/COMMANDS.md.
use Rattle.std.specs.Prelude.{◌≡◌, ◌⊎◌, ℕ, ◌+◌, ◌==◌, nat_lt, Bool, true, false, if◌then◌else◌, List, [], ◌∷◌, ◌++◌, length, flat_map, map, Option, Some, None, IfSome, codes, decimal}
use Rattle.std.specs.Io.KnownBytes.{Appends}
use Rattle.a64_word.specs.Words.{words_of}
use Rattle.lfi_module.specs.Numbers.{base_of, large_page}
use Rattle.lfi_module.specs.Profiles.{profile_number}
use Rattle.lfi_image.specs.Image.{Image, IsImage}
use Rattle.lfi_image_file.specs.declared.fault.ImageFault.{ImageFault}
use Rattle.lfi_image_file.specs.Files.{FileOf}
use Rattle.lfi_image_file.specs.Reading.{IsFault}
use Rattle.lfi_frame.specs.declared.fault.FrameFault.{FrameFault}
use Rattle.lfi_frame.specs.declared.fault.FrameFault.TheVariants.{Ended}
use Rattle.lfi_frame.specs.Faults.{number_of, fault_text}
use Rattle.lfi_frame.specs.Streams.{Cut, Message, open_message, page_message, close_message, Rest, short, faulty, unfinished, whole, rest_of, spelling}
use Rattle.lfi_run_image.specs.declared.image_run.ImageRun.TheVariants.{Refused}
use Rattle.lfi_run_image.specs.Texts.{address_text, run_text}
use Rattle.lfi_check.specs.Checking.{IsCode}
use Rattle.lfi_command_line.specs.declared.options.InfoOptions.{InfoOptions}
use Rattle.lfi_file_commands.specs.declared.ending.Ending.{Ending}
use Rattle.lfi_file_commands.specs.declared.ending.Ending.TheVariants.{Well, NotWell}
use Rattle.lfi_file_commands.specs.declared.kind.FileKind.{FileKind}
use Rattle.lfi_file_commands.specs.declared.kind.FileKind.TheVariants as kinds
use Rattle.lfi_file_commands.specs.Checking.{name_before}
use Rattle.lfi_file_commands.specs.Endings.{ending_of_run}
use Rattle.lfi_file_commands.specs.Explaining.{IsUnread}
use Rattle.lfi_file_commands.specs.Kinds.{file_kind, kind_text}
use Rattle.lfi_file_commands.specs.Left.{Left, TellsNothing}
use Rattle.lfi_file_commands.specs.Several.{DoesEach}

-- code of n words
abbrev pub code_text : ℕ → List ℕ
code_text n = codes "code, " ++ decimal n ++ codes " words\n"

-- what is no code, by the number of its bytes
abbrev pub no_code_text : ℕ → List ℕ
no_code_text n = codes "no code, " ++ decimal n ++ codes " bytes\n"

-- what an image holds: its slot, the slot's base, and the words, entry and profile of its module
abbrev pub held_text : (slot base words entry profile : ℕ) → List ℕ
held_text slot base words entry profile =
    codes "image\n  slot " ++ decimal slot ++ codes "\n  base " ++ address_text base ++ codes "\n  words " ++ decimal words ++ codes "\n  entry " ++ decimal entry
    ++ codes "\n  profile " ++ decimal profile ++ codes "\n  lawful\n"

-- the same of an image
abbrev pub image_text : Image → List ℕ
image_text image = held_text image.slot (base_of image.slot) (length image.words) image.entry (profile_number image.profile)

-- the size of a module's pages, in words
abbrev pub pages_text : (size : ℕ) → List ℕ
pages_text size = if size == large_page then codes "large pages" else codes "small pages"

-- how a module is opened
abbrev pub opening_text : (words entry profile pages : ℕ) → List ℕ
opening_text words entry profile pages = codes "open, " ++ decimal words ++ codes " words, entry " ++ decimal entry ++ codes ", profile " ++ decimal profile ++ codes ", " ++ pages_text pages

-- a page, with how many bytes it has
abbrev pub page_text : (m index bytes : ℕ) → List ℕ
page_text m index bytes = codes "module " ++ decimal m ++ codes " page " ++ decimal index ++ codes ", " ++ decimal bytes ++ codes " bytes"

-- a message of a stream
abbrev pub message_text : Message → List ℕ
message_text (open_message m extent) = codes "module " ++ decimal m ++ codes " " ++ opening_text extent.words extent.entry (profile_number extent.profile) extent.pages
message_text (page_message m size index payload) = page_text m index (length payload)
message_text (close_message m) = codes "module " ++ decimal m ++ codes " close"

-- its line, by the byte of the stream at which it begins
abbrev pub message_line : (at : ℕ) → Message → List ℕ
message_line at message = codes "  byte " ++ decimal at ++ codes ": " ++ message_text message ++ codes "\n"

-- the lines of messages, one behind another, of which the first begins at a byte
abbrev pub message_lines : (at : ℕ) → List Message → List ℕ
message_lines at [] = []
message_lines at (message ∷ rest) = message_line at message ++ message_lines (at + length (spelling message)) rest

-- the fault of a stream, by what follows its whole messages: that of the next header, or that it ends within a message
abbrev pub fault_by : Rest → Option FrameFault
fault_by short = Some Ended
fault_by (faulty fault) = Some fault
fault_by (unfinished m size index len) = Some Ended
fault_by whole = None

-- where nothing follows, there is none
abbrev pub fault_of : (rest : List ℕ) → Option FrameFault
fault_of [] = None
fault_of (byte ∷ rest) = fault_by (rest_of (byte ∷ rest))

-- the line of a fault at a byte
abbrev pub fault_line : (at : ℕ) → Option FrameFault → List ℕ
fault_line at None = []
fault_line at (Some fault) = codes "  byte " ++ decimal at ++ codes ": fault " ++ decimal (number_of fault) ++ codes ", " ++ fault_text fault ++ codes "\n"

-- a stream that is cut into these messages and this rest
abbrev pub stream_text : List Message → (rest : List ℕ) → List ℕ
stream_text messages rest = codes "stream\n" ++ message_lines 0 messages ++ fault_line (length (flat_map spelling messages)) (fault_of rest)

-- the ending of a stream: well, where it has no fault
abbrev pub ending_of_fault : Option FrameFault → Ending
ending_of_fault None = Well
ending_of_fault (Some fault) = NotWell

-- an image's file is told with what it holds, and one with a fault as a run of it tells
abbrev pub IsImageInfo : (bytes text : List ℕ) → Ending → Type 0
IsImageInfo bytes text ending =
    ((image : Image) × IsImage image × FileOf image bytes × (text ≡ image_text image) × (ending ≡ Well))
    ⊎ ((fault : ImageFault) × IsFault bytes fault × (text ≡ run_text (Refused fault) ++ codes "\n") × (ending ≡ ending_of_run (Refused fault)))

-- a stream is told with all its messages, and its fault
abbrev pub IsStreamInfo : (bytes text : List ℕ) → Ending → Type 0
IsStreamInfo bytes text ending =
    (messages : List Message) × (rest : List ℕ) × Cut bytes messages rest × (text ≡ stream_text messages rest) × (ending ≡ ending_of_fault (fault_of rest))

-- code is told with how many words it has
abbrev pub IsCodeInfo : (bytes text : List ℕ) → Ending → Type 0
IsCodeInfo bytes text ending =
    (IsCode bytes × (text ≡ code_text (length (words_of bytes))) × (ending ≡ Well))
    ⊎ ((¬ (IsCode bytes)) × (text ≡ no_code_text (length bytes)) × (ending ≡ NotWell))

-- What is told of a file with these bytes, by its kind, and how that ends.
abbrev pub IsInfo : FileKind → (bytes text : List ℕ) → Ending → Type 0
IsInfo kinds.Elf bytes text ending = (text ≡ kind_text kinds.Elf ++ codes "\n") × (ending ≡ NotWell)
IsInfo kinds.Image bytes text ending = IsImageInfo bytes text ending
IsInfo kinds.Stream bytes text ending = IsStreamInfo bytes text ending
IsInfo kinds.Plain bytes text ending = IsCodeInfo bytes text ending

-- the most bytes of a file whose content is told: a stream of 16 whole modules, each with an Open, 4,096 pages of 4,096 bytes with their headers, and a Close
abbrev pub most_told : ℕ
most_told = 269222272

-- what is told of a longer one
abbrev pub long_text : List ℕ
long_text = codes "too long, more than 269222272 bytes\n"

-- the same, where the file isn't too long
abbrev pub IsShortInfo : (is_long : Bool) → (bytes text : List ℕ) → Ending → Type 0
IsShortInfo true bytes text ending = (text ≡ long_text) × (ending ≡ NotWell)
IsShortInfo false bytes text ending = IsInfo (file_kind bytes) bytes text ending

-- The same, where the bytes are known.
pub record IsInfoOf (known : Option (List ℕ)) (text : List ℕ) (ending : Ending) : Type 0 where
  pub bytes : List ℕ
  pub same : IfSome known (λ all. all ≡ bytes)
  pub info : IsShortInfo (nat_lt most_told (length bytes)) bytes text ending

-- What is told of a file was written behind a name, and nothing else was done.
pub record HasTold (name : List ℕ) (known : Option (List ℕ)) (old new : Left) (ending : Ending) : Type 0 where
  pub text : List ℕ
  pub info : IsInfoOf known text ending
  pub written : Appends old.out new.out (name ++ text)
  pub put : new.put ≡ old.put
  pub told : TellsNothing old new

-- the paths of the files, by their bytes
abbrev pub paths_of : InfoOptions → List (List ℕ)
paths_of asked = map (λ path. path.now) asked.files.items

-- what came of the file at a path
abbrev pub TellsNamed : (name path : List ℕ) → (known : Option (List ℕ)) → (old new : Left) → Ending → Type 0
TellsNamed name path known old new ending = HasTold name known old new ending ⊎ IsUnread path old new ending

-- the same, behind its name where there are several
abbrev pub TellsOne : InfoOptions → (List ℕ → Option (List ℕ)) → (before : ℕ) → (path : List ℕ) → (old new : Left) → Ending → Type 0
TellsOne asked file_at before path = TellsNamed (name_before (length asked.files.items) path) path (file_at path)

-- What `lfiload info` did, as it was asked for.
abbrev pub HasInformed : InfoOptions → (List ℕ → Option (List ℕ)) → (old new : Left) → Ending → Type 0
HasInformed asked file_at old new ending = DoesEach (TellsOne asked file_at) (paths_of asked) old new ending
