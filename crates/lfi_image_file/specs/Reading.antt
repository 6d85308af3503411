-- Which fault a file has. What is asked, and in which order, is this project's own. Source: this project's format,
-- docs/PROFILE.md.
use Rattle.std.specs.Prelude.{◌≡◌, ℕ, ◌+◌, ◌*◌, ◌/◌, ◌^◌, ◌<◌, ◌==◌, nat_lt, nat_le, not, ◌||◌, ◌&&◌, Bool, if◌then◌else◌, List, ◌++◌, length, take, drop, min, Option, Some, None, ⊤}
use Rattle.byteorder.specs.Endian.{little_number}
use Rattle.lfi_module.specs.declared.profile.Profile.{Profile}
use Rattle.lfi_module.specs.declared.profile.Profile.TheVariants.{One, Two}
use Rattle.lfi_module.specs.Numbers.{module_count, most_words, small_page, base_of}
use Rattle.a64_word.specs.Words.{words_of}
use Rattle.lfi_rules.specs.Faults.{FirstFault}
use Rattle.lfi_image_file.specs.declared.fault.ImageFault.{ImageFault}
use Rattle.lfi_image_file.specs.declared.fault.ImageFault.TheVariants.{Magic, Profile as OtherProfile, Counts, Base, Truncated, More, Unlawful, NoMemory, Device}
use Rattle.lfi_image_file.specs.Files.{magic}

-- the fields of a header
abbrev pub count_in : List ℕ → ℕ
count_in header = little_number 4 (drop 4 header)

-- the entry that a header names
abbrev pub entry_in : List ℕ → ℕ
entry_in header = little_number 4 (drop 8 header)

-- the profile that it names
abbrev pub profile_in : List ℕ → ℕ
profile_in header = little_number 4 (drop 12 header)

-- the base that it names
abbrev pub base_in : List ℕ → ℕ
base_in header = little_number 8 (drop 16 header)

-- the slot that begins at a base, where one does
abbrev pub slot_at : ℕ → ℕ
slot_at base = base / 2 ^ 33

-- it is the base of a slot
abbrev pub is_base : ℕ → Bool
is_base base = nat_lt (slot_at base) module_count && base == base_of (slot_at base)

-- the number of a profile
abbrev pub is_profile : ℕ → Bool
is_profile number = number == 1 || number == 2

-- the profile that a header names, where it names one
abbrev pub named_profile : List ℕ → Profile
named_profile header = if profile_in header == 2 then Two else One

-- the first fault of a file's header
unfoldable pub header_fault : List ℕ → Option ImageFault
header_fault header =
    if not (little_number 4 header == little_number 4 magic) then Some Magic
    else if not (is_profile (profile_in header)) then Some OtherProfile
    else if count_in header == 0 || nat_lt most_words (count_in header) || nat_le (count_in header) (entry_in header) then Some Counts
    else if not (is_base (base_in header)) then Some Base
    else None

-- The code of n words is read by full small pages, of which the last may be shorter. These are the bytes of the pages that are there whole.
abbrev pub whole_pages : ℕ → List ℕ → List ℕ
whole_pages n code = if nat_le (4 * n) (length code) then take (4 * n) code else take (4 * small_page * (length code / (4 * small_page))) code

-- the fault of what follows a header for n words of a profile; memory can run out and the device can fail at any time
abbrev pub IsCodeFault : Profile → ℕ → List ℕ → ImageFault → Type 0
IsCodeFault profile n code (Unlawful fault) = FirstFault profile (words_of (whole_pages n code)) n (Some fault)
IsCodeFault profile n code Truncated = FirstFault profile (words_of (whole_pages n code)) n None × (length code < 4 * n)
IsCodeFault profile n code More = FirstFault profile (words_of (whole_pages n code)) n None × (4 * n < length code)
IsCodeFault profile n code NoMemory = ⊤
IsCodeFault profile n code Device = ⊤
IsCodeFault profile n code _ = ⊥

-- The fault of a file, in the order of reading: the header, then page by page, then the end. Memory is asked for once
-- the header is there and has no fault.
pub data IsFault (bytes : List ℕ) (fault : ImageFault) : Type 0 where
  device : fault ≡ Device → IsFault bytes fault
  short : fault ≡ Truncated → length bytes < 24 → IsFault bytes fault
  of_header : (header rest : List ℕ) → bytes ≡ header ++ rest → length header ≡ 24 → header_fault header ≡ Some fault → IsFault bytes fault
  of_code : (header code : List ℕ) → bytes ≡ header ++ code → length header ≡ 24 → header_fault header ≡ None
      → IsCodeFault (named_profile header) (count_in header) code fault → IsFault bytes fault

-- where in the code of n words the page of this word ends, in bytes
abbrev pub page_end : (n word : ℕ) → ℕ
page_end n word = 4 * min n (small_page * (word / small_page + 1))

-- Where a page of the code of n words has a fault, all that follows this page is left.
abbrev pub IsUnread : (n : ℕ) (code : List ℕ) (left : Option (List ℕ)) → ImageFault → Type 0
IsUnread n code left (Unlawful fault) = left ≡ Some (drop (page_end n fault.word) code)
IsUnread n code left _ = ⊤

-- Where a page of a file has a fault, all that follows this page is left.
abbrev pub IsRestUnread : (bytes : List ℕ) (left : Option (List ℕ)) → ImageFault → Type 0
IsRestUnread bytes left (Unlawful fault) = left ≡ Some (drop (24 + page_end (count_in bytes) fault.word) bytes)
IsRestUnread bytes left _ = ⊤
