-- What a file is, by its first bytes, and what is told of one that is to be code and isn't. Source: this project's profile, docs/PROFILE.md; of ELF its
-- identification, the bytes 7f 45 4c 46.
use Rattle.std.specs.Prelude.{◌≡◌, ℕ, ◌==◌, ◌&&◌, ◌||◌, Bool, nat_lt, List, [], ◌∷◌, ◌++◌, take, length, codes, decimal, get_or, if◌then◌else◌}
use Rattle.lfi_check.specs.Checking.{IsCode}
use Rattle.lfi_model.specs.Texts.{lines_from}
use Rattle.lfi_file_commands.specs.declared.kind.FileKind.{FileKind}
use Rattle.lfi_file_commands.specs.declared.kind.FileKind.TheVariants.{Elf, Image, Stream, Plain}
use Rattle.lfi_file_commands.specs.declared.no_code.NoCode.{NoCode}

-- an Open begins so: its kind, and its second byte
abbrev pub opens_module : (kind second : ℕ) → Bool
opens_module kind second = kind == 1 && second == 0 || kind == 4 && (second == 0 || second == 2)

-- by the first four bytes: those of ELF, `LFI1`, or those of an Open up to its module's number
abbrev pub kind_by : (a b c d : ℕ) → FileKind
kind_by a b c d =
    if a == 0x7F && b == 0x45 && c == 0x4C && d == 0x46 then Elf
    else (if a == 0x4C && b == 0x46 && c == 0x49 && d == 0x31 then Image
    else (if opens_module a b && nat_lt c 16 && d == 0 then Stream else Plain))

-- what a file is that begins with these bytes, four or fewer; of fewer it is plain
abbrev pub kind_by_first : List ℕ → FileKind
kind_by_first (a ∷ b ∷ c ∷ d ∷ []) = kind_by a b c d
kind_by_first _ = Plain

-- what a file with these bytes is: its first four tell it
abbrev pub file_kind : List ℕ → FileKind
file_kind bytes = kind_by_first (take 4 bytes)

-- what it is, and what to do with it
abbrev pub kind_text : FileKind → List ℕ
kind_text Elf = codes "an ELF file; aarch64-linux-gnu-objcopy -O binary -j .text FILE CODE writes its code"
kind_text Image = codes "an image; lfiload run runs it, lfiload unpack writes its code"
kind_text Stream = codes "a stream; lfiload load loads its modules"
kind_text Plain = []

-- its line; of a plain file there is none
abbrev pub kind_line : FileKind → List ℕ
kind_line = elim [ Plain ↦ [] | kind ↦ codes "  file: " ++ kind_text kind ++ codes "\n" ]

-- what is told of the file at a path that is taken for code; of a plain file nothing
abbrev pub kind_note : (path : List ℕ) → FileKind → List ℕ
kind_note path = elim [ Plain ↦ [] | kind ↦ codes "lfiload: " ++ path ++ codes ": " ++ kind_text kind ++ codes "\n" ]

-- what is told of these files, by their paths
abbrev pub kind_notes : (paths files : List (List ℕ)) → List ℕ
kind_notes paths files = lines_from (λ c file. kind_note (get_or paths c []) (file_kind file)) 0 files

-- how many bytes there are, counted up to one more than code can have
abbrev pub counted : List ℕ → ℕ
counted bytes = length (take 16777217 bytes)

-- The bytes are no code; the kind and the number are theirs.
abbrev pub IsNoCode : List ℕ → NoCode → Type 0
IsNoCode bytes n = ¬ (IsCode bytes) × (n.kind ≡ file_kind bytes) × (n.bytes ≡ counted bytes)

-- a number of bytes, in words
abbrev pub length_text : ℕ → List ℕ
length_text n = if nat_lt 16777216 n then codes "more than 16777216 bytes" else decimal n ++ codes " bytes"

-- of the file at this path, which is no code: which length it has, and which are asked for
abbrev pub bad_length_text : (path : List ℕ) → NoCode → List ℕ
bad_length_text path n = codes "bad length " ++ path ++ codes "\n  " ++ length_text n.bytes ++ codes "; code has a multiple of 4, from 4 to 16777216"

-- its lines
abbrev pub bad_length_line : (path : List ℕ) → NoCode → List ℕ
bad_length_line path n = codes "lfiload: " ++ bad_length_text path n ++ codes "\n"
