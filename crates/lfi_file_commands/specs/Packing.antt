-- What `lfiload pack` finds of code files, and writes. Source: this project's profile, docs/COMMANDS.md.
use Rattle.std.specs.Prelude.{◌≡◌, ◌⊎◌, ℕ, ◌<◌, ◌≤◌, true, false, List, ◌++◌, length, map, Option, Some, IfSome, codes, decimal, slice_get}
use Rattle.std.specs.Io.KnownBytes.{Appends}
use Rattle.a64_word.specs.Words.{words_of}
use Rattle.lfi_command_line.specs.declared.options.PackOptions.{PackOptions}
use Rattle.lfi_pack.specs.Heard.{IsStream, modules_from}
use Rattle.lfi_file_commands.specs.declared.packing.NoModule.{NoModule}
use Rattle.lfi_file_commands.specs.declared.packing.NoModule.TheVariants.{BadLength, NoEntry}
use Rattle.lfi_file_commands.specs.declared.ending.Ending.{Ending}
use Rattle.lfi_file_commands.specs.declared.ending.Ending.TheVariants.{Well, NotWell, WrongWords, Failed}
use Rattle.lfi_check.specs.Checking.{IsCode}
use Rattle.lfi_file_commands.specs.Failures.{Told}
use Rattle.lfi_file_commands.specs.Kinds.{IsNoCode, bad_length_text, kind_notes}
use Rattle.lfi_file_commands.specs.Left.{Left}

-- why a file is no module, in words
abbrev pub no_module_text : NoModule → List ℕ
no_module_text (BadLength path n) = bad_length_text path.now n
no_module_text (NoEntry path entry) = codes "no word " ++ decimal entry ++ codes " in " ++ path.now

-- its line
abbrev pub no_module_line : NoModule → List ℕ
no_module_line told = codes "lfiload: " ++ no_module_text told ++ codes "\n"

-- It is so of the file at this path, by its bytes, where they are known.
abbrev pub IsNoModule : (entry : ℕ) → (path : List ℕ) → (List ℕ → Option (List ℕ)) → NoModule → Type 0
IsNoModule entry path file_at (BadLength named n) = (named.now ≡ path) × IfSome (file_at path) (λ bytes. IsNoCode bytes n)
IsNoModule entry path file_at (NoEntry named word) =
    (named.now ≡ path) × (word ≡ entry) × IfSome (file_at path) (λ bytes. IsCode bytes × (length (words_of bytes) ≤ entry))

-- all of these are code that has the word at which it is to be entered
abbrev pub AreModules : (entry : ℕ) → List (List ℕ) → Type 0
AreModules entry files = (c : ℕ) (code : List ℕ) → slice_get files c ≡ Some code → IsCode code × (entry < length (words_of code))

-- These are the bytes of the files, where they are known, and modules that can be entered at this word.
pub record AreModulesOf (entry : ℕ) (bytes : List (Option (List ℕ))) (files : List (List ℕ)) : Type 0 where
  pub all : length files ≡ length bytes
  pub each : (c : ℕ) (code : List ℕ) (known : Option (List ℕ)) → slice_get files c ≡ Some code → slice_get bytes c ≡ Some known → IfSome known (λ xs. xs ≡ code)
  pub modules : AreModules entry files

-- A stream of exactly these modules was written, as it was asked for: numbered from the first one's number on, by one profile and with pages of one size.
abbrev pub WritesStream : PackOptions → List (List ℕ) → (old new : Option (List ℕ)) → Type 0
WritesStream asked files old new = (text : List ℕ) × IsStream (modules_from asked.profile asked.pages asked.first asked.entry files) text × Appends old new text

-- the paths of the files that are asked for, by their bytes
abbrev pub codes_of : PackOptions → List (List ℕ)
codes_of asked = map (λ path. path.now) asked.codes.items

-- One of the files is no module; that was told, unless it is lost, and nothing was written.
abbrev pub TellsNoModule : PackOptions → (List ℕ → Option (List ℕ)) → (old new : Left) → Type 0
TellsNoModule asked file_at old new =
    (c : ℕ) × (path : List ℕ) × (told : NoModule) × (slice_get (codes_of asked) c ≡ Some path) × IsNoModule asked.entry path file_at told
    × Told new.is_lost old.errors new.errors (no_module_line told) × (new.out ≡ old.out)

-- The files were packed, a module each; it was told of those that begin as another kind of file, unless that is lost.
abbrev pub PacksModules : PackOptions → (List ℕ → Option (List ℕ)) → (old new : Left) → Type 0
PacksModules asked file_at old new =
    (files : List (List ℕ)) × AreModulesOf asked.entry (map file_at (codes_of asked)) files × WritesStream asked files old.out new.out
    × Told new.is_lost old.errors new.errors (kind_notes (codes_of asked) files)

-- The files were packed; or one of them is no module. By the ending.
abbrev pub FindsPacked : PackOptions → (List ℕ → Option (List ℕ)) → (old new : Left) → Ending → Type 0
FindsPacked asked file_at old new Well = PacksModules asked file_at old new × (new.is_lost ≡ false)
FindsPacked asked file_at old new NotWell = TellsNoModule asked file_at old new × (new.is_lost ≡ false)
FindsPacked asked file_at old new WrongWords = ⊥
FindsPacked asked file_at old new Failed = (PacksModules asked file_at old new ⊎ TellsNoModule asked file_at old new) × (new.is_lost ≡ true)

-- What `lfiload pack` did, as it was asked for: it packed the files, or told that one of them is no module, and put no file.
pub record HasPacked (asked : PackOptions) (file_at : List ℕ → Option (List ℕ)) (old new : Left) (ending : Ending) : Type 0 where
  pub found : FindsPacked asked file_at old new ending
  pub put : new.put ≡ old.put
