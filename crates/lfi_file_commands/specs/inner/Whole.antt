-- Code files that are read whole. Only private clauses and proofs use it.
use Rattle.std.specs.Prelude.{◌≡◌, ◌≤◌, ℕ, List, length, Option, Some, IfSome, slice_get, codes}
use Rattle.std.specs.Io.KnownBytes.{Appends}
use Rattle.a64_word.specs.Words.{words_of}
use Rattle.lfi_module.specs.declared.profile.Profile.{Profile}
use Rattle.lfi_command_line.specs.declared.options.PackOptions.{PackOptions}
use Rattle.lfi_pack.specs.Packs.{IsPacked}
use Rattle.lfi_explain.specs.declared.listing.Marks.{Marks}
use Rattle.lfi_explain.specs.Listings.{WritesListing}
use Rattle.lfi_file_commands.specs.declared.packing.NoModule as packing
use Rattle.lfi_file_commands.specs.declared.packing.NoModule.TheVariants as no_module
use Rattle.lfi_file_commands.specs.declared.packing.NotPacked.{NotPacked}
use Rattle.lfi_file_commands.specs.declared.packing.NotPacked.TheVariants.{NoModule, Failed}
use Rattle.lfi_file_commands.specs.declared.listed.Listed.{Listed}
use Rattle.lfi_file_commands.specs.declared.listed.Listed.TheVariants as listed
use Rattle.lfi_file_commands.specs.declared.no_code.NoCode.{NoCode}
use Rattle.lfi_file_commands.specs.declared.finding.Finding.{Finding}
use Rattle.lfi_file_commands.specs.declared.finding.Finding.TheVariants as findings
use Rattle.lfi_file_commands.specs.Kinds.{IsNoCode, file_kind}
use Rattle.lfi_check.specs.declared.verdict.Verdict.TheVariants as verdicts
use Rattle.lfi_check.specs.Checking.{Checks, IsCode}
use Rattle.lfi_file_commands.specs.Failures.{IsOfReading}
use Rattle.lfi_file_commands.specs.Packing.{IsNoModule}

-- what is known of bytes that are no code, all of which were read
abbrev pub IsOther : List ℕ → NoCode → Type 0
IsOther bytes n = ¬ (IsCode bytes) × (n.kind ≡ file_kind bytes) × (n.bytes ≡ length bytes)

-- What was left was read so far that what is found of these bytes is found of all: code is all of it, and what is no code isn't either.
pub record IsReadTo (left : Option (List ℕ)) (bytes : List ℕ) : Type 0 where
  pub code : IsCode bytes → IfSome left (λ all. all ≡ bytes)
  pub other : (n : NoCode) → IsOther bytes n → IfSome left (λ all. IsNoCode all n)

-- what is found of bytes, all of which were read
abbrev pub IsFoundOf : Profile → List ℕ → Finding → Type 0
IsFoundOf profile bytes (findings.Lawful words) = Checks profile bytes (verdicts.Lawful words)
IsFoundOf profile bytes (findings.Refused fault) = Checks profile bytes (verdicts.Refused fault)
IsFoundOf profile bytes (findings.NoCode n) = IsOther bytes n

-- all words of bytes that are code were listed, or they are no code, and the line of that was written
abbrev pub Lists : Marks → Profile → (bytes : List ℕ) → Listed → (old new : Option (List ℕ)) → Type 0
Lists marks profile bytes (listed.Words kind) old new = IsCode bytes × (kind ≡ file_kind bytes) × WritesListing marks profile (words_of bytes) 0 old new
Lists marks profile bytes (listed.NoCode n) old new = IsOther bytes n × Appends old new (codes "bad length\n")

-- why these bytes of the file at this path, all of which were read, are no module that is entered at this word
abbrev pub IsNoModuleOf : (entry : ℕ) → (path bytes : List ℕ) → packing.NoModule → Type 0
IsNoModuleOf entry path bytes (no_module.BadLength named n) = (named.now ≡ path) × IsOther bytes n
IsNoModuleOf entry path bytes (no_module.NoEntry named word) = (named.now ≡ path) × (word ≡ entry) × IsCode bytes × (length (words_of bytes) ≤ entry)

-- why the file at this path wasn't read as a module
abbrev pub StopsAt : (entry : ℕ) → (path : List ℕ) → (List ℕ → Option (List ℕ)) → NotPacked → Type 0
StopsAt entry path file_at (NoModule told) = IsNoModule entry path file_at told
StopsAt entry path file_at (Failed failure) = IsOfReading path failure

-- why one of the files at these paths wasn't
abbrev pub StopsAtOne : (entry : ℕ) → (paths : List (List ℕ)) → (List ℕ → Option (List ℕ)) → NotPacked → Type 0
StopsAtOne entry paths file_at stop = (c : ℕ) × (path : List ℕ) × (slice_get paths c ≡ Some path) × StopsAt entry path file_at stop

-- one module was written, with this number
abbrev pub WritesModule : PackOptions → (number : ℕ) → (code : List ℕ) → (old new : Option (List ℕ)) → Type 0
WritesModule asked number code old new =
    (text : List ℕ) × IsPacked number (record { words = length (words_of code); entry = asked.entry; profile = asked.profile; pages = asked.pages }) code text × Appends old new text
