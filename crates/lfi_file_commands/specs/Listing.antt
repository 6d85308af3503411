-- What `lfiload disassemble` writes. Source: this project's profile, docs/COMMANDS.md.
use Rattle.std.specs.Prelude.{◌≡◌, ℕ, Bool, true, false, List, Option, IfSome, codes}
use Rattle.std.specs.Io.KnownBytes.{Appends}
use Rattle.a64_word.specs.Words.{words_of}
use Rattle.lfi_module.specs.declared.profile.Profile.{Profile}
use Rattle.lfi_command_line.specs.declared.options.DisassembleOptions.{DisassembleOptions}
use Rattle.lfi_explain.specs.declared.listing.Marks.{Marks}
use Rattle.lfi_explain.specs.declared.listing.Marks.TheVariants.{NoMarks, BrokenRules}
use Rattle.lfi_explain.specs.Listings.{WritesListing}
use Rattle.lfi_file_commands.specs.declared.ending.Ending.{Ending}
use Rattle.lfi_file_commands.specs.declared.ending.Ending.TheVariants.{Well, NotWell}
use Rattle.lfi_file_commands.specs.declared.listed.Listed.{Listed}
use Rattle.lfi_file_commands.specs.declared.listed.Listed.TheVariants as listed
use Rattle.lfi_check.specs.Checking.{IsCode}
use Rattle.lfi_file_commands.specs.Endings.{EndsUnlessLost}
use Rattle.lfi_file_commands.specs.Failures.{Told}
use Rattle.lfi_file_commands.specs.Kinds.{IsNoCode, bad_length_line, file_kind, kind_note}
use Rattle.lfi_file_commands.specs.Left.{Left}

-- the marks of a listing, by the flag
abbrev pub marks_by : Bool → Marks
marks_by true = BrokenRules
marks_by false = NoMarks

-- Of the file that has these bytes, where they are known, all words were listed, as those of module 0, with these marks, and it begins as this kind; or it
-- is no code, and its line was written.
abbrev pub WritesWords : Marks → Profile → (bytes : Option (List ℕ)) → Listed → (old new : Option (List ℕ)) → Type 0
WritesWords marks profile bytes (listed.Words kind) old new =
    (code : List ℕ) × IfSome bytes (λ all. all ≡ code) × IsCode code × (kind ≡ file_kind code) × WritesListing marks profile (words_of code) 0 old new
WritesWords marks profile bytes (listed.NoCode n) old new = IfSome bytes (λ all. IsNoCode all n) × Appends old new (codes "bad length\n")

-- what is told of the file at a path: that it begins as another kind of file than code, or which length it has
abbrev pub listed_text : (path : List ℕ) → Listed → List ℕ
listed_text path (listed.Words kind) = kind_note path kind
listed_text path (listed.NoCode n) = bad_length_line path n

-- the ending of a listing: well, where there is one
abbrev pub ending_of_listed : Listed → Ending
ending_of_listed (listed.Words kind) = Well
ending_of_listed (listed.NoCode n) = NotWell

-- What `lfiload disassemble FILE` did, as it was asked for, with a file that has these bytes, as far as they are known: it listed them, or wrote that
-- they aren't code, and told what is to be told, unless that is lost.
pub record HasListed (asked : DisassembleOptions) (bytes : Option (List ℕ)) (old new : Left) (ending : Ending) : Type 0 where
  pub listed : Listed
  pub written : WritesWords (marks_by asked.marks) asked.profile bytes listed old.out new.out
  pub told : Told new.is_lost old.errors new.errors (listed_text asked.file.now listed)
  pub put : new.put ≡ old.put
  pub ends : EndsUnlessLost new.is_lost (ending_of_listed listed) ending
