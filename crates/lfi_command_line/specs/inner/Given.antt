-- What is given to a subcommand. Only private clauses and proofs use it.
use Rattle.std.specs.Prelude.{◌≡◌, ⊤, ℕ, List, [], codes, Some, None}
use Rattle.clap.specs.Words.{IsUnsignedIn, Row, Text, fault_of, first_of, one_of, subcommand_of, subcommand_rows_of}
use Rattle.lfi_command_line.specs.declared.fault.LineFault.{LineFault}
use Rattle.lfi_command_line.specs.declared.fault.LineFault.TheVariants.{NoMemory, Help, Wrong, NoPages, NoFormat, Flawed}
use Rattle.clap.specs.declared.parser.matches.ArgMatches.{ArgMatches}
use Rattle.lfi_command_line.specs.Apps.{lfiload_app}
use Rattle.lfi_module.specs.declared.profile.Profile.{Profile}
use Rattle.lfi_command_line.specs.CommandLine.{IsProfile, format_named, pages_named}

-- what is given to this argument, if anything, is a number in the range
abbrev pub IsNumberGiven : (least most : ℕ) → (id : Text) → List Row → Type 0
IsNumberGiven least most id given = (text : Text) → first_of id given ≡ Some text → (one_of id given ≡ Some text) × IsUnsignedIn least most text

-- there is no memory for a list of the files
abbrev pub IsNoMemory : LineFault → Type 0
IsNoMemory fault = fault ≡ NoMemory

-- there is a form of the answer that there isn't, or no memory for a list of the files
abbrev pub IsFaultOfFormat : List Row → LineFault → Type 0
IsFaultOfFormat given NoMemory = ⊤
IsFaultOfFormat given NoFormat = format_named (first_of (codes "format") given) ≡ None
IsFaultOfFormat given fault = ⊥

-- there are pages of a size that there isn't, or no memory for a list of the files
abbrev pub IsFaultOfPack : List Row → LineFault → Type 0
IsFaultOfPack given NoMemory = ⊤
IsFaultOfPack given (Help error) = ⊥
IsFaultOfPack given (Wrong error) = ⊥
IsFaultOfPack given (Flawed flaw) = ⊥
IsFaultOfPack given NoFormat = ⊥
IsFaultOfPack given NoPages = (profile : Profile) × IsProfile given profile × (pages_named (first_of (codes "pages") given) profile ≡ None)

-- the parser finds nothing wrong with the words, and these are its matches: those of the subcommand that the words name
abbrev pub AreTakenBy : List Text → ArgMatches → Type 0
AreTakenBy words matches = (fault_of lfiload_app words ≡ []) × (subcommand_rows_of matches ≡ subcommand_of lfiload_app words)
