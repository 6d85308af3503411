-- What the arguments ask for, and what is wrong with them. (docs/COMMANDS.md)
use Rattle.std.specs.Prelude.{◌≡◌, ⊤, ℕ, ◌≤◌, ◌&&◌, if◌then◌else◌, Bool, List, [], codes, length, map, Option, Some, None, true, false, option_map}
use Rattle.clap.specs.Words.{IsAmong, Row, Text, all_of, fault_of, first_of, kind_of, one_of, subcommand_of}
use Rattle.std.specs.Str.{bytes_eq}
use Rattle.std.specs.Str.Parse.{IsNumeral, digits_value, without_leading_plus}
use Rattle.clap.specs.declared.error.Error.{Error}
use Rattle.clap.specs.declared.error.kind.ErrorKind.{ErrorKind}
use Rattle.clap.specs.declared.error.kind.ErrorKind.TheVariants as kind
use Rattle.lfi_module.specs.declared.profile.Profile.{Profile}
use Rattle.lfi_module.specs.Numbers.{small_page, large_page}
use Rattle.lfi_module.specs.Profiles.{profile_number, is_two}
use Rattle.lfi_command_line.specs.Apps.{lfiload_app}
use Rattle.lfi_command_line.specs.declared.line.Line.{Line}
use Rattle.lfi_command_line.specs.declared.line.Line.TheVariants.{Check, Load, Serve, Run, Disassemble, Pack, Unpack, Info}
use Rattle.lfi_command_line.specs.declared.options.Explain.{Explain}
use Rattle.lfi_command_line.specs.declared.options.Explain.TheVariants.{Nothing, First, All}
use Rattle.lfi_command_line.specs.declared.options.Format.{Format}
use Rattle.lfi_command_line.specs.declared.options.Format.TheVariants as formats
use Rattle.lfi_command_line.specs.declared.options.ReportOptions.{ReportOptions}
use Rattle.lfi_command_line.specs.declared.fault.LineFault.{LineFault}
use Rattle.lfi_command_line.specs.declared.fault.LineFault.TheVariants.{NoMemory, Help, Wrong, NoPages, NoFormat, Flawed}
use Rattle.lfi_command_line.specs.Flaws.{flaw_of}

-- the text is a number in this range in decimal digits, perhaps with a plus before them
abbrev pub IsNumber : (least most : ℕ) → Text → ℕ → Type 0
IsNumber least most text n =
    IsNumeral 10 (without_leading_plus text) × (n ≡ digits_value 10 (without_leading_plus text)) × (least ≤ n) × (n ≤ most)

-- the number is what was given, or this one where nothing was
abbrev pub IsNumberOr : (default least most : ℕ) → Option Text → ℕ → Type 0
IsNumberOr default least most None n = n ≡ default
IsNumberOr default least most (Some text) n = IsNumber least most text n

-- the number is what was given, and there is none where nothing was
abbrev pub IsNumberIfAny : (least most : ℕ) → Option Text → Option ℕ → Type 0
IsNumberIfAny least most None number = number ≡ None
IsNumberIfAny least most (Some text) number = (n : ℕ) × (number ≡ Some n) × IsNumber least most text n

-- a flag is given, by the value that the parser keeps for it
abbrev pub IsFlag : Option Text → Bool → Type 0
IsFlag None given = given ≡ false
IsFlag (Some text) given = (text ≡ codes "true" → given ≡ true) × (text ≡ codes "false" → given ≡ false)

-- what is explained, by the flags for the first fault and for all
abbrev pub explain_by : (first all : Bool) → Explain
explain_by first true = All
explain_by true false = First
explain_by false false = Nothing

-- how much is to be explained, by the two flags that were given
abbrev pub IsExplain : List Row → Explain → Type 0
IsExplain given explain =
    (first all : Bool) × IsFlag (one_of (codes "explain") given) first × IsFlag (one_of (codes "all") given) all × (explain ≡ explain_by first all)

-- the profile has the number that was given, or it is the first where none was
abbrev pub IsProfile : List Row → Profile → Type 0
IsProfile given profile = IsNumberOr 1 1 2 (first_of (codes "profile") given) (profile_number profile)

-- the words of a page of the size that is named: small ones, where none is named too, or large ones by the second profile
abbrev pub pages_named : Option Text → Profile → Option ℕ
pages_named None profile = Some small_page
pages_named (Some text) profile =
    if bytes_eq text (codes "small") then Some small_page else if bytes_eq text (codes "large") && is_two profile then Some large_page else None

-- the form that is named: text, where none is named too
abbrev pub format_named : Option Text → Option Format
format_named None = Some formats.Text
format_named (Some text) = if bytes_eq text (codes "text") then Some formats.Text else if bytes_eq text (codes "json") then Some formats.Json else None

-- the form is the one that was given
abbrev pub IsFormat : List Row → Format → Type 0
IsFormat given format = format_named (first_of (codes "format") given) ≡ Some format

-- what is given asks for a report that is told so, and for this beside it
abbrev pub IsReportAsked : List Row → ReportOptions → Type 0
IsReportAsked given asked = IsFlag (one_of (codes "explain") given) asked.explain × (first_of (codes "out") given ≡ option_map (λ s. s.now) asked.out) × IsFormat given asked.format

-- a subcommand of this name, with what was given to it, asks for this line
abbrev pub IsAskedBy : (name : Text) → List Row → Line → Type 0
IsAskedBy name given (Check asked) = (name ≡ codes "check") × (all_of (codes "FILE") given ≡ Some (map (λ s. s.now) asked.files.items)) × (1 ≤ length asked.files.items)
    × IsExplain given asked.explain × IsProfile given asked.profile × IsFormat given asked.format
IsAskedBy name given (Load asked) = (name ≡ codes "load") × IsReportAsked given asked.report × IsNumberOr 2 1 8 (first_of (codes "verifiers") given) asked.verifiers
    × (all_of (codes "STREAM") given ≡ Some (map (λ s. s.now) asked.streams.items)) × (1 ≤ length asked.streams.items)
IsAskedBy name given (Serve asked) = (name ≡ codes "serve") × IsReportAsked given asked.report × (first_of (codes "socket") given ≡ Some asked.socket.now)
    × ((text : Text) × (first_of (codes "connections") given ≡ Some text) × IsNumber 1 8 text asked.connections)
    × IsNumberOr 2 1 8 (first_of (codes "verifiers") given) asked.verifiers × IsNumberIfAny 1 86400 (first_of (codes "seconds") given) asked.seconds
IsAskedBy name given (Run asked) = (name ≡ codes "run") × (first_of (codes "IMAGE") given ≡ Some asked.image.now)
    × ((text : Text) × (first_of (codes "steps") given ≡ Some text) × IsNumber 0 1000000000 text asked.steps) × IsFormat given asked.format
IsAskedBy name given (Disassemble asked) = (name ≡ codes "disassemble") × (first_of (codes "FILE") given ≡ Some asked.file.now) × IsFlag (one_of (codes "check") given) asked.marks
    × IsProfile given asked.profile
IsAskedBy name given (Pack asked) = (name ≡ codes "pack") × IsNumberOr 0 0 15 (first_of (codes "module") given) asked.first
    × IsNumberOr 0 0 4194303 (first_of (codes "entry") given) asked.entry × IsProfile given asked.profile × (pages_named (first_of (codes "pages") given) asked.profile ≡ Some asked.pages)
    × (all_of (codes "CODE") given ≡ Some (map (λ s. s.now) asked.codes.items)) × (1 ≤ length asked.codes.items)
IsAskedBy name given (Unpack asked) = (name ≡ codes "unpack") × (first_of (codes "IMAGE") given ≡ Some asked.image.now)
IsAskedBy name given (Info asked) = (name ≡ codes "info") × (all_of (codes "FILE") given ≡ Some (map (λ s. s.now) asked.files.items)) × (1 ≤ length asked.files.items)

-- Nothing is wrong with the words for the parser, which takes them for this subcommand, with what is given to it.
abbrev pub AreTakenFor : List Text → (name : Text) → List Row → Type 0
AreTakenFor words name given = (fault_of lfiload_app words ≡ []) × (subcommand_of lfiload_app words ≡ Some (name, given))

-- The words ask for this line, and nothing is wrong with them for the parser; whether it can be carried out `flaw_of` says.
abbrev pub IsLine : List Text → Line → Type 0
IsLine words line = (name : Text) × (given : List Row) × AreTakenFor words name given × IsAskedBy name given line

-- a wish for help, which is no mistake
abbrev pub is_help : ErrorKind → Bool
is_help = elim [ kind.DisplayHelp ↦ true | kind.DisplayVersion ↦ true | _ ↦ false ]

-- they ask for pages of a size that there isn't by the profile which they name
abbrev pub NameNoPages : List Text → Type 0
NameNoPages words = (given : List Row) × (profile : Profile) × AreTakenFor words (codes "pack") given × IsProfile given profile × (pages_named (first_of (codes "pages") given) profile ≡ None)

-- they ask for a form of the answer that there isn't
abbrev pub NameNoFormat : List Text → Type 0
NameNoFormat words = (name : Text) × (given : List Row) × AreTakenFor words name given × (format_named (first_of (codes "format") given) ≡ None)

-- the parser's error has a kind that the words give, and isn't for want of memory
abbrev pub IsLineFault : List Text → LineFault → Type 0
IsLineFault words NoMemory = ⊤
IsLineFault words (Help error) = IsAmong (kind_of error) (fault_of lfiload_app words) × (is_help (kind_of error) ≡ true)
IsLineFault words (Wrong error) = IsAmong (kind_of error) (fault_of lfiload_app words) × (is_help (kind_of error) ≡ false)
IsLineFault words NoPages = NameNoPages words
IsLineFault words NoFormat = NameNoFormat words
IsLineFault words (Flawed flaw) = (line : Line) × IsLine words line × (flaw_of line ≡ Some flaw)

-- the fault that is made of the parser's error, by its kind
abbrev pub fault_by : ErrorKind → Error → LineFault
fault_by kind.OutOfMemory error = NoMemory
fault_by kind.DisplayHelp error = Help error
fault_by kind.DisplayVersion error = Help error
fault_by _ error = Wrong error

-- what is wrong with a line of which clap tells this error
abbrev pub fault_from : Error → LineFault
fault_from error = fault_by (kind_of error) error

-- the words ask for help
abbrev pub AsksHelp : List Text → Type 0
AsksHelp words = (k : ErrorKind) × IsAmong k (fault_of lfiload_app words) × (is_help k ≡ true)

-- something is wrong with the words
abbrev pub AreWrong : List Text → Type 0
AreWrong words = (k : ErrorKind) × IsAmong k (fault_of lfiload_app words) × (is_help k ≡ false)
