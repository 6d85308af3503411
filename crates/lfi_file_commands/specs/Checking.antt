-- What `lfiload check` does. Source: this project's profile, docs/COMMANDS.md.
use Rattle.std.specs.Prelude.{◌≡◌, ℕ, ◌==◌, Bool, nat_lt, List, [], ◌++◌, codes, Option, Some, None, if◌then◌else◌}
use Rattle.lfi_module.specs.declared.profile.Profile.{Profile}
use Rattle.lfi_check.specs.declared.verdict.Verdict.{Verdict}
use Rattle.lfi_check.specs.declared.verdict.Verdict.TheVariants as verdicts
use Rattle.lfi_check.specs.Checking.{Checks}
use Rattle.lfi_file_commands.specs.declared.ending.Ending.{Ending}
use Rattle.lfi_file_commands.specs.declared.ending.Ending.TheVariants.{Well, NotWell}
use Rattle.lfi_file_commands.specs.declared.naming.Naming.{Naming}
use Rattle.lfi_file_commands.specs.declared.naming.Naming.TheVariants.{Alone, Named}
use Rattle.lfi_file_commands.specs.declared.no_code.NoCode.{NoCode}
use Rattle.lfi_file_commands.specs.declared.finding.Finding.{Finding}
use Rattle.lfi_file_commands.specs.declared.finding.Finding.TheVariants as findings
use Rattle.lfi_file_commands.specs.Endings.{number_of}
use Rattle.lfi_file_commands.specs.Kinds.{IsNoCode, bad_length_line}
use Rattle.lfi_file_commands.specs.Failures.{Told}

-- the verdict on what is found
abbrev pub verdict_of : Finding → Verdict
verdict_of (findings.Lawful words) = verdicts.Lawful words
verdict_of (findings.Refused fault) = verdicts.Refused fault
verdict_of (findings.NoCode n) = verdicts.BadLength

-- what is known of a file that is no code
abbrev pub other_of : Finding → Option NoCode
other_of (findings.NoCode n) = Some n
other_of _ = None

-- It is found of these bytes: they are lawful code by a profile, or code with this first fault, or no code.
abbrev pub IsFound : Profile → List ℕ → Finding → Type 0
IsFound profile bytes (findings.Lawful words) = Checks profile bytes (verdicts.Lawful words)
IsFound profile bytes (findings.Refused fault) = Checks profile bytes (verdicts.Refused fault)
IsFound profile bytes (findings.NoCode n) = IsNoCode bytes n

-- how the program ends, by the verdict
abbrev pub ending_of : Verdict → Ending
ending_of (verdicts.Lawful n) = Well
ending_of (verdicts.Refused fault) = NotWell
ending_of verdicts.BadLength = NotWell

-- of two endings the one with the larger number
abbrev pub worst : Ending → Ending → Ending
worst a b = if nat_lt (number_of a) (number_of b) then b else a

-- what stands before what is told of a file
abbrev pub naming_text : Naming → List ℕ
naming_text Alone = []
naming_text (Named path) = path.now ++ codes ": "

-- where there are several, its path
abbrev pub name_before : (count : ℕ) → (path : List ℕ) → List ℕ
name_before count path = if count == 1 then [] else path ++ codes ": "

-- Of a file that is no code its length was told, unless it is lost; else nothing.
abbrev pub TellsOf : (path : List ℕ) → Option NoCode → (was is_lost : Bool) → (old new : Option (List ℕ)) → Type 0
TellsOf path None was is_lost old new = (new ≡ old) × (is_lost ≡ was)
TellsOf path (Some n) was is_lost old new = Told is_lost old new (bad_length_line path n)
