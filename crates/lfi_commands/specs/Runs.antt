-- What a run of the program does, by its words and its ending. Source: this project's profile, docs/COMMANDS.md.
use Rattle.std.specs.Prelude.{◌≡◌, ◌⊎◌, ⊤, ℕ, false, List, [], ◌∷◌, ◌++◌, Option, Some, None, codes}
use Rattle.lfi_command_line.specs.declared.line.Line.{Line}
use Rattle.lfi_command_line.specs.declared.line.Line.TheVariants.{Check, Load, Serve, Run, Disassemble, Pack, Unpack, Info}
use Rattle.lfi_command_line.specs.declared.flaw.Flaw.{Flaw}
use Rattle.lfi_command_line.specs.Flaws.{flaw_of, flaw_text}
use Rattle.lfi_command_line.specs.CommandLine.{IsLine, AsksHelp, AreWrong, NameNoFormat, NameNoPages}
use Rattle.lfi_file_commands.specs.declared.ending.Ending.{Ending}
use Rattle.lfi_file_commands.specs.declared.ending.Ending.TheVariants.{Well, NotWell, WrongWords, Failed}
use Rattle.lfi_file_commands.specs.declared.failure.Target.TheVariants.{StandardOutput}
use Rattle.lfi_file_commands.specs.declared.failure.Failure.{Failure}
use Rattle.lfi_file_commands.specs.declared.failure.Failure.TheVariants.{CannotWrite, NoMemory}
use Rattle.lfi_file_commands.specs.Explaining.{HasChecked}
use Rattle.lfi_file_commands.specs.Failures.{failure_line, is_of_output, FailsLoading, FailsOn, FailsServing, IsOfReading, Told}
use Rattle.lfi_file_commands.specs.Info.{HasInformed}
use Rattle.lfi_file_commands.specs.Left.{Left}
use Rattle.lfi_file_commands.specs.Listing.{HasListed}
use Rattle.lfi_commands.specs.Loading.{streams_of, HasLoaded}
use Rattle.lfi_file_commands.specs.Packing.{codes_of, HasPacked}
use Rattle.lfi_file_commands.specs.Running.{HasRun}
use Rattle.lfi_file_commands.specs.Unpacking.{HasUnpacked}
use Rattle.lfi_commands.specs.Serving.{HasServedAll}

-- What the line asks for was carried out, with this ending.
abbrev pub CarriesOut : Line → (List ℕ → Option (List ℕ)) → (old new : Left) → Ending → Type 0
CarriesOut (Check asked) file_at = HasChecked asked file_at
CarriesOut (Load asked) file_at = HasLoaded asked file_at
CarriesOut (Serve asked) file_at = HasServedAll asked
CarriesOut (Run asked) file_at = HasRun (file_at asked.image.now) asked.steps asked.format
CarriesOut (Disassemble asked) file_at = HasListed asked (file_at asked.file.now)
CarriesOut (Pack asked) file_at = HasPacked asked file_at
CarriesOut (Unpack asked) file_at = HasUnpacked (file_at asked.image.now)
CarriesOut (Info asked) file_at = HasInformed asked file_at

-- it tells of a fault of what the line asks for: of a file that it names, of the output, of the socket; what `check` and `info` tell is part of what they did
abbrev pub FailsAs : Line → Failure → Type 0
FailsAs (Check asked) = λ failure. ⊥
FailsAs (Load asked) = FailsLoading (streams_of asked)
FailsAs (Serve asked) = FailsServing asked.socket.now
FailsAs (Run asked) = IsOfReading asked.image.now
FailsAs (Disassemble asked) = FailsOn (asked.file.now ∷ [])
FailsAs (Pack asked) = FailsOn (codes_of asked)
FailsAs (Unpack asked) = FailsOn (asked.image.now ∷ [])
FailsAs (Info asked) = λ failure. ⊥

-- the words ask for this line, and it has no flaw
abbrev pub IsSoundLine : List (List ℕ) → Line → Type 0
IsSoundLine words line = IsLine words line × (flaw_of line ≡ None)

-- The words ask for a line without a flaw, and it was carried out.
abbrev pub CarriesOutWords : List (List ℕ) → (List ℕ → Option (List ℕ)) → (old new : Left) → Ending → Type 0
CarriesOutWords words file_at old new ending = (line : Line) × IsSoundLine words line × CarriesOut line file_at old new ending

-- it tells of a fault of what the words ask for
abbrev pub FailsByLine : List (List ℕ) → Failure → Type 0
FailsByLine words failure = (line : Line) × IsSoundLine words line × FailsAs line failure

-- It tells of a fault of what the words ask for, of the output for help, or of no memory.
abbrev pub FailsBy : List (List ℕ) → Failure → Type 0
FailsBy words NoMemory = ⊤
FailsBy words (CannotWrite StandardOutput cause) = AsksHelp words ⊎ FailsByLine words (CannotWrite StandardOutput cause)
FailsBy words failure = FailsByLine words failure

-- A failure was told, unless it is lost. No file was put, and the output is as it was, unless the failure is that of the output.
abbrev pub TellsFailure : List (List ℕ) → (old new : Left) → Type 0
TellsFailure words old new =
    (failure : Failure) × FailsBy words failure × Told new.is_lost old.errors new.errors (failure_line failure) × (new.put ≡ old.put)
    × (is_of_output failure ≡ false → new.out ≡ old.out)

-- They ask for pages of a size that there isn't by their profile, and that was told, unless it is lost.
abbrev pub TellsNoPages : List (List ℕ) → (old new : Left) → Type 0
TellsNoPages words old new = NameNoPages words × Told new.is_lost old.errors new.errors (codes "lfiload: pages are small, or large with --profile 2\n")

-- They ask for a form of the answer that there isn't, and that was told, unless it is lost.
abbrev pub TellsNoFormat : List (List ℕ) → (old new : Left) → Type 0
TellsNoFormat words old new = NameNoFormat words × Told new.is_lost old.errors new.errors (codes "lfiload: --format is text or json\n")

-- They ask for a line that can't be carried out, and why was told, unless it is lost.
abbrev pub TellsFlaw : List (List ℕ) → (old new : Left) → Type 0
TellsFlaw words old new =
    (line : Line) × (flaw : Flaw) × IsLine words line × (flaw_of line ≡ Some flaw) × Told new.is_lost old.errors new.errors (codes "lfiload: " ++ flaw_text flaw ++ codes "\n")

-- What a run of the program on these words did, by its ending.
abbrev pub Runs : List (List ℕ) → (List ℕ → Option (List ℕ)) → (old new : Left) → Ending → Type 0
Runs words file_at old new Well = (AsksHelp words × (new.put ≡ old.put) × (new.errors ≡ old.errors)) ⊎ CarriesOutWords words file_at old new Well
Runs words file_at old new NotWell = CarriesOutWords words file_at old new NotWell
Runs words file_at old new WrongWords = (AreWrong words ⊎ (TellsNoPages words old new ⊎ (TellsNoFormat words old new ⊎ TellsFlaw words old new))) × (new.is_lost ≡ false) × (new.out ≡ old.out) × (new.put ≡ old.put)
Runs words file_at old new Failed = TellsFailure words old new ⊎ CarriesOutWords words file_at old new Failed
