-- What is written of code that is judged, with what is explained of it. Source: this project's profile,
-- docs/COMMANDS.md.
use Rattle.std.specs.Prelude.{◌≡◌, ◌⊎◌, ℕ, List, [], ◌++◌, length, map, Option, IfSome, codes}
use Rattle.std.specs.Io.KnownBytes.{Appends}
use Rattle.a64_word.specs.Words.{words_of}
use Rattle.lfi_module.specs.declared.profile.Profile.{Profile}
use Rattle.lfi_rules.specs.declared.fault.Fault.{Fault}
use Rattle.lfi_rules.specs.Texts.{fault_text}
use Rattle.lfi_explain.specs.declared.explanation.Explanation.{Explanation}
use Rattle.lfi_explain.specs.Explanations.{Explains, WritesRefusals, explanation_text}
use Rattle.lfi_command_line.specs.declared.options.CheckOptions.{CheckOptions}
use Rattle.lfi_command_line.specs.declared.options.Explain.{Explain}
use Rattle.lfi_command_line.specs.declared.options.Explain.TheVariants.{Nothing, First, All}
use Rattle.lfi_command_line.specs.declared.options.Format.{Format}
use Rattle.lfi_command_line.specs.declared.options.Format.TheVariants.{Text, Json}
use Rattle.lfi_check.specs.declared.verdict.Verdict.TheVariants as verdicts
use Rattle.lfi_check.specs.Checking.{Checks, verdict_text}
use Rattle.lfi_file_commands.specs.declared.ending.Ending.{Ending}
use Rattle.lfi_file_commands.specs.declared.ending.Ending.TheVariants.{Failed}
use Rattle.lfi_file_commands.specs.declared.failure.Failure.{Failure}
use Rattle.lfi_file_commands.specs.declared.finding.Finding.{Finding}
use Rattle.lfi_file_commands.specs.declared.finding.Finding.TheVariants as findings
use Rattle.lfi_file_commands.specs.declared.kind.FileKind.{FileKind}
use Rattle.lfi_file_commands.specs.Checking.{IsFound, TellsOf, ending_of, name_before, other_of, verdict_of}
use Rattle.lfi_file_commands.specs.Endings.{EndsUnlessLost}
use Rattle.lfi_file_commands.specs.Failures.{FailsOn, IsOfReading, Told, failure_line}
use Rattle.lfi_file_commands.specs.Kinds.{file_kind, kind_line}
use Rattle.lfi_file_commands.specs.Json.{file_object, unread_object, IsFindingText}
use Rattle.lfi_file_commands.specs.Left.{Left, OnlyOutput}
use Rattle.lfi_file_commands.specs.Several.{AreDone, DoesEach, StopsBy}

-- The explanation of a fault of this code, told as that of module 0, was written behind a name, and then the line of the file's kind.
abbrev pub ExplainsFault : (name : List ℕ) → FileKind → Profile → (code : List ℕ) → Fault → (old new : Option (List ℕ)) → Type 0
ExplainsFault name kind profile code fault old new =
    (e : Explanation) × Explains profile (words_of code) 0 fault e × Appends old new (name ++ explanation_text e ++ codes "\n" ++ kind_line kind)

-- A name was written; what is told of all words of this code that break a rule, and how many they are; and the line of the file's kind.
abbrev pub TellsRefusals : (name : List ℕ) → FileKind → Profile → (code : List ℕ) → (old new : Option (List ℕ)) → Type 0
TellsRefusals name kind profile code old new =
    (begun done : Option (List ℕ)) × (refused : ℕ) × Appends old begun name × WritesRefusals profile (words_of code) 0 begun done refused × Appends done new (kind_line kind)

-- Of a fault of this code the line was written; or its explanation; or what is told of all words that break a rule.
abbrev pub WritesFault : (name : List ℕ) → FileKind → Profile → Explain → (code : List ℕ) → Fault → (old new : Option (List ℕ)) → Type 0
WritesFault name kind profile Nothing code fault old new = Appends old new (name ++ fault_text fault ++ codes "\n")
WritesFault name kind profile First code fault old new = ExplainsFault name kind profile code fault old new
WritesFault name kind profile All code fault old new = TellsRefusals name kind profile code old new

-- The same of the code that was refused for this fault, whose bytes are these, where they are known.
abbrev pub WritesRefused : (name : List ℕ) → Profile → Explain → (bytes : Option (List ℕ)) → Fault → (old new : Option (List ℕ)) → Type 0
WritesRefused name profile explain bytes fault old new =
    (code : List ℕ) × IfSome bytes (λ all. all ≡ code) × Checks profile code (verdicts.Refused fault) × WritesFault name (file_kind code) profile explain code fault old new

-- What is written of a file, behind its name where there are several: the line of its verdict; where something is to be explained, of code that is refused
-- that, and of what is no code its kind.
abbrev pub WritesFinding : (name : List ℕ) → Profile → Explain → (bytes : Option (List ℕ)) → Finding → (old new : Option (List ℕ)) → Type 0
WritesFinding name profile Nothing bytes finding old new = Appends old new (name ++ verdict_text (verdict_of finding) ++ codes "\n")
WritesFinding name profile explain bytes (findings.Lawful words) old new = Appends old new (name ++ verdict_text (verdicts.Lawful words) ++ codes "\n")
WritesFinding name profile explain bytes (findings.Refused fault) old new = WritesRefused name profile explain bytes fault old new
WritesFinding name profile explain bytes (findings.NoCode n) old new = Appends old new (name ++ verdict_text verdicts.BadLength ++ codes "\n" ++ kind_line n.kind)

-- One finding of the file at a path; it was written, its length told where it is no code, and it gives the ending.
pub record HasJudged (name : List ℕ) (asked : CheckOptions) (path : List ℕ) (bytes : Option (List ℕ)) (old new : Left) (ending : Ending) : Type 0 where
  pub finding : Finding
  pub found : IfSome bytes (λ xs. IsFound asked.profile xs finding)
  pub written : WritesFinding name asked.profile asked.explain bytes finding old.out new.out
  pub told : TellsOf path (other_of finding) old.is_lost new.is_lost old.errors new.errors
  pub put : new.put ≡ old.put
  pub ends : ending ≡ ending_of (verdict_of finding)

-- The file at a path can't be read, or there was no memory for it; that was told, unless it is lost, and nothing was written.
abbrev pub IsUnread : (path : List ℕ) → (old new : Left) → Ending → Type 0
IsUnread path old new ending =
    (failure : Failure) × IsOfReading path failure × Told new.is_lost old.errors new.errors (failure_line failure) × (new.out ≡ old.out) × (new.put ≡ old.put) × (ending ≡ Failed)

-- what came of the file at a path, which has these bytes, as far as they are known
abbrev pub ChecksOne : (name : List ℕ) → CheckOptions → (path : List ℕ) → (bytes : Option (List ℕ)) → (old new : Left) → Ending → Type 0
ChecksOne name asked path bytes old new ending = HasJudged name asked path bytes old new ending ⊎ IsUnread path old new ending

-- the paths of the files, by their bytes
abbrev pub paths_of : CheckOptions → List (List ℕ)
paths_of asked = map (λ path. path.now) asked.files.items

-- the same, behind its name where there are several
abbrev pub ChecksPath : CheckOptions → (List ℕ → Option (List ℕ)) → (before : ℕ) → (path : List ℕ) → (old new : Left) → Ending → Type 0
ChecksPath asked file_at before path = ChecksOne (name_before (length asked.files.items) path) asked path (file_at path)

-- It is the object of the file at a path, behind `before` others: it tells this finding.
pub record IsObjectOf (asked : CheckOptions) (before : ℕ) (path : List ℕ) (bytes : Option (List ℕ)) (finding : Finding) (object : List ℕ) : Type 0 where
  pub found : IfSome bytes (λ xs. IsFound asked.profile xs finding)
  pub told : List ℕ
  pub tells : IsFindingText asked.profile asked.explain bytes finding told
  pub same : object ≡ file_object before path asked.profile told

-- The object of the file at a path was written, its length told where it is no code, and its finding gives the ending.
pub record HasJudgedObject (asked : CheckOptions) (before : ℕ) (path : List ℕ) (bytes : Option (List ℕ)) (old new : Left) (ending : Ending) : Type 0 where
  pub finding : Finding
  pub object : List ℕ
  pub is : IsObjectOf asked before path bytes finding object
  pub written : Appends old.out new.out object
  pub told : TellsOf path (other_of finding) old.is_lost new.is_lost old.errors new.errors
  pub put : new.put ≡ old.put
  pub ends : ending ≡ ending_of (verdict_of finding)

-- The file at a path can't be read, or there was no memory for it; its object says so, and that was told, unless it is lost.
abbrev pub IsUnreadObject : (before : ℕ) → (path : List ℕ) → (old new : Left) → Ending → Type 0
IsUnreadObject before path old new ending =
    (failure : Failure) × IsOfReading path failure × Told new.is_lost old.errors new.errors (failure_line failure) × Appends old.out new.out (unread_object before path failure) × (new.put ≡ old.put)
    × (ending ≡ Failed)

-- what came of the file at a path, where an object is asked for
abbrev pub ChecksObject : CheckOptions → (List ℕ → Option (List ℕ)) → (before : ℕ) → (path : List ℕ) → (old new : Left) → Ending → Type 0
ChecksObject asked file_at before path old new ending = HasJudgedObject asked before path (file_at path) old new ending ⊎ IsUnreadObject before path old new ending

-- the objects of all files were written, and what ends the object that has them
abbrev pub EndsObjects : CheckOptions → (List ℕ → Option (List ℕ)) → (old new : Left) → Ending → Type 0
EndsObjects asked file_at old new ending =
    (mid : Left) × (all : Ending) × AreDone (ChecksObject asked file_at) (paths_of asked) (length (paths_of asked)) old mid all × Appends mid.out new.out (codes "]}\n") × OnlyOutput mid new
    × EndsUnlessLost new.is_lost all ending

-- one object was written with that of each file, or its beginning: the output failed, or there was no memory
abbrev pub WritesObjects : CheckOptions → (List ℕ → Option (List ℕ)) → (old new : Left) → Ending → Type 0
WritesObjects asked file_at old new ending =
    EndsObjects asked file_at old new ending ⊎ ((failure : Failure) × FailsOn [] failure × StopsBy failure (ChecksObject asked file_at) (paths_of asked) old new ending)

-- in lines of text, or as one object
abbrev pub ChecksAs : Format → CheckOptions → (List ℕ → Option (List ℕ)) → (old new : Left) → Ending → Type 0
ChecksAs Text asked file_at old new ending = DoesEach (ChecksPath asked file_at) (paths_of asked) old new ending
ChecksAs Json asked file_at old new ending = WritesObjects asked file_at old new ending

-- What `lfiload check` did, as it was asked for.
pub record HasChecked (asked : CheckOptions) (file_at : List ℕ → Option (List ℕ)) (old new : Left) (ending : Ending) : Type 0 where
  pub did : ChecksAs asked.format asked file_at old new ending
