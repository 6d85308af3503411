-- What is told as JSON: which key has which value. Source: this project's profile, docs/COMMANDS.md; of JSON RFC 8259.
use Rattle.std.specs.Prelude.{◌≡◌, ℕ, ◌==◌, if◌then◌else◌, List, [], ◌++◌, length, Option, Some, None, IfSome, Result, Ok, Err, codes, decimal}
use Rattle.json.specs.Print as print
use Rattle.a64_word.specs.Words.{words_of}
use Rattle.a64_word.specs.declared.instruction.Instruction.{Instruction}
use Rattle.a64_text.specs.Texts.{text}
use Rattle.lfi_module.specs.declared.profile.Profile.{Profile}
use Rattle.lfi_module.specs.Profiles.{profile_number}
use Rattle.lfi_rules.specs.declared.fault.Fault.{Fault}
use Rattle.lfi_rules.specs.Rules.{rule_number}
use Rattle.lfi_mends.specs.declared.mend.Mend.{Mend}
use Rattle.lfi_mends.specs.declared.reason.Reason.{Reason}
use Rattle.lfi_mends.specs.Mends.{mended}
use Rattle.lfi_explain.specs.declared.explanation.Explanation.{Explanation}
use Rattle.lfi_explain.specs.Explanations.{AreTold, Explains, explanation_text, mended_among}
use Rattle.lfi_model.specs.Texts.{lines_from}
use Rattle.lfi_image_file.specs.Faults as images
use Rattle.lfi_image_file.specs.declared.fault.ImageFault.{ImageFault}
use Rattle.lfi_image_file.specs.declared.fault.ImageFault.TheVariants.{Unlawful}
use Rattle.lfi_confinement.specs.declared.cause.StopCause.{StopCause}
use Rattle.lfi_confinement.specs.declared.cause.StopCause.TheVariants as causes
use Rattle.lfi_machine.specs.declared.halt.Halt.{Halt}
use Rattle.lfi_machine.specs.declared.halt.Halt.TheVariants as halts
use Rattle.lfi_run_image.specs.declared.image_run.ImageRun.{ImageRun}
use Rattle.lfi_run_image.specs.declared.image_run.ImageRun.TheVariants as runs
use Rattle.lfi_run_image.specs.Texts.{address_text}
use Rattle.lfi_check.specs.declared.verdict.Verdict.TheVariants as verdicts
use Rattle.lfi_check.specs.Checking.{Checks}
use Rattle.lfi_command_line.specs.declared.options.Explain.{Explain}
use Rattle.lfi_command_line.specs.declared.options.Explain.TheVariants.{Nothing, First, All}
use Rattle.lfi_file_commands.specs.declared.failure.Failure.{Failure}
use Rattle.lfi_file_commands.specs.declared.finding.Finding.{Finding}
use Rattle.lfi_file_commands.specs.declared.finding.Finding.TheVariants as findings
use Rattle.lfi_file_commands.specs.declared.kind.FileKind.{FileKind}
use Rattle.lfi_file_commands.specs.declared.kind.FileKind.TheVariants.{Plain}
use Rattle.lfi_file_commands.specs.Failures.{failure_text}
use Rattle.lfi_file_commands.specs.Images.{Fate, image_path_of}
use Rattle.lfi_file_commands.specs.Kinds.{file_kind, kind_text}

-- a text as a JSON string: between quotes, with the shortest escapes
unfoldable pub quoted : List ℕ → List ℕ
quoted = print.quoted

-- what stands before one of several, by how many of them stand before it
abbrev pub comma : (before : ℕ) → List ℕ
comma before = if before == 0 then [] else codes ","

-- an instruction of a mend
abbrev pub mend_item : ℕ → Instruction → List ℕ
mend_item n i = comma n ++ quoted (text i)

-- the instructions of a mend; `null`, where there is none
abbrev pub mend_value : Result Mend Reason → List ℕ
mend_value (Ok mend) = codes "[" ++ lines_from mend_item 0 (mended mend) ++ codes "]"
mend_value (Err reason) = codes "null"

-- what is told of a fault: its text, and what stands in its word's place
abbrev pub explained_members : Explanation → List ℕ
explained_members e = codes ",\"explanation\":" ++ quoted (explanation_text e) ++ codes ",\"mend\":" ++ mend_value e.mend

-- a fault: its word, and the rule that this breaks
abbrev pub fault_members : Fault → List ℕ
fault_members fault = codes "\"word\":" ++ decimal fault.word ++ codes ",\"rule\":" ++ decimal (rule_number fault.rule)

-- one of several words that break a rule
abbrev pub refused_item : ℕ → Explanation → List ℕ
refused_item n e = comma n ++ codes "{" ++ fault_members e.fault ++ explained_members e ++ codes "}"

-- how many words are refused, and of how many of them there is a mend
abbrev pub counts_members : (refused with_a_mend : ℕ) → List ℕ
counts_members refused with_a_mend = codes "],\"words_refused\":" ++ decimal refused ++ (codes ",\"words_with_a_mend\":" ++ decimal with_a_mend)

-- all words that break a rule, and how many they are
abbrev pub refused_members : List Explanation → List ℕ
refused_members told = codes ",\"refused\":[" ++ lines_from refused_item 0 told ++ counts_members (length told) (mended_among told)

-- what a file is, by its first bytes, where it isn't plain
abbrev pub kind_member : FileKind → List ℕ
kind_member = elim [ Plain ↦ [] | kind ↦ codes ",\"file\":\"" ++ kind_text kind ++ codes "\"" ]

-- What is told of a fault of this code, as that of module 0, beside its word and rule: nothing; its explanation; or all words that break a rule.
abbrev pub RefusedMembers : Profile → Explain → (code : List ℕ) → Fault → List ℕ → Type 0
RefusedMembers profile Nothing code fault more = more ≡ []
RefusedMembers profile First code fault more = (e : Explanation) × Explains profile (words_of code) 0 fault e × (more ≡ explained_members e)
RefusedMembers profile All code fault more = (told : List Explanation) × AreTold profile (words_of code) 0 (length (words_of code)) told × (more ≡ refused_members told)

-- What is told of code that is refused for this fault.
abbrev pub IsRefusedText : Profile → Explain → (code : List ℕ) → Fault → List ℕ → Type 0
IsRefusedText profile explain code fault told =
    (more : List ℕ) × RefusedMembers profile explain code fault more × (told ≡ codes ",\"verdict\":\"refused\"," ++ fault_members fault ++ more ++ kind_member (file_kind code))

-- What is told of a finding of a file that has these bytes, as far as they are known.
abbrev pub IsFindingText : Profile → Explain → (bytes : Option (List ℕ)) → Finding → List ℕ → Type 0
IsFindingText profile explain bytes (findings.Lawful words) told = told ≡ codes ",\"verdict\":\"lawful\",\"words\":" ++ decimal words
IsFindingText profile explain bytes (findings.Refused fault) told =
    (code : List ℕ) × IfSome bytes (λ all. all ≡ code) × Checks profile code (verdicts.Refused fault) × IsRefusedText profile explain code fault told
IsFindingText profile explain bytes (findings.NoCode n) told = told ≡ codes ",\"verdict\":\"bad length\",\"bytes\":" ++ decimal n.bytes ++ kind_member n.kind

-- what stands before the object of a file, by how many of them stand before it
abbrev pub before_file : (before : ℕ) → List ℕ
before_file before = if before == 0 then codes "{\"files\":[" else codes ","

-- the profile by which a file is judged
abbrev pub profile_member : Profile → List ℕ
profile_member profile = codes ",\"profile\":" ++ decimal (profile_number profile)

-- the object of a file, of which this is told
abbrev pub file_object : (before : ℕ) → (path : List ℕ) → Profile → (told : List ℕ) → List ℕ
file_object before path profile told =
    before_file before ++ codes "{\"path\":" ++ quoted path ++ profile_member profile ++ told ++ codes "}"

-- that of a file that can't be read
abbrev pub unread_object : (before : ℕ) → (path : List ℕ) → Failure → List ℕ
unread_object before path failure = before_file before ++ codes "{\"path\":" ++ quoted path ++ codes ",\"error\":" ++ quoted (failure_text failure) ++ codes "}"

-- why a file could not be written, where it couldn't
abbrev pub error_member : Option Failure → List ℕ
error_member None = []
error_member (Some failure) = codes ",\"error\":" ++ quoted (failure_text failure)

-- one of several images that were to be put into a folder: its file, and why that could not be written
abbrev pub image_item : (folder : List ℕ) → ℕ → Fate → List ℕ
image_item folder n fate = comma n ++ codes "{\"path\":" ++ quoted (image_path_of folder fate.image.slot) ++ error_member fate.failure ++ codes "}"

-- why a machine stops
abbrev pub stop_members : StopCause → List ℕ
stop_members (causes.NoAccess address) = codes "\"halt\":2,\"address\":\"" ++ address_text address ++ codes "\""
stop_members (causes.NoFetch pc) = codes "\"halt\":3,\"address\":\"" ++ address_text pc ++ codes "\""
stop_members (causes.Breakpoint pc) = codes "\"halt\":4,\"address\":\"" ++ address_text pc ++ codes "\""
stop_members (causes.Ended status) = codes "\"halt\":5,\"status\":" ++ decimal status
stop_members causes.UnlawfulAnswer = codes "\"halt\":6"

-- why a run ended
abbrev pub halt_members : Halt → List ℕ
halt_members (halts.Stopped cause) = stop_members cause
halt_members halts.StepsUsed = codes "\"halt\":1"
halt_members halts.NoMemory = codes "\"halt\":7"

-- why there is no image: the number of the fault, and the fault in words; of unlawful code the fault of the code
abbrev pub no_image_members : ImageFault → List ℕ
no_image_members (Unlawful fault) = codes "\"fault\":7," ++ fault_members fault
no_image_members fault = codes "\"fault\":" ++ decimal (images.number_of fault) ++ codes ",\"reason\":\"" ++ images.fault_text fault ++ codes "\""

-- what came of an image file that was run
abbrev pub run_object : ImageRun → List ℕ
run_object (runs.Refused fault) = codes "{" ++ no_image_members fault ++ codes "}"
run_object (runs.Ended halt steps) = codes "{" ++ halt_members halt ++ codes ",\"steps\":" ++ decimal steps ++ codes "}"
