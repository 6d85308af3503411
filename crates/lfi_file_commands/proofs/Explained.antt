-- What is said of bytes that are known, carried to what is left of a file.
use Rattle.std.proofs.Common.{◌≡◌, ◌∙◌, ℕ, ◌*◌, ◌<◌, ◌≤◌, ◌++◌, codes, true≢false, is_some, List, Option, Some, None, IfSome, Result, Ok, Err, IfOk, ap, arith, length, length-take, option_map, refl, subst, sym, take}
use Rattle.lfi_image_file.specs.Files.{FileOf}
use Rattle.lfi_image_file.specs.Reading.{IsFault}
use Rattle.lfi_module.specs.Numbers.{most_words}
use Rattle.lfi_module.specs.declared.profile.Profile.{Profile}
use Rattle.lfi_rules.specs.declared.fault.Fault.{Fault}
use Rattle.lfi_command_line.specs.declared.options.Explain.{Explain}
use Rattle.lfi_command_line.specs.declared.options.Explain.TheVariants.{Nothing, First, All}
use Rattle.lfi_check.specs.declared.verdict.Verdict.{Verdict}
use Rattle.lfi_check.specs.declared.verdict.Verdict.TheVariants.{Lawful, Refused, BadLength}
use Rattle.lfi_check.specs.Checking.{Checks, IsCode, verdict_text}
use Rattle.lfi_run_image.specs.declared.image_run.ImageRun.{ImageRun}
use Rattle.lfi_run_image.specs.declared.image_run.ImageRun.TheVariants as image_run
use Rattle.lfi_run_image.specs.Runs.{CameOf}
use Rattle.lfi_file_commands.proofs.Joined.{all_taken}
use Rattle.lfi_file_commands.specs.declared.finding.Finding.{Finding}
use Rattle.lfi_file_commands.specs.declared.finding.Finding.TheVariants as findings
use Rattle.lfi_file_commands.specs.declared.listed.Listed.{Listed}
use Rattle.lfi_file_commands.specs.declared.listed.Listed.TheVariants as listed
use Rattle.lfi_file_commands.specs.declared.no_code.NoCode.{NoCode}
use Rattle.lfi_file_commands.specs.Checking.{IsFound, other_of, verdict_of}
use Rattle.lfi_file_commands.specs.Explaining.{WritesFault, WritesFinding, WritesRefused}
use Rattle.lfi_file_commands.specs.Kinds.{IsNoCode, file_kind, kind_by_first}
use Rattle.lfi_file_commands.specs.Listing.{WritesWords}
use Rattle.lfi_explain.specs.declared.listing.Marks.{Marks}
use Rattle.a64_word.specs.Words.{words_of}
use Rattle.lfi_file_commands.specs.declared.packing.NoModule.{NoModule}
use Rattle.lfi_file_commands.specs.declared.packing.NoModule.TheVariants as no_module
use Rattle.lfi_file_commands.specs.Packing.{IsNoModule}
use Rattle.lfi_file_commands.specs.inner.Whole.{IsFoundOf, IsNoModuleOf, IsOther, IsReadTo, Lists}
use Rattle.std.specs.Io.KnownBytes.{Appends}
use Rattle.std.proofs.lemmas.List.{take-take}

-- `more` is known wherever `known` is, and the same there
abbrev pub Knows : (more known : Option (List ℕ)) → Type 0
Knows more known = IfSome known (λ xs. more ≡ Some xs)

few_bytes : (all : List ℕ) (most : ℕ) → 4 * most_words < most → IsCode all → length all ≤ most
few_bytes all most more code = let few = code.2 in omega (arith, more, few)

-- where the first bytes are code, there are no others
all_code : (all : List ℕ) (most : ℕ) → 4 * most_words < most → IsCode (take most all) → take most all ≡ all
all_code all most more code = let few = code.2 in let size = length-take most all in all_taken all most (omega (arith, size, more, few))

pub carried : (P : List ℕ → Type 0) (more known : Option (List ℕ)) → Knows more known → IfSome more P → IfSome known P
carried P more None same holds = tt
carried P more (Some xs) same holds = subst (λ o. IfSome o P) same holds

pub known_as : (known : Option (List ℕ)) (code : List ℕ) → IfSome known (λ all. all ≡ code) → Knows (Some code) known
known_as None code same = tt
known_as (Some xs) code same = ap Some (sym same)

refused_known : (name : List ℕ) (profile : Profile) (how : Explain) (more known : Option (List ℕ)) (fault : Fault) (old new : Option (List ℕ)) → Knows more known
    → WritesRefused name profile how more fault old new → WritesRefused name profile how known fault old new
refused_known name profile how more known fault old new same writes = (writes.0, carried (λ all. all ≡ writes.0) more known same writes.1, writes.2, writes.3)

pub finding_known : (name : List ℕ) (profile : Profile) (how : Explain) (more known : Option (List ℕ)) (finding : Finding) (old new : Option (List ℕ)) → Knows more known
    → WritesFinding name profile how more finding old new → WritesFinding name profile how known finding old new
finding_known name profile Nothing more known finding old new same writes = writes
finding_known name profile First more known (findings.Lawful n) old new same writes = writes
finding_known name profile First more known (findings.Refused fault) old new same writes = refused_known name profile First more known fault old new same writes
finding_known name profile First more known (findings.NoCode n) old new same writes = writes
finding_known name profile All more known (findings.Lawful n) old new same writes = writes
finding_known name profile All more known (findings.Refused fault) old new same writes = refused_known name profile All more known fault old new same writes
finding_known name profile All more known (findings.NoCode n) old new same writes = writes

pub words_known : (marks : Marks) (profile : Profile) (more known : Option (List ℕ)) (found : Listed) (old new : Option (List ℕ)) → Knows more known
    → WritesWords marks profile more found old new → WritesWords marks profile known found old new
words_known marks profile more known (listed.Words kind) old new same finds = (finds.0, carried (λ all. all ≡ finds.0) more known same finds.1, finds.2, finds.3, finds.4)
words_known marks profile more known (listed.NoCode n) old new same finds = (carried (λ all. IsNoCode all n) more known same finds.0, finds.1)

-- what is written of a fault is what is written of the finding
pub refused_now : (name : List ℕ) (profile : Profile) (how : Explain) (code : List ℕ) (fault : Fault) (old new : Option (List ℕ)) → Checks profile code (Refused fault)
    → WritesFault name (file_kind code) profile how code fault old new → WritesFinding name profile how (Some code) (findings.Refused fault) old new
refused_now name profile Nothing code fault old new checks writes = writes
refused_now name profile First code fault old new checks writes = (code, refl, checks, writes)
refused_now name profile All code fault old new checks writes = (code, refl, checks, writes)

pub lawful_now : (name : List ℕ) (profile : Profile) (how : Explain) (code : List ℕ) (words : ℕ) (old new : Option (List ℕ)) → Appends old new (name ++ verdict_text (Lawful words) ++ codes "\n")
    → WritesFinding name profile how (Some code) (findings.Lawful words) old new
lawful_now name profile Nothing code words old new writes = writes
lawful_now name profile First code words old new writes = writes
lawful_now name profile All code words old new writes = writes

-- and so is what came of an image's file
pub came_known : (more known : Option (List ℕ)) (steps : ℕ) (old new : Option (List ℕ)) (run : ImageRun) → Knows more known → CameOf more steps old new run → CameOf known steps old new run
came_known more known steps old new (image_run.Refused fault) same came = (carried (λ xs. IsFault xs fault) more known same came.0, came.1)
came_known more known steps old new (image_run.Ended halt count) same came = (came.0, came.1, carried (λ xs. FileOf came.0 xs) more known same came.2, came.3)

-- what is found of the first bytes, one more than code can have, is found of all of them
pub checks_all : (profile : Profile) (all : List ℕ) (most : ℕ) (verdict : Verdict) → 4 * most_words < most → Checks profile (take most all) verdict → Checks profile all verdict
checks_all profile all most (Lawful n) more checks = subst (λ bytes. Checks profile bytes (Lawful n)) (all_code all most more checks.0) checks
checks_all profile all most (Refused fault) more checks = subst (λ bytes. Checks profile bytes (Refused fault)) (all_code all most more checks.0) checks
checks_all profile all most BadLength more checks = λ code. checks (subst IsCode (sym (all_taken all most (few_bytes all most more code))) code)

pub checks_left : (profile : Profile) (left : Option (List ℕ)) (bytes : List ℕ) (most : ℕ) (verdict : Verdict) → 4 * most_words < most → IfSome (option_map (take most) left) (λ all. bytes ≡ all)
    → Checks profile bytes verdict → IfSome left (λ all. Checks profile all verdict)
checks_left profile None bytes most verdict more same checks = tt
checks_left profile (Some all) bytes most verdict more same checks = checks_all profile all most verdict more (subst (λ xs. Checks profile xs verdict) same checks)

-- what is known of bytes that are no code, of the first of which this is known
pub other_all : (all : List ℕ) (n : NoCode) → IsOther (take 16777217 all) n → IsNoCode all n
other_all all n is = (
  λ code. is.0 (subst IsCode (sym (all_taken all 16777217 (few_bytes all 16777217 (omega arith) code))) code),
  is.1 ∙ ap kind_by_first (take-take 4 16777217 all (omega arith)),
  is.2,
)

pub other_left : (left : Option (List ℕ)) (bytes : List ℕ) (n : NoCode) → IfSome (option_map (take 16777217) left) (λ all. bytes ≡ all) → IsOther bytes n → IfSome left (λ all. IsNoCode all n)
other_left None bytes n same is = tt
other_left (Some all) bytes n same is = other_all all n (subst (λ xs. IsOther xs n) same is)

code_left : (left : Option (List ℕ)) (bytes : List ℕ) → IfSome (option_map (take 16777217) left) (λ all. bytes ≡ all) → IsCode bytes → IfSome left (λ all. all ≡ bytes)
code_left None bytes same code = tt
code_left (Some all) bytes same code = sym (same ∙ all_code all 16777217 (omega arith) (subst IsCode same code))

-- what is read up to one byte more than code can have
pub read_to : (left : Option (List ℕ)) (bytes : List ℕ) → IfSome (option_map (take 16777217) left) (λ all. bytes ≡ all) → IsReadTo left bytes
read_to left bytes same = record { code = code_left left bytes same; other = λ n is. other_left left bytes n same is }

found_code : (profile : Profile) (left : Option (List ℕ)) (bytes : List ℕ) (verdict : Verdict) → IfSome left (λ all. all ≡ bytes) → Checks profile bytes verdict → IfSome left (λ all. Checks profile all verdict)
found_code profile None bytes verdict same checks = tt
found_code profile (Some all) bytes verdict same checks = subst (λ xs. Checks profile xs verdict) (sym same) checks

-- what is found of what was read is found of what was left
pub found_read : (profile : Profile) (left : Option (List ℕ)) (bytes : List ℕ) (finding : Finding) → IsReadTo left bytes → IsFoundOf profile bytes finding → IfSome left (λ all. IsFound profile all finding)
found_read profile left bytes (findings.Lawful n) to is = found_code profile left bytes (Lawful n) (to.code is.0) is
found_read profile left bytes (findings.Refused fault) to is = found_code profile left bytes (Refused fault) (to.code is.0) is
found_read profile left bytes (findings.NoCode n) to is = to.other n is

-- and what is written of it is written of that
pub finding_read : (name : List ℕ) (profile : Profile) (how : Explain) (left : Option (List ℕ)) (bytes : List ℕ) (finding : Finding) (old new : Option (List ℕ)) → IsReadTo left bytes
    → IsFoundOf profile bytes finding → WritesFinding name profile how (Some bytes) finding old new → WritesFinding name profile how left finding old new
finding_read name profile Nothing left bytes finding old new to is writes = writes
finding_read name profile First left bytes (findings.Lawful n) old new to is writes = writes
finding_read name profile First left bytes (findings.Refused fault) old new to is writes = refused_known name profile First (Some bytes) left fault old new (known_as left bytes (to.code is.0)) writes
finding_read name profile First left bytes (findings.NoCode n) old new to is writes = writes
finding_read name profile All left bytes (findings.Lawful n) old new to is writes = writes
finding_read name profile All left bytes (findings.Refused fault) old new to is writes = refused_known name profile All (Some bytes) left fault old new (known_as left bytes (to.code is.0)) writes
finding_read name profile All left bytes (findings.NoCode n) old new to is writes = writes

-- and so is what is listed of it
pub words_read : (marks : Marks) (profile : Profile) (left : Option (List ℕ)) (bytes : List ℕ) (found : Listed) (old new : Option (List ℕ)) → IsReadTo left bytes
    → Lists marks profile bytes found old new → WritesWords marks profile left found old new
words_read marks profile left bytes (listed.Words kind) old new to lists = (bytes, to.code lists.0, lists.0, lists.1, lists.2)
words_read marks profile left bytes (listed.NoCode n) old new to lists = (to.other n lists.0, lists.1)

found_all : (profile : Profile) (all : List ℕ) (finding : Finding) → IsFoundOf profile (take 16777217 all) finding → IsFound profile all finding
found_all profile all (findings.Lawful n) is = checks_all profile all 16777217 (Lawful n) (omega arith) is
found_all profile all (findings.Refused fault) is = checks_all profile all 16777217 (Refused fault) (omega arith) is
found_all profile all (findings.NoCode n) is = other_all all n is

pub found_left : (profile : Profile) (left : Option (List ℕ)) (bytes : List ℕ) (finding : Finding) → IfSome (option_map (take 16777217) left) (λ all. bytes ≡ all) → IsFoundOf profile bytes finding
    → IfSome left (λ all. IsFound profile all finding)
found_left profile None bytes finding same is = tt
found_left profile (Some all) bytes finding same is = found_all profile all finding (subst (λ xs. IsFoundOf profile xs finding) same is)

-- the verdict on code is what is found of it
pub found_of : (profile : Profile) (bytes : List ℕ) (finding : Finding) → other_of finding ≡ None → Checks profile bytes (verdict_of finding) → IsFoundOf profile bytes finding
found_of profile bytes (findings.Lawful n) code checks = checks
found_of profile bytes (findings.Refused fault) code checks = checks
found_of profile bytes (findings.NoCode n) code checks = absurd (true≢false (ap is_some code))

pub found_by : (profile : Profile) (left : Option (List ℕ)) (finding : Finding) → other_of finding ≡ None → IfSome left (λ bytes. Checks profile bytes (verdict_of finding)) → IfSome left (λ bytes. IsFound profile bytes finding)
found_by profile None finding code checks = tt
found_by profile (Some bytes) (findings.Lawful n) code checks = checks
found_by profile (Some bytes) (findings.Refused fault) code checks = checks
found_by profile (Some bytes) (findings.NoCode n) code checks = absurd (true≢false (ap is_some code))

when_code : (P : List ℕ → Type 0) (left : Option (List ℕ)) (bytes : List ℕ) → IfSome left (λ all. all ≡ bytes) → P bytes → IfSome left P
when_code P None bytes same holds = tt
when_code P (Some all) bytes same holds = subst P (sym same) holds

-- why what was read is no module is why the file isn't
pub no_module_read : (entry : ℕ) (path : List ℕ) (left : Option (List ℕ)) (file_at : List ℕ → Option (List ℕ)) (bytes : List ℕ) (told : NoModule) → Knows left (file_at path)
    → IsReadTo left bytes → IsNoModuleOf entry path bytes told → IsNoModule entry path file_at told
no_module_read entry path left file_at bytes (no_module.BadLength named n) knows to is = (is.0, carried (λ all. IsNoCode all n) left (file_at path) knows (to.other n is.1))
no_module_read entry path left file_at bytes (no_module.NoEntry named word) knows to is = (
  is.0,
  is.1,
  carried (λ all. IsCode all × (length (words_of all) ≤ entry)) left (file_at path) knows (when_code (λ all. IsCode all × (length (words_of all) ≤ entry)) left bytes (to.code is.2) (is.2, is.3)),
)

-- where two facts hold of a value, a third does
pub if_both : {X Y : Type 0} (r : Result X Y) (P Q R : X → Type 0) → ((x : X) → P x → Q x → R x) → IfOk r P → IfOk r Q → IfOk r R
if_both (Ok x) P Q R both p q = both x p q
if_both (Err e) P Q R both p q = tt
