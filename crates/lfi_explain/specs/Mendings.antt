-- How a word that breaks a rule is mended. Source: this project's profile, docs/PROFILE.md; the mends are those of lfi_mends.
use Rattle.std.specs.Prelude.{◌≡◌, ◌≢◌, ℕ, ◌+◌, ◌==◌, length, slice_get, Bool, true, false, List, [], ◌++◌, codes, flat_map, Option, Some, None, Result, Ok, Err, IfOk, IfSome, IsTrue}
use Rattle.std.specs.List.{list_any}
use Rattle.a64_word.specs.declared.instruction.Instruction.{Instruction}
use Rattle.a64_word.specs.Profiles.{SpellsIn}
use Rattle.a64_text.specs.Texts.{text}
use Rattle.lfi_module.specs.declared.profile.Profile.{Profile}
use Rattle.lfi_rules.specs.Rules.{writes}
use Rattle.lfi_rules.specs.declared.needs.Need.{Need}
use Rattle.lfi_rules.specs.declared.needs.Need.TheVariants.{Nothing, Call, Guard, Probe}
use Rattle.lfi_rules.specs.declared.rule.Rule.{Rule}
use Rattle.lfi_rules.specs.declared.rule.Rule.TheVariants as rules
use Rattle.lfi_mends.specs.declared.mend.Mend.{Mend}
use Rattle.lfi_mends.specs.declared.reason.Reason.{Reason}
use Rattle.lfi_mends.specs.declared.reason.Reason.TheVariants as reasons
use Rattle.lfi_mends.specs.Mends.{Leads, mended}
use Rattle.lfi_mends.specs.Obstacles.{IsReason, refusal}
use Rattle.lfi_mends.specs.Outcomes.{DoesTheSame, DoesTheSameBounded, meeting, moves_bounded, moves_plainly}
use Rattle.lfi_mends.specs.Registers.{first_scratch, second_scratch}
use Rattle.lfi_mends.specs.Texts.{reason_text}
use Rattle.lfi_explain.specs.declared.explanation.Explanation.{Explanation}
use Rattle.lfi_explain.specs.declared.opener.Opener.{Opener}
use Rattle.lfi_explain.specs.declared.spelling.Spelling.{Spelling}
use Rattle.lfi_explain.specs.Openers.{asked_if, IsOpenerIf}
use Rattle.lfi_explain.specs.Spellings.{IsSpelling, opened_by}
use Rattle.lfi_explain.specs.Sentences.{unmet_of}

-- the need that isn't met: that of a word before, or that of the last word, or else a probe, which comes late alone
abbrev pub owed : Spelling → Option Opener → Need
owed at opener = by_unmet (unmet_of at opener) (opened_by at)
  where
    by_unmet : Need → Need → Need
    by_unmet Nothing Nothing = Probe 1
    by_unmet Nothing opened = opened
    by_unmet need opened = need

-- the need that a mend meets: of rule 10 the one that isn't met, of any other rule what is open before the word
abbrev pub need_of : Rule → Spelling → Option Opener → Need
need_of rules.NeedMet at opener = owed at opener
need_of rule at opener = asked_if opener

-- Which instruction of a profile a word spells, if there is a word and one does.
abbrev pub IsDecoded : Profile → Option ℕ → Option Instruction → Type 0
IsDecoded profile None found = found ≡ None
IsDecoded profile (Some word) found = IfSome found (λ i. SpellsIn profile i word) × ((i : Instruction) → SpellsIn profile i word → found ≡ Some i)

-- It is what mend_of of lfi_mends answers: a mend that keeps the rules after what leaves this need open, and does the same as what meets the need and then
-- a plain access, or one of reserved registers, as far as these may hold it; or the reason why there is none. `next` is the instruction after the word.
pub record IsMend (profile : Profile) (rule : Rule) (word : ℕ) (need : Need) (next : Option Instruction) (mend : Result Mend Reason) : Type 0 where
  pub leads : IfOk mend (λ m. Leads profile need (mended m) Nothing)
  pub does : (i : Instruction) → rule ≢ rules.NeedMet → SpellsIn profile i word → IsTrue (moves_plainly i) → IfOk mend (λ m. DoesTheSame (meeting need) (mended m) i)
  pub bounded : (i : Instruction) → rule ≢ rules.NeedMet → SpellsIn profile i word → IsTrue (moves_bounded i) → IfOk mend (λ m. DoesTheSameBounded (meeting need) (mended m) i)
  pub told : IsReason profile rule word need next (refusal mend)

-- The same of the word at place k of some words, which breaks a rule: by what is open there, and the word after it, if there is one.
pub record MendsNear (profile : Profile) (rule : Rule) (ws : List ℕ) (k : ℕ) (mend : Result Mend Reason) : Type 0 where
  pub word : ℕ
  pub here : slice_get ws k ≡ Some word
  pub at : Spelling
  pub spelled : IsSpelling profile word at
  pub opener : Option Opener
  pub opens : IsOpenerIf profile ws k opener
  pub next : Option Instruction
  pub decoded : IsDecoded profile (slice_get ws (k + 1)) next
  pub mends : IsMend profile rule word (need_of rule at opener) next mend

-- there is a mend
abbrev pub is_mended : Result Mend Reason → Bool
is_mended (Ok mend) = true
is_mended (Err reason) = false

-- a line of a mend
abbrev pub instruction_line : Instruction → List ℕ
instruction_line i = codes "\n    " ++ text i

-- one of some instructions writes a register
abbrev pub write : ℕ → List Instruction → Bool
write register is = list_any (λ i. writes i register) is

-- which of x16 and x17 a mend overwrites, which no rule reserves for it
abbrev pub scratch_text : (first second : Bool) → List ℕ
scratch_text true true = codes "; x16 and x17 are overwritten"
scratch_text true false = codes "; x16 is overwritten"
scratch_text false true = codes "; x17 is overwritten"
scratch_text false false = []

-- where a mend stands; that of PRFM is empty
abbrev pub place_text : (is_empty : Bool) → List ℕ
place_text true = codes "nothing in its place"
place_text false = codes "in its place"

-- what else there is to do: a compiler may have a number in x30
abbrev pub else_text : Rule → List ℕ
else_text rules.LinkGuarded = codes "; where x30 isn't meant as an address, use another register"
else_text rule = []

-- the line above a mend
abbrev pub head_text : Rule → (is_empty first second : Bool) → List ℕ
head_text rule is_empty first second = place_text is_empty ++ scratch_text first second ++ else_text rule

-- the instructions of a mend, a line each, below a line that says where they stand
abbrev pub instructions_text : Rule → List Instruction → List ℕ
instructions_text rule is = head_text rule (length is == 0) (write first_scratch is) (write second_scratch is) ++ flat_map instruction_line is

-- what to do where there is no mend
abbrev pub instead_text : Reason → List ℕ
instead_text reasons.Base = codes "; use another register"
instead_text reasons.Reserved = codes "; use another register"
instead_text reasons.Bits = codes "; docs/PROFILE.md lists what stands in for others"
instead_text reasons.Outside = codes "; docs/PROFILE.md lists what stands in for others"
instead_text reason = []

-- why there is no mend
abbrev pub without_text : Reason → List ℕ
without_text reason = codes "none: " ++ reason_text reason ++ instead_text reason

-- a mend, or why there is none
abbrev pub mend_text : Rule → Result Mend Reason → List ℕ
mend_text rule (Ok mend) = instructions_text rule (mended mend)
mend_text rule (Err reason) = without_text reason

-- what to do about a target outside of the module
abbrev pub target_text : List ℕ
target_text = codes "let it go to a word of the module; code outside is called by ldr x30, [x21, #8j], j being 0 to 511, with blr x30 right after it"

-- what meets a need
abbrev pub met_text : Need → List ℕ
met_text Nothing = codes "nothing is to be mended"
met_text Call = codes "put blr x30 right after the load, and before the load what stood between them"
met_text Guard = codes "put add x30, x21, w30, uxtw right after the load"
met_text (Probe count) = codes "put ldr xzr, [sp] right after the move, or let a pre- or post-indexed access move sp"

-- what is written instead of the word, or beside it, by the rule that it breaks
abbrev pub way_text : Rule → Explanation → List ℕ
way_text rules.TargetInside e = target_text
way_text rules.NeedMet e = met_text (owed e.at e.opener)
way_text rule e = mend_text rule e.mend

-- what to write in place of the word
abbrev pub mending_text : Explanation → List ℕ
mending_text e = way_text e.fault.rule e
