-- What is told of a fault, and of all words that break a rule.
use Rattle.std.specs.Prelude.{◌≡◌, ℕ, zero, suc, ◌+◌, ◌-◌, ◌≤◌, Bool, true, false, ◌&&◌, not, if◌then◌else◌, List, [], ◌∷◌, ◌++◌, length, flat_map, slice_get, codes, decimal, Option, Some, None}
use Rattle.std.specs.Io.KnownBytes.{Appends}
use Rattle.lfi_module.specs.declared.profile.Profile.{Profile}
use Rattle.a64_word.specs.declared.instruction.Instruction.{Instruction}
use Rattle.lfi_rules.specs.declared.rule.Rule.{Rule}
use Rattle.lfi_rules.specs.declared.rule.Rule.TheVariants.{NeedMet}
use Rattle.lfi_rules.specs.declared.fault.Fault.{Fault}
use Rattle.lfi_rules.specs.Texts.{fault_text}
use Rattle.lfi_rules.specs.Faults.{IsLeastAt}
use Rattle.lfi_explain.specs.declared.opener.Opener.{Opener}
use Rattle.lfi_explain.specs.declared.explanation.Explanation.{Explanation}
use Rattle.lfi_explain.specs.declared.explanation.KnownFault.{KnownFault}
use Rattle.lfi_explain.specs.Spellings.{IsSpelling, located_text, is_nothing}
use Rattle.lfi_explain.specs.Openers.{IsOpenerIf}
use Rattle.lfi_explain.specs.Sentences.{unmet_in, sentence_text}
use Rattle.lfi_explain.specs.Mendings.{IsMend, IsDecoded, need_of, is_mended, mending_text}

-- it is rule 10
abbrev pub is_need_met : Rule → Bool
is_need_met = elim [ NeedMet ↦ true | _ ↦ false ]

-- the fault is that the word doesn't meet what one before opens
abbrev pub is_unmet : Explanation → Bool
is_unmet e = is_need_met e.fault.rule && not (is_nothing (unmet_in e))

-- the line of the word whose need isn't met
abbrev pub opener_text : Explanation → List ℕ
opener_text e = by_opener e.opener
  where
    by_opener : Option Opener → List ℕ
    by_opener (Some opener) =
        if is_unmet e then codes "  " ++ located_text e.slot (e.fault.word - 1 - opener.gone) opener.spelling ++ codes "\n" else []
    by_opener None = []

-- three or four lines: the fault; the word whose need isn't met; the word; what the rule asks
abbrev pub told_text : Explanation → List ℕ
told_text e =
    fault_text e.fault ++ codes "\n" ++ opener_text e ++ codes "  " ++ located_text e.slot e.fault.word e.at ++ codes "\n  "
    ++ sentence_text e

-- these, and a line that says how the word is mended
abbrev pub explanation_text : Explanation → List ℕ
explanation_text e = told_text e ++ codes "\n  mend: " ++ mending_text e

-- Its text has at most `room` bytes.
pub record FitsIn (room : ℕ) (e : Explanation) : Type 0 where
  pub bytes : length (explanation_text e) ≤ room

-- It tells this fault by words that stand one after another in its module, the one at place k of them at the fault's place: that word, the one that opens what
-- is open there, and how it is mended.
pub record ExplainsNear (ws : List ℕ) (k : ℕ) (known : KnownFault) (e : Explanation) : Type 0 where
  pub same_fault : e.fault ≡ known.fault
  pub same_slot : e.slot ≡ known.slot
  pub count : e.words ≡ known.words
  pub word : ℕ
  pub here : slice_get ws k ≡ Some word
  pub at : IsSpelling known.profile word e.at
  pub opener : IsOpenerIf known.profile ws k e.opener
  pub next : Option Instruction
  pub decoded : IsDecoded known.profile (slice_get ws (k + 1)) next
  pub mend : IsMend known.profile known.fault.rule word (need_of known.fault.rule e.at e.opener) next e.mend

-- It tells this fault of the words of a module in a slot, by all of them.
abbrev pub Explains : Profile → List ℕ → (slot : ℕ) → Fault → Explanation → Type 0
Explains profile ws slot fault e = ExplainsNear ws fault.word (record { slot = slot; words = length ws; profile = profile; fault = fault }) e

-- Of place k the least rule that its word breaks is told; nothing, where it breaks none.
abbrev pub IsToldAt : Profile → List ℕ → (slot k : ℕ) → Option Explanation → Type 0
IsToldAt profile ws slot k None = IsLeastAt profile ws (length ws) k None
IsToldAt profile ws slot k (Some e) =
    (rule : Rule) × IsLeastAt profile ws (length ws) k (Some rule) × Explains profile ws slot (record { word = k; rule = rule }) e

-- as a list
abbrev pub one_or_none : Option Explanation → List Explanation
one_or_none (Some e) = e ∷ []
one_or_none None = []

-- what is told of the first `count` places, in order
abbrev pub AreTold : Profile → List ℕ → (slot count : ℕ) → List Explanation → Type 0
AreTold profile ws slot zero all = all ≡ []
AreTold profile ws slot (suc k) all =
    (before : List Explanation) × (here : Option Explanation) × AreTold profile ws slot k before × IsToldAt profile ws slot k here
    × (all ≡ before ++ one_or_none here)

-- an explanation with the end of its last line
abbrev pub explanation_line : Explanation → List ℕ
explanation_line e = explanation_text e ++ codes "\n"

-- of how many of some explanations there is a mend
abbrev pub mended_among : List Explanation → ℕ
mended_among [] = 0
mended_among (e ∷ rest) = (if is_mended e.mend then 1 else 0) + mended_among rest

-- the line with how many words are refused
abbrev pub refused_text : ℕ → List ℕ
refused_text refused = codes "words refused: " ++ decimal refused ++ codes "\n"

-- the line with of how many of them there is a mend
abbrev pub mended_text : ℕ → List ℕ
mended_text mended = codes "words with a mend: " ++ decimal mended ++ codes "\n"

-- All that is told was written, and then how many words that is, and of how many of them there is a mend.
abbrev pub WritesRefusals : Profile → List ℕ → (slot : ℕ) → (old new : Option (List ℕ)) → (refused : ℕ) → Type 0
WritesRefusals profile ws slot old new refused =
    (told : List Explanation) × AreTold profile ws slot (length ws) told × (refused ≡ length told)
    × Appends old new (flat_map explanation_line told ++ refused_text refused ++ mended_text (mended_among told))
