-- How long the text of an explanation is at most.
use Rattle.std.proofs.Common.{◌≡◌, ℕ, ◌-◌, ◌*◌, ◌<◌, ◌≤◌, eqb, Bool, true, false, List, [], ◌∷◌, ◌++◌, length, replicate, refl, sym, subst, arith, lit≤}
use Rattle.std.specs.Prelude.{codes, ℤ, flat_map, nat_lt, Option, Some, None, Result, Ok, Err, IfOk, IfSome}
use Rattle.std.specs.Fmt.{digits}
use Rattle.std.proofs.lemmas.List.{length-replicate, length-take}
use Rattle.lfi_module.specs.declared.profile.Profile.{Profile}
use Rattle.a64_word.specs.declared.instruction.Instruction.{Instruction}
use Rattle.a64_word.specs.declared.instruction.Instruction.TheVariants.{Ordered}
use Rattle.a64_word.specs.declared.operands.Size.{Size}
use Rattle.a64_word.specs.declared.operands.Size.TheVariants as sizes
use Rattle.a64_word.specs.declared.operands.Width.{Width}
use Rattle.a64_word.specs.declared.operands.Width.TheVariants as widths
use Rattle.a64_word.specs.Profiles.{SpellsIn}
use Rattle.a64_text.specs.Digits.{hexadecimal}
use Rattle.a64_text.specs.Texts.{general, or_sp, index_width}
use Rattle.a64_effects.specs.declared.access.Form.{Form}
use Rattle.a64_effects.specs.declared.access.Form.TheVariants as forms
use Rattle.a64_effects.specs.declared.access.Address.{Address}
use Rattle.lfi_rules.specs.declared.needs.Need.{Need}
use Rattle.lfi_rules.specs.declared.needs.Need.TheVariants.{Nothing, Call, Guard, Probe}
use Rattle.lfi_rules.specs.declared.rule.Rule.{Rule}
use Rattle.lfi_rules.specs.declared.rule.Rule.TheVariants as rules
use Rattle.lfi_rules.specs.declared.fault.Fault.{Fault}
use Rattle.lfi_rules.specs.Needs.{opens_of}
use Rattle.lfi_rules.specs.Rules.{rule_number}
use Rattle.lfi_rules.specs.Texts.{fault_text}
use Rattle.lfi_mends.specs.declared.mend.Mend.{Mend}
use Rattle.lfi_mends.specs.declared.reason.Reason.{Reason}
use Rattle.lfi_mends.specs.declared.reason.Reason.TheVariants as reasons
use Rattle.lfi_mends.specs.Mends.{Leads, mended}
use Rattle.lfi_explain.specs.declared.explanation.Explanation.{Explanation}
use Rattle.lfi_explain.specs.declared.group.Group.{Group}
use Rattle.lfi_explain.specs.declared.group.Group.TheVariants as groups
use Rattle.lfi_explain.specs.declared.opener.Opener.{Opener}
use Rattle.lfi_explain.specs.declared.spelling.Spelling.{Spelling}
use Rattle.lfi_explain.specs.Explanations.{FitsIn, opener_text}
use Rattle.lfi_explain.specs.Groups.{group_text}
use Rattle.lfi_explain.specs.Mendings as mendings
use Rattle.lfi_explain.specs.Sentences as sentences
use Rattle.lfi_explain.specs.Openers.{IsOpenerIf}
use Rattle.lfi_explain.specs.Spellings.{IsSpelling, instruction_text, located_text, address_by, target_by, branch_register_by, written_address_by, opened_by, is_calm_by}
use Rattle.lfi_explain.proofs.Lengths.{Short, exact, within, ◌⊕◌, either, digits_short, decimal_short, two_digits, signed_short}
use Rattle.lfi_explain.proofs.Instructions.{text_short, letter_short, sp_short, index_extend_short}

-- ---- a word at its address
hexadecimal_short : (count n : ℕ) → count ≤ 64 → Short (hexadecimal count n) 64
hexadecimal_short count n few =
    let ds = digits 16 false n in
    let most = (digits_short 16 false n).fits in
    let zeros = (count - length ds) in
    record { fits = omega (arith, (exact (replicate zeros 48) ⊕ exact ds).fits, length-replicate {A = ℕ} zeros 48, most, few) }

-- a word with what spells it in a profile, if anything does
abbrev pub IsSpelled : Spelling → Type 0
IsSpelled s = (profile : Profile) × IfSome s.instruction (λ i. SpellsIn profile i s.word)

instruction_short : (word : ℕ) (profile : Profile) (found : Option Instruction) → IfSome found (λ i. SpellsIn profile i word) → Short (instruction_text word found) 100
instruction_short word profile (Some i) h = text_short i word h.spells
instruction_short word profile None h = within (exact (codes ".inst 0x") ⊕ hexadecimal_short 8 word (lit≤ tt)) (lit≤ tt)

located_short : (slot place : ℕ) (s : Spelling) → IsSpelled s → Short (located_text slot place s) 234
located_short slot place s h =
    exact (codes "0x") ⊕ hexadecimal_short 16 _ (lit≤ tt) ⊕ exact (codes "  ") ⊕ hexadecimal_short 8 s.word (lit≤ tt) ⊕ exact (codes "  ")
    ⊕ instruction_short s.word h.0 s.instruction h.1

-- if there is a word that opens a need, its line
abbrev pub IsOpenerSpelled : Option Opener → Type 0
IsOpenerSpelled found = IfSome found (λ opener. IsSpelled opener.spelling)

opener_short : (e : Explanation) (found : Option Opener) → e.opener ≡ found → IsOpenerSpelled found → Short (opener_text e) 237
opener_short e None same h = rw same (within (exact []) (lit≤ tt))
opener_short e (Some opener) same h =
    rw same (either _ (exact (codes "  ") ⊕ located_short e.slot (e.fault.word - 1 - opener.gone) opener.spelling h ⊕ exact (codes "\n")) (within (exact []) (lit≤ tt)))

-- ---- what the rule asks, and what the word does
rule_digits : (rule : Rule) → rule_number rule < 100
rule_digits rules.Spelled = lit≤ tt
rule_digits rules.AccessConfined = lit≤ tt
rule_digits rules.BaseKept = lit≤ tt
rule_digits rules.AddressGuarded = lit≤ tt
rule_digits rules.LinkGuarded = lit≤ tt
rule_digits rules.OffsetNarrow = lit≤ tt
rule_digits rules.StackBounded = lit≤ tt
rule_digits rules.TargetInside = lit≤ tt
rule_digits rules.BranchBounded = lit≤ tt
rule_digits rules.NeedMet = lit≤ tt

fault_short : (fault : Fault) → Short (fault_text fault) 77
fault_short fault = exact (codes "word ") ⊕ decimal_short fault.word ⊕ exact (codes " rule ") ⊕ two_digits (rule_number fault.rule) (rule_digits fault.rule)

general_any : (w : Width) (n : ℕ) → Short (general w n) 65
general_any w n = letter_short w ⊕ either (eqb n 31) (within (exact (codes "zr")) (lit≤ tt)) (decimal_short n)

or_sp_any : (w : Width) (n : ℕ) → Short (or_sp w n) 65
or_sp_any w n = either (eqb n 31) (within (sp_short w) (lit≤ tt)) (general_any w n)

form_short : (form : Form) → Short (sentences.form_text form) 84
form_short forms.Offset = within (exact []) (lit≤ tt)
form_short forms.PreIndex = within (exact _) (lit≤ tt)
form_short forms.PostIndex = within (exact _) (lit≤ tt)
form_short (forms.Index register extend scaled) =
    exact (codes " by ") ⊕ general_any (index_width extend) register ⊕ exact (codes ", ") ⊕ index_extend_short extend
    ⊕ either scaled (exact (codes ", shifted")) (within (exact []) (lit≤ tt))

through_short : (address : Option Address) → Short (sentences.through_text address) 173
through_short (Some address) = exact (codes "; this one goes through ") ⊕ or_sp_any widths.X address.base ⊕ form_short address.form
through_short None = within (exact []) (lit≤ tt)

writes_short : (register : Option ℕ) → Short (sentences.writes_text register) 83
writes_short (Some register) = exact (codes "; this one writes x") ⊕ decimal_short register
writes_short None = within (exact []) (lit≤ tt)

goes_short : (place : Option ℤ) → Short (sentences.goes_text place) 93
goes_short (Some place) = exact (codes ", and this one goes to word ") ⊕ signed_short place
goes_short None = within (exact []) (lit≤ tt)

branch_short : (register : Option ℕ) → Short (sentences.branch_text register) 89
branch_short (Some register) = exact (codes "; this one goes through ") ⊕ general_any widths.X register
branch_short None = within (exact []) (lit≤ tt)

meeting_short : (need : Need) → Short (sentences.meeting_text need) 23
meeting_short Nothing = within (exact _) (lit≤ tt)
meeting_short Call = within (exact _) (lit≤ tt)
meeting_short Guard = within (exact _) (lit≤ tt)
meeting_short (Probe count) = within (exact _) (lit≤ tt)

opening_short : (need : Need) → Short (sentences.opening_text need) 34
opening_short Nothing = within (exact _) (lit≤ tt)
opening_short Call = within (exact _) (lit≤ tt)
opening_short Guard = within (exact _) (lit≤ tt)
opening_short (Probe count) = within (exact _) (lit≤ tt)

left_short : (left count : ℕ) → Short (sentences.left_text left count) 141
left_short left count = within (decimal_short left ⊕ exact (codes " of the ") ⊕ decimal_short count ⊕ exact (codes " left")) (lit≤ tt)

missed_short : (count left : ℕ) (calm : Bool) → Short (sentences.missed_text count left calm) 170
missed_short count left calm =
    either _ (within (exact (codes "the module ends with ") ⊕ left_short (left - 1) count) (lit≤ tt))
    (within (exact (codes "this word, with ") ⊕ left_short left count ⊕ exact (codes ", isn't that")) (lit≤ tt))

late_short : (count left : ℕ) (calm : Bool) → Short (sentences.late_text count left calm) 300
late_short count left calm =
    within (exact (codes " within ") ⊕ decimal_short count ⊕ exact (codes " words, with only calm words before it; ") ⊕ missed_short count left calm) (lit≤ tt)

within_short : (need : Need) (gone : ℕ) (calm : Bool) → Short (sentences.within_text need gone calm) 300
within_short Nothing gone calm = within (exact _) (lit≤ tt)
within_short Call gone calm = within (exact _) (lit≤ tt)
within_short Guard gone calm = within (exact _) (lit≤ tt)
within_short (Probe count) gone calm = either (nat_lt 1 count) (late_short count (count - gone) calm) (within (exact (codes "; this word isn't that")) (lit≤ tt))

last_short : (opened : Need) → Short (sentences.last_text opened) 200
last_short Nothing = within (exact _) (lit≤ tt)
last_short Call = within (exact (codes "the last word may ask nothing of a next one; this one asks for ") ⊕ meeting_short Call) (lit≤ tt)
last_short Guard = within (exact (codes "the last word may ask nothing of a next one; this one asks for ") ⊕ meeting_short Guard) (lit≤ tt)
last_short (Probe count) = within (exact (codes "the last word may ask nothing of a next one; this one asks for ") ⊕ meeting_short (Probe count)) (lit≤ tt)

unmet_short : (need opened : Need) (gone : ℕ) (calm : Bool) → Short (sentences.unmet_text need opened gone calm) 380
unmet_short Nothing opened gone calm = within (last_short opened) (lit≤ tt)
unmet_short Call opened gone calm = within (opening_short Call ⊕ exact (codes " has to be followed by ") ⊕ meeting_short Call ⊕ within_short Call gone calm) (lit≤ tt)
unmet_short Guard opened gone calm = within (opening_short Guard ⊕ exact (codes " has to be followed by ") ⊕ meeting_short Guard ⊕ within_short Guard gone calm) (lit≤ tt)
unmet_short (Probe count) opened gone calm =
    within (opening_short (Probe count) ⊕ exact (codes " has to be followed by ") ⊕ meeting_short (Probe count) ⊕ within_short (Probe count) gone calm) (lit≤ tt)

ordered_short : (load : Bool) (size : Size) → Short (sentences.ordered_name load size) 5
ordered_short true sizes.Byte = exact _
ordered_short true sizes.Half = exact _
ordered_short true sizes.Word = within (exact _) (lit≤ tt)
ordered_short true sizes.Double = within (exact _) (lit≤ tt)
ordered_short false sizes.Byte = exact _
ordered_short false sizes.Half = exact _
ordered_short false sizes.Word = within (exact _) (lit≤ tt)
ordered_short false sizes.Double = within (exact _) (lit≤ tt)

group_short : (group : Group) → Short (group_text group) 60
group_short groups.Reserved = within (exact _) (lit≤ tt)
group_short groups.Unallocated = within (exact _) (lit≤ tt)
group_short groups.Sme = within (exact _) (lit≤ tt)
group_short groups.Sve = within (exact _) (lit≤ tt)
group_short groups.Immediate = within (exact _) (lit≤ tt)
group_short groups.Exception = within (exact _) (lit≤ tt)
group_short groups.System = within (exact _) (lit≤ tt)
group_short groups.Branch = within (exact _) (lit≤ tt)
group_short groups.Exclusive = within (exact _) (lit≤ tt)
group_short groups.Atomic = within (exact _) (lit≤ tt)
group_short groups.LoadStore = within (exact _) (lit≤ tt)
group_short groups.VectorAccess = within (exact _) (lit≤ tt)
group_short groups.Register = within (exact _) (lit≤ tt)
group_short groups.Vector = within (exact _) (lit≤ tt)

unspelled_short : (word : ℕ) (found : Option Instruction) → Short (sentences.unspelled_text word found) 120
unspelled_short word (Some (Ordered i)) = within (exact (codes "; ") ⊕ ordered_short i.load i.size ⊕ exact (codes " is an instruction of profile 2")) (lit≤ tt)
unspelled_short word found = within (exact (codes "; this one is none, of the group: ") ⊕ group_short _) (lit≤ tt)

sentence_short : (rule : Rule) (e : Explanation) → Short (sentences.asks_text rule ++ sentences.does_text rule e) 400
sentence_short rules.Spelled e = within (exact (sentences.asks_text rules.Spelled) ⊕ unspelled_short e.at.word e.at.in_second) (lit≤ tt)
sentence_short rules.AccessConfined e = within (exact (sentences.asks_text rules.AccessConfined) ⊕ through_short (address_by e.at)) (lit≤ tt)
sentence_short rules.BaseKept e = within (exact (sentences.asks_text rules.BaseKept) ⊕ exact (sentences.does_text rules.BaseKept e)) (lit≤ tt)
sentence_short rules.AddressGuarded e = within (exact (sentences.asks_text rules.AddressGuarded) ⊕ writes_short (written_address_by e.at)) (lit≤ tt)
sentence_short rules.LinkGuarded e = within (exact (sentences.asks_text rules.LinkGuarded) ⊕ exact (sentences.does_text rules.LinkGuarded e)) (lit≤ tt)
sentence_short rules.OffsetNarrow e = within (exact (sentences.asks_text rules.OffsetNarrow) ⊕ exact (sentences.does_text rules.OffsetNarrow e)) (lit≤ tt)
sentence_short rules.StackBounded e = within (exact (sentences.asks_text rules.StackBounded) ⊕ exact (sentences.does_text rules.StackBounded e)) (lit≤ tt)
sentence_short rules.TargetInside e = within (exact (sentences.asks_text rules.TargetInside) ⊕ (exact (codes "; it has ") ⊕ decimal_short e.words ⊕ goes_short (target_by e.at e.fault.word))) (lit≤ tt)
sentence_short rules.BranchBounded e = within (exact (sentences.asks_text rules.BranchBounded) ⊕ branch_short (branch_register_by e.at)) (lit≤ tt)
sentence_short rules.NeedMet e = within (exact (sentences.asks_text rules.NeedMet) ⊕ unmet_short (sentences.unmet_in e) (opened_by e.at) (sentences.gone_before e.opener) (is_calm_by e.at)) (lit≤ tt)

-- ---- how the word is mended
lines_short : (profile : Profile) (before after : Need) (is : List Instruction) → Leads profile before is after → Short (flat_map mendings.instruction_line is) (105 * length is)
lines_short profile before after [] h = exact []
lines_short profile before after (i ∷ rest) h =
    let line = exact (codes "\n    ") ⊕ text_short i h.0.word h.0.spells.spells in
    let all = line ⊕ lines_short profile (opens_of profile i) after rest h.1 in
    record { fits = omega (arith, all.fits) }

few_instructions : (mend : Mend) → length (mended mend) ≤ 8
few_instructions mend = omega (arith, length-take mend.count mend.instructions, mend.few)

scratch_short : (first second : Bool) → Short (mendings.scratch_text first second) 29
scratch_short true true = exact _
scratch_short true false = within (exact _) (lit≤ tt)
scratch_short false true = within (exact _) (lit≤ tt)
scratch_short false false = within (exact _) (lit≤ tt)

else_short : (rule : Rule) → Short (mendings.else_text rule) 60
else_short rules.Spelled = within (exact _) (lit≤ tt)
else_short rules.AccessConfined = within (exact _) (lit≤ tt)
else_short rules.BaseKept = within (exact _) (lit≤ tt)
else_short rules.AddressGuarded = within (exact _) (lit≤ tt)
else_short rules.LinkGuarded = within (exact _) (lit≤ tt)
else_short rules.OffsetNarrow = within (exact _) (lit≤ tt)
else_short rules.StackBounded = within (exact _) (lit≤ tt)
else_short rules.TargetInside = within (exact _) (lit≤ tt)
else_short rules.BranchBounded = within (exact _) (lit≤ tt)
else_short rules.NeedMet = within (exact _) (lit≤ tt)

place_short : (is_empty : Bool) → Short (mendings.place_text is_empty) 20
place_short true = within (exact _) (lit≤ tt)
place_short false = within (exact _) (lit≤ tt)

reason_short : (reason : Reason) → Short (mendings.without_text reason) 200
reason_short reasons.Base = within (exact _) (lit≤ tt)
reason_short reasons.Reserved = within (exact _) (lit≤ tt)
reason_short reasons.Scratch = within (exact _) (lit≤ tt)
reason_short reasons.Place = within (exact _) (lit≤ tt)
reason_short reasons.Target = within (exact _) (lit≤ tt)
reason_short reasons.Call = within (exact _) (lit≤ tt)
reason_short reasons.Kept = within (exact _) (lit≤ tt)
reason_short reasons.Bits = within (exact _) (lit≤ tt)
reason_short reasons.Outside = within (exact _) (lit≤ tt)

-- a mend whose instructions lead somewhere, or a reason
abbrev pub IsMendSpelled : Result Mend Reason → Type 0
IsMendSpelled mend = (profile : Profile) × (before : Need) × IfOk mend (λ m. Leads profile before (mended m) Nothing)

mend_short : (rule : Rule) (mend : Result Mend Reason) → IsMendSpelled mend → Short (mendings.mend_text rule mend) 949
mend_short rule (Ok mend) h =
    let is = mended mend in
    let few = few_instructions mend in
    let lines = lines_short h.0 h.1 Nothing is h.2 in
    let most = lines.fits in
    let all : Short (flat_map mendings.instruction_line is) 840 = record { fits = omega (arith, most, few) } in
    place_short _ ⊕ scratch_short _ _ ⊕ else_short rule ⊕ all
mend_short rule (Err reason) h = within (reason_short reason) (lit≤ tt)

met_short : (need : Need) → Short (mendings.met_text need) 100
met_short Nothing = within (exact _) (lit≤ tt)
met_short Call = within (exact _) (lit≤ tt)
met_short Guard = within (exact _) (lit≤ tt)
met_short (Probe count) = within (exact _) (lit≤ tt)

way_short : (rule : Rule) (e : Explanation) → IsMendSpelled e.mend → Short (mendings.way_text rule e) 949
way_short rules.Spelled e h = mend_short rules.Spelled e.mend h
way_short rules.AccessConfined e h = mend_short rules.AccessConfined e.mend h
way_short rules.BaseKept e h = mend_short rules.BaseKept e.mend h
way_short rules.AddressGuarded e h = mend_short rules.AddressGuarded e.mend h
way_short rules.LinkGuarded e h = mend_short rules.LinkGuarded e.mend h
way_short rules.OffsetNarrow e h = mend_short rules.OffsetNarrow e.mend h
way_short rules.StackBounded e h = mend_short rules.StackBounded e.mend h
way_short rules.TargetInside e h = within (exact _) (lit≤ tt)
way_short rules.BranchBounded e h = mend_short rules.BranchBounded e.mend h
way_short rules.NeedMet e h = within (met_short _) (lit≤ tt)

-- An explanation of words and instructions that are spelled.
pub explanation_short : (e : Explanation) → IsSpelled e.at → IsOpenerSpelled e.opener → IsMendSpelled e.mend → FitsIn 2048 e
explanation_short e at opener mend =
    let told = fault_short e.fault ⊕ exact (codes "\n") ⊕ opener_short e e.opener refl opener ⊕ exact (codes "  ") ⊕ located_short e.slot e.fault.word e.at at ⊕ exact (codes "\n  ")
    ⊕ sentence_short e.fault.rule e in
    let all = told ⊕ exact (codes "\n  mend: ") ⊕ way_short e.fault.rule e mend in
    record { bytes = (within all (lit≤ tt)).fits }

-- ---- what is spelled
pub spelled_of : (profile : Profile) (word : ℕ) (s : Spelling) → IsSpelling profile word s → IsSpelled s
spelled_of profile word s h = (profile, subst (λ w. IfSome s.instruction (λ i. SpellsIn profile i w)) (sym h.same) h.found)

pub opener_spelled : (profile : Profile) (ws : List ℕ) (k : ℕ) (found : Option Opener) → IsOpenerIf profile ws k found → IsOpenerSpelled found
opener_spelled profile ws k None h = tt
opener_spelled profile ws k (Some opener) h = spelled_of profile h.word opener.spelling h.spelling
