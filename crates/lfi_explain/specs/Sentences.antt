-- What is told of a rule and of a word that breaks it. Source: this project's profile, docs/PROFILE.md.
use Rattle.std.specs.Prelude.{ℕ, ℤ, ◌-◌, ◌&&◌, nat_lt, Bool, true, false, List, [], ◌++◌, if◌then◌else◌, codes, decimal, Option, Some, None}
use Rattle.std.specs.Fmt.{signed_decimal}
use Rattle.a64_word.specs.declared.instruction.Instruction.{Instruction}
use Rattle.a64_word.specs.declared.instruction.Instruction.TheVariants.{Ordered}
use Rattle.a64_word.specs.declared.operands.Size.{Size}
use Rattle.a64_word.specs.declared.operands.Size.TheVariants.{Byte, Half}
use Rattle.a64_word.specs.declared.operands.Width.TheVariants.{X}
use Rattle.a64_text.specs.Names.{index_extend_name}
use Rattle.a64_text.specs.Texts.{general, or_sp, index_width}
use Rattle.a64_effects.specs.declared.access.Form.{Form}
use Rattle.a64_effects.specs.declared.access.Form.TheVariants as forms
use Rattle.a64_effects.specs.declared.access.Address.{Address}
use Rattle.lfi_rules.specs.declared.needs.Need.{Need}
use Rattle.lfi_rules.specs.declared.needs.Need.TheVariants.{Nothing, Call, Guard, Probe}
use Rattle.lfi_rules.specs.declared.rule.Rule.{Rule}
use Rattle.lfi_rules.specs.declared.rule.Rule.TheVariants as rules
use Rattle.lfi_explain.specs.declared.explanation.Explanation.{Explanation}
use Rattle.lfi_explain.specs.declared.opener.Opener.{Opener}
use Rattle.lfi_explain.specs.declared.spelling.Spelling.{Spelling}
use Rattle.lfi_explain.specs.Groups.{group_of, group_text}
use Rattle.lfi_explain.specs.Openers.{asked_if}
use Rattle.lfi_explain.specs.Spellings.{opened_by, is_met_by, is_calm_by, address_by, target_by, branch_register_by, written_address_by}

-- the word that meets a need
abbrev pub meeting_text : Need → List ℕ
meeting_text Nothing = codes "any word"
meeting_text Call = codes "blr x30"
meeting_text Guard = codes "add x30, x21, w30, uxtw"
meeting_text (Probe count) = codes "a load or store at [sp]"

-- what opens a need
abbrev pub opening_text : Need → List ℕ
opening_text Nothing = codes "any other word"
opening_text Call = codes "a load of a table entry into x30"
opening_text Guard = codes "any other load of 64 bits into x30"
opening_text (Probe count) = codes "a move of sp by an immediate"

-- how an access comes from its base to its address, where it isn't by an immediate alone
abbrev pub form_text : Form → List ℕ
form_text forms.Offset = []
form_text forms.PreIndex = codes " and changes it"
form_text forms.PostIndex = codes " and changes it"
form_text (forms.Index register extend scaled) =
    codes " by " ++ general (index_width extend) register ++ codes ", " ++ index_extend_name extend ++ (if scaled then codes ", shifted" else [])

-- through which register an access goes, and how
abbrev pub through_text : Option Address → List ℕ
through_text (Some address) = codes "; this one goes through " ++ or_sp X address.base ++ form_text address.form
through_text None = []

-- which register the word writes
abbrev pub writes_text : Option ℕ → List ℕ
writes_text (Some register) = codes "; this one writes x" ++ decimal register
writes_text None = []

-- where it goes
abbrev pub goes_text : Option ℤ → List ℕ
goes_text (Some place) = codes ", and this one goes to word " ++ signed_decimal place
goes_text None = []

-- which register it goes through
abbrev pub branch_text : Option ℕ → List ℕ
branch_text (Some register) = codes "; this one goes through " ++ general X register
branch_text None = []

-- how many of the words that may meet a need are left
abbrev pub left_text : (left count : ℕ) → List ℕ
left_text left count = decimal left ++ codes " of the " ++ decimal count ++ codes " left"

-- how a word behind calm ones misses a need: where it is calm itself, and not the last that may be, since it is the last of the module
abbrev pub missed_text : (count left : ℕ) → (calm : Bool) → List ℕ
missed_text count left calm =
    if calm && nat_lt 1 left then codes "the module ends with " ++ left_text (left - 1) count
    else codes "this word, with " ++ left_text left count ++ codes ", isn't that"

-- within how many words a probe comes, and how this one misses it
abbrev pub late_text : (count left : ℕ) → (calm : Bool) → List ℕ
late_text count left calm = codes " within " ++ decimal count ++ codes " words, with only calm words before it; " ++ missed_text count left calm

-- within how many words a need is met, where it isn't the next one, and how this one misses it
abbrev pub within_text : Need → (gone : ℕ) → (calm : Bool) → List ℕ
within_text (Probe count) gone calm = if nat_lt 1 count then late_text count (count - gone) calm else codes "; this word isn't that"
within_text need gone calm = codes "; this word isn't that"

-- what the last word asks; where it asks nothing, one before it does, which isn't known here
abbrev pub last_text : Need → List ℕ
last_text Nothing = codes "a move of sp by an immediate has to be followed by a load or store at [sp] within 4 words, with only calm words before it; this word isn't that"
last_text opened = codes "the last word may ask nothing of a next one; this one asks for " ++ meeting_text opened

-- a need that isn't met, of a word before, behind which `gone` calm words stand; or else that of the last word
abbrev pub unmet_text : (need opened : Need) → (gone : ℕ) → (calm : Bool) → List ℕ
unmet_text Nothing opened gone calm = last_text opened
unmet_text need opened gone calm = opening_text need ++ codes " has to be followed by " ++ meeting_text need ++ within_text need gone calm

-- behind how many calm words the word is that has to meet what one before opens
abbrev pub gone_before : Option Opener → ℕ
gone_before (Some opener) = opener.gone
gone_before None = 0

-- what a word before asks, where a word doesn't meet it; else Nothing
abbrev pub unmet_of : Spelling → Option Opener → Need
unmet_of at opener = if is_met_by at (asked_if opener) then Nothing else asked_if opener

-- the same of the word that is told
abbrev pub unmet_in : Explanation → Need
unmet_in e = unmet_of e.at e.opener

-- what a rule asks of a word; of the last rule, nothing, since its need says it
abbrev pub asks_text : Rule → List ℕ
asks_text rules.Spelled = codes "each word has to be an instruction of the profile"
asks_text rules.AccessConfined = codes "a load or store may go only through x18, x21, x23, x24 or sp at an immediate offset, through sp and change it, or through x21 by a W register with uxtw and no shift"
asks_text rules.BaseKept = codes "x21 holds where the slot begins and may not be written"
asks_text rules.AddressGuarded = codes "x18, x23 and x24 may be written only by add xD, x21, wM, uxtw"
asks_text rules.LinkGuarded = codes "x30 may be written only by add x30, x21, wM, uxtw, by bl, by blr or by a load of 64 bits"
asks_text rules.OffsetNarrow = codes "x22 may be written only as w22, so that it stays below 2^32"
asks_text rules.StackBounded = codes "sp may be written only by add sp, x21, wM, uxtw, by add sp, x21, x22, uxtx, by an unshifted add or sub of an immediate to sp, or by indexing on sp"
asks_text rules.TargetInside = codes "a direct branch may go only to a word of the module"
asks_text rules.BranchBounded = codes "br and blr may go only through x18, x23, x24 or x30, and ret only through x30"
asks_text rules.NeedMet = []

-- the names of ordered loads and stores
abbrev pub ordered_name : (load : Bool) → Size → List ℕ
ordered_name true Byte = codes "ldarb"
ordered_name true Half = codes "ldarh"
ordered_name true size = codes "ldar"
ordered_name false Byte = codes "stlrb"
ordered_name false Half = codes "stlrh"
ordered_name false size = codes "stlr"

-- what is told of a word that no instruction of the profile spells, by what spells it in the second profile: that, or its group
abbrev pub unspelled_text : (word : ℕ) → Option Instruction → List ℕ
unspelled_text word (Some (Ordered i)) = codes "; " ++ ordered_name i.load i.size ++ codes " is an instruction of profile 2"
unspelled_text word _ = codes "; this one is none, of the group: " ++ group_text (group_of word)

-- what the word does instead
abbrev pub does_text : Rule → Explanation → List ℕ
does_text rules.Spelled e = unspelled_text e.at.word e.at.in_second
does_text rules.AccessConfined e = through_text (address_by e.at)
does_text rules.BaseKept e = codes "; this one writes it"
does_text rules.AddressGuarded e = writes_text (written_address_by e.at)
does_text rules.LinkGuarded e = codes "; this one writes it otherwise"
does_text rules.OffsetNarrow e = codes "; this one writes all of it"
does_text rules.StackBounded e = codes "; this one writes it otherwise"
does_text rules.TargetInside e = codes "; it has " ++ decimal e.words ++ goes_text (target_by e.at e.fault.word)
does_text rules.BranchBounded e = branch_text (branch_register_by e.at)
does_text rules.NeedMet e = unmet_text (unmet_in e) (opened_by e.at) (gone_before e.opener) (is_calm_by e.at)

-- what the rule asks, and what the word does
abbrev pub sentence_text : Explanation → List ℕ
sentence_text e = asks_text e.fault.rule ++ does_text e.fault.rule e
