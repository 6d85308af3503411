-- Of which words there is a mend, and why there is none of the others.
use Rattle.std.specs.Prelude.{◌≡◌, ℕ, ◌==◌, ◌||◌, ◌&&◌, not, Bool, true, false, if◌then◌else◌, is_some, List, [], ◌∷◌, Option, Some, None, Result, Ok, Err}
use Rattle.lfi_module.specs.declared.profile.Profile.{Profile}
use Rattle.a64_word.specs.declared.instruction.Instruction.{Instruction}
use Rattle.a64_word.specs.declared.instruction.Instruction.TheVariants as instructions
use Rattle.a64_word.specs.declared.data_register.AddSubShifted.{AddSubShifted}
use Rattle.a64_word.specs.declared.data_register.CountLeadingZeros.{CountLeadingZeros}
use Rattle.a64_word.specs.declared.load_store.Pair.{Pair}
use Rattle.a64_word.specs.declared.load_store.Ordered.{Ordered}
use Rattle.a64_word.specs.declared.operands.Transfer.{Transfer}
use Rattle.a64_word.specs.declared.operands.Size.{Size}
use Rattle.a64_word.specs.declared.operands.Size.TheVariants as sizes
use Rattle.a64_word.specs.declared.operands.Width.{Width}
use Rattle.a64_word.specs.declared.operands.Width.TheVariants as widths
use Rattle.a64_word.specs.Profiles.{SpellsIn}
use Rattle.a64_effects.specs.Uses.{Use}
use Rattle.a64_effects.specs.Effects.{is_store, changes_base, form_of_mode, form_of_pair_mode, writes_of, address_of}
use Rattle.lfi_rules.specs.declared.needs.Need.{Need}
use Rattle.lfi_rules.specs.declared.needs.Need.TheVariants as needs
use Rattle.lfi_rules.specs.declared.rule.Rule.{Rule}
use Rattle.lfi_rules.specs.declared.rule.Rule.TheVariants as rules
use Rattle.lfi_rules.specs.Registers as registers
use Rattle.lfi_mends.specs.declared.mend.Mend.{Mend}
use Rattle.lfi_mends.specs.declared.reason.Reason.{Reason}
use Rattle.lfi_mends.specs.declared.reason.Reason.TheVariants as reasons
use Rattle.lfi_mends.specs.declared.outside.Outside.{Outside}
use Rattle.lfi_mends.specs.declared.outside.Outside.TheVariants as outsides
use Rattle.lfi_mends.specs.Outside.{outside_of, likened}
use Rattle.lfi_mends.specs.Registers.{first_scratch, second_scratch, is_reserved, holds_link, may_move_two, spare}

-- 8 bytes
abbrev pub is_double : Size → Bool
is_double = elim [ sizes.Double ↦ true | size ↦ false ]

-- why there is no mend, if there is none
abbrev pub refusal : Result Mend Reason → Option Reason
refusal (Ok mend) = None
refusal (Err reason) = Some reason

-- of a single access, by its data register: none loads x21
abbrev pub of_single : Transfer → (rt : ℕ) → Option Reason
of_single transfer rt = if not (is_store transfer) && rt == registers.base then Some reasons.Base else None

-- Of a pair: x21 isn't changed; of reserved registers it loads x30 alone, as X; and where it stores, x22, x16 or x17 is none of its registers.
abbrev pub of_pair : Pair → Option Reason
of_pair i =
    if changes_base (form_of_pair_mode i.mode) && i.rn == registers.base then Some reasons.Base
    else (if i.load then (if may_move_two true i.rt2 i.rt || holds_link i.width i.rt2 i.rt then None else Some reasons.Reserved)
    else (if is_some (spare i.rt i.rt2 i.rn) then None else Some reasons.Scratch))

-- of LDAR and STLR: of reserved registers it loads x30 alone, as X
abbrev pub of_ordered : Ordered → Option Reason
of_ordered i = if i.load && is_reserved i.rt && not (i.rt == registers.link && is_double i.size) then Some reasons.Reserved else None

-- of an access
abbrev pub of_access : Instruction → Option Reason
of_access (instructions.UnsignedOffset i) = of_single i.transfer i.rt
of_access (instructions.SignedOffset i) =
    if changes_base (form_of_mode i.mode) && i.rn == registers.base then Some reasons.Base else of_single i.transfer i.rt
of_access (instructions.RegisterOffset i) = of_single i.transfer i.rt
of_access (instructions.Ordered i) = of_ordered i
of_access (instructions.Pair i) = of_pair i
of_access _ = Some reasons.Kept

-- instructions that compute one register and do nothing else, wherever they stand
abbrev pub is_computation : Instruction → Bool
is_computation (instructions.AddSubImmediate i) = true
is_computation (instructions.LogicalImmediate i) = true
is_computation (instructions.MoveWide i) = true
is_computation (instructions.Bitfield i) = true
is_computation (instructions.LogicalShifted i) = true
is_computation (instructions.AddSubShifted i) = true
is_computation (instructions.AddSubExtended i) = true
is_computation (instructions.ConditionalSelect i) = true
is_computation (instructions.TwoSource i) = true
is_computation (instructions.CountLeadingZeros i) = true
is_computation (instructions.MultiplyAdd i) = true
is_computation (instructions.MultiplyHigh i) = true
is_computation _ = false

-- the first register of some
abbrev pub first_of : List Use → Option ℕ
first_of [] = None
first_of (first ∷ others) = Some first.register

-- the register that an instruction computes; zr is none
abbrev pub computed : Instruction → Option ℕ
computed i = if is_computation i then first_of (writes_of i) else None

-- of an instruction that computes a register: any but x21 can be written in two steps
abbrev pub of_register : Option ℕ → Option Reason
of_register None = Some reasons.Kept
of_register (Some register) =
    if register == registers.base then Some reasons.Base
    else (if is_reserved register || register == registers.stack then None else Some reasons.Kept)

-- ADR and ADRP
abbrev pub is_of_place : Instruction → Bool
is_of_place = elim [ instructions.PcRelative i ↦ true | _ ↦ false ]

-- of an instruction that writes a register which only few may write
abbrev pub of_write : Instruction → Option Reason
of_write i =
    if is_some (address_of i) then of_access i else (if is_of_place i then Some reasons.Place else of_register (computed i))

-- of a branch through a register
abbrev pub of_branch : Instruction → Option Reason
of_branch = elim [ instructions.BranchRegister i ↦ None | _ ↦ Some reasons.Kept ]

-- of an instruction, by the rule that it breaks
abbrev pub obstacle : Rule → Instruction → Option Reason
obstacle rules.Spelled i = Some reasons.Kept
obstacle rules.AccessConfined i = of_access i
obstacle rules.BaseKept i = Some reasons.Base
obstacle rules.AddressGuarded i = of_write i
obstacle rules.LinkGuarded i = of_write i
obstacle rules.OffsetNarrow i = of_write i
obstacle rules.StackBounded i = of_write i
obstacle rules.TargetInside i = Some reasons.Target
obstacle rules.BranchBounded i = of_branch i
obstacle rules.NeedMet i = Some reasons.Kept

-- of a need that isn't met: the call stands right after its load, and no other word does
abbrev pub of_need : Need → Option Reason
of_need needs.Nothing = Some reasons.Kept
of_need needs.Call = Some reasons.Call
of_need needs.Guard = None
of_need (needs.Probe count) = None

-- x16 or x17
abbrev pub is_scratch : ℕ → Bool
is_scratch register = register == first_scratch || register == second_scratch

-- of a result and three operands: the result isn't reserved, and no operand is a register that the mend computes in
abbrev pub of_operands : (result one two three : ℕ) → Option Reason
of_operands result one two three =
    if is_reserved result then Some reasons.Reserved
    else (if is_scratch one || is_scratch two || is_scratch three then Some reasons.Scratch else None)

-- the widths are the same
abbrev pub same_width : Width → Width → Bool
same_width widths.W widths.W = true
same_width widths.X widths.X = true
same_width one other = false

-- the instruction counts the leading zeros of the register that another writes, in it
abbrev pub counts : (next : Option Instruction) → CountLeadingZeros → Bool
counts (Some (instructions.CountLeadingZeros j)) i = same_width j.width i.width && j.rn == i.rd && j.rd == i.rd
counts _ i = false

-- RBIT
abbrev pub is_bit_reversal : Outside → Bool
is_bit_reversal = elim [ outsides.ReverseBits ↦ true | outside ↦ false ]

-- Of RBIT, REV and their kin: RBIT takes too many instructions, but where zeros are counted after it.
abbrev pub of_turned : Outside → CountLeadingZeros → (next : Option Instruction) → Option Reason
of_turned outside i next = if is_bit_reversal outside && not (counts next i) then Some reasons.Bits else of_operands i.rd i.rn i.rn i.rn

-- Of ADC, SBC and those that set flags: their mends compute in the register of the result too.
abbrev pub of_carry : AddSubShifted → Option Reason
of_carry i = of_operands i.rd i.rn i.rm (if i.set_flags then i.rd else i.rm)

-- of LDPSW: x21 isn't changed, and no reserved register is loaded
abbrev pub of_signed_pair : Pair → Option Reason
of_signed_pair i =
    if changes_base (form_of_pair_mode i.mode) && i.rn == registers.base then Some reasons.Base
    else (if is_reserved i.rt || is_reserved i.rt2 then Some reasons.Reserved else None)

-- of an instruction that the profile leaves out, by the one of the profile with the same operands
abbrev pub of_outside : Outside → (like : Instruction) → (next : Option Instruction) → Option Reason
of_outside outsides.Extract (instructions.LogicalShifted i) next = of_operands i.rd i.rn i.rm i.rm
of_outside outsides.ReverseBits (instructions.CountLeadingZeros i) next = of_turned outsides.ReverseBits i next
of_outside outsides.ReverseInHalves (instructions.CountLeadingZeros i) next = of_turned outsides.ReverseInHalves i next
of_outside outsides.ReverseInWords (instructions.CountLeadingZeros i) next = of_turned outsides.ReverseInWords i next
of_outside outsides.ReverseAll (instructions.CountLeadingZeros i) next = of_turned outsides.ReverseAll i next
of_outside outsides.SignedProduct (instructions.MultiplyAdd i) next = of_operands i.rd i.rn i.rm i.ra
of_outside outsides.UnsignedProduct (instructions.MultiplyAdd i) next = of_operands i.rd i.rn i.rm i.ra
of_outside outsides.Carry (instructions.AddSubShifted i) next = of_carry i
of_outside outsides.SignedPair (instructions.Pair i) next = of_signed_pair i
of_outside outsides.Unprivileged i next = of_access i
of_outside outsides.NonTemporal i next = of_access i
of_outside outsides.Prefetch i next = None
of_outside _ i next = Some reasons.Outside

-- Of a word of the table: why there is no mend, by the instruction of the profile with the same operands.
pub record IsReasonOfRow (profile : Profile) (outside : Outside) (word : ℕ) (next : Option Instruction) (reason : Option Reason) : Type 0 where
  pub like : (i : Instruction) → SpellsIn profile i (likened outside word) → reason ≡ of_outside outside i next
  pub none : ((i : Instruction) → SpellsIn profile i (likened outside word) → ⊥) → reason ≡ Some reasons.Outside

-- Of a word that no instruction of the profile spells.
abbrev pub IsReasonOfOutside : Profile → (word : ℕ) → (next : Option Instruction) → Option Reason → Type 0
IsReasonOfOutside profile word next reason = by_row (outside_of word)
  where
    by_row : Option Outside → Type 0
    by_row (Some outside) = IsReasonOfRow profile outside word next reason
    by_row None = reason ≡ Some reasons.Outside

-- Of a word that breaks a rule by itself.
pub record IsReasonOfWord (profile : Profile) (rule : Rule) (word : ℕ) (next : Option Instruction) (reason : Option Reason) : Type 0 where
  pub spelled : (i : Instruction) → SpellsIn profile i word → reason ≡ obstacle rule i
  pub unspelled : ((i : Instruction) → SpellsIn profile i word → ⊥) → IsReasonOfOutside profile word next reason

-- Of a word that breaks a rule where a need is open before it, why there is no mend; None where there is one.
abbrev pub IsReason : Profile → Rule → (word : ℕ) → Need → (next : Option Instruction) → Option Reason → Type 0
IsReason profile rules.NeedMet word need next reason = reason ≡ of_need need
IsReason profile rule word needs.Call next reason = reason ≡ Some reasons.Call
IsReason profile rule word need next reason = IsReasonOfWord profile rule word next reason
