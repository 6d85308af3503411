-- The result of each class of instructions that computes, of what its registers hold: the operations of the Arm manual's C6.2.
use Rattle.std.specs.Prelude.{ℕ, ◌+◌, ◌*◌, ◌/◌, ◌%◌, ◌^◌, pos, ◌*ℤ◌, Bool, true, false, if◌then◌else◌, bit_and, bit_or, bit_xor}
use Rattle.std.specs.Int.Count.{count_leading_zeros}
use Rattle.a64_word.specs.declared.operands.Width.{Width}
use Rattle.a64_word.specs.declared.operands.Width.TheVariants as widths
use Rattle.a64_word.specs.declared.operands.Shift.TheVariants as shifts
use Rattle.a64_word.specs.declared.operands.Logical.{Logical}
use Rattle.a64_word.specs.declared.operands.Logical.TheVariants as logicals
use Rattle.a64_word.specs.declared.operands.MoveWideKind.{MoveWideKind}
use Rattle.a64_word.specs.declared.operands.MoveWideKind.TheVariants as wide_moves
use Rattle.a64_word.specs.declared.operands.TwoSourceKind.{TwoSourceKind}
use Rattle.a64_word.specs.declared.operands.TwoSourceKind.TheVariants as two_sources
use Rattle.a64_word.specs.declared.data_immediate.AddSubImmediate.{AddSubImmediate}
use Rattle.a64_word.specs.declared.data_immediate.LogicalImmediate.{LogicalImmediate}
use Rattle.a64_word.specs.declared.data_immediate.MoveWide.{MoveWide}
use Rattle.a64_word.specs.declared.data_immediate.PcRelative.{PcRelative}
use Rattle.a64_word.specs.declared.data_immediate.Bitfield.{Bitfield}
use Rattle.a64_word.specs.declared.data_register.LogicalShifted.{LogicalShifted}
use Rattle.a64_word.specs.declared.data_register.AddSubShifted.{AddSubShifted}
use Rattle.a64_word.specs.declared.data_register.AddSubExtended.{AddSubExtended}
use Rattle.a64_word.specs.declared.data_register.ConditionalCompare.{ConditionalCompare}
use Rattle.a64_word.specs.declared.data_register.ConditionalSelect.{ConditionalSelect}
use Rattle.a64_word.specs.declared.data_register.TwoSource.{TwoSource}
use Rattle.a64_word.specs.declared.data_register.CountLeadingZeros.{CountLeadingZeros}
use Rattle.a64_word.specs.declared.data_register.MultiplyAdd.{MultiplyAdd}
use Rattle.a64_word.specs.declared.data_register.MultiplyHigh.{MultiplyHigh}
use Rattle.a64_word.specs.Operands.{bit, data_size}
use Rattle.a64_word.specs.Bitmask.{mask_of}
use Rattle.a64_semantics.specs.declared.flags.Flags.{Flags}
use Rattle.a64_semantics.specs.declared.computed.Computed.{Computed}
use Rattle.a64_semantics.specs.Numbers.{operand, complement, difference, unsigned}
use Rattle.a64_semantics.specs.Sums.{add_sub, addend, flags_of_sum, flags_of_bits, flags_of_number, flags_where}
use Rattle.a64_semantics.specs.Conditions.{holds}
use Rattle.a64_semantics.specs.Shifts.{shifted, extended_operand}
use Rattle.a64_semantics.specs.Bitfields.{inserted, bitfield_move}
use Rattle.a64_semantics.specs.Products.{high_product, signed_high_product, quotient, signed_quotient}

-- ADD, ADDS, SUB, SUBS
abbrev pub add_sub_immediate : AddSubImmediate → (rn : ℕ) → Computed
add_sub_immediate i rn = add_sub i.width i.subtract i.set_flags (operand i.width rn) (if i.shifted then i.imm12 * 2 ^ 12 else i.imm12)

-- ADD and SUB of a shifted register
abbrev pub add_sub_shifted : AddSubShifted → (rn rm : ℕ) → Computed
add_sub_shifted i rn rm =
    add_sub i.width i.subtract i.set_flags (operand i.width rn) (shifted i.width i.shift (operand i.width rm) i.amount)

-- ADD and SUB of an extended register
abbrev pub add_sub_extended : AddSubExtended → (rn rm : ℕ) → Computed
add_sub_extended i rn rm = add_sub i.width i.subtract i.set_flags (operand i.width rn) (extended_operand i.width i.extend rm i.amount)

-- AND, ORR, EOR and ANDS, bit by bit; ANDS sets flags
abbrev pub bitwise : Logical → ℕ → ℕ → ℕ
bitwise = elim [ logicals.And ↦ bit_and | logicals.Orr ↦ bit_or | logicals.Eor ↦ bit_xor | logicals.Ands ↦ bit_and ]

-- it is ANDS
abbrev pub sets_flags : Logical → Bool
sets_flags = elim [ logicals.Ands ↦ true | operation ↦ false ]

-- a logical operation, with flags where it is ANDS
abbrev pub logical : Width → Logical → ℕ → ℕ → Computed
logical width operation x y =
    let z = bitwise operation x y in record { value = z; flags = flags_where (sets_flags operation) (flags_of_bits width z) }

-- the same with a mask
abbrev pub logical_immediate : LogicalImmediate → (rn : ℕ) → Computed
logical_immediate i rn = logical i.width i.operation (operand i.width rn) (mask_of i.width i.n i.immr i.imms)

-- the second operand of BIC, ORN, EON and BICS is complemented
abbrev pub logical_shifted : LogicalShifted → (rn rm : ℕ) → Computed
logical_shifted i rn rm =
    let second = shifted i.width i.shift (operand i.width rm) i.amount in
    logical i.width i.operation (operand i.width rn) (if i.invert then complement i.width second else second)

-- MOVZ, MOVN and MOVK
abbrev pub move_wide_of : Width → MoveWideKind → (place imm16 : ℕ) → (rd : ℕ) → ℕ
move_wide_of width wide_moves.Movz place imm16 rd = imm16 * 2 ^ place
move_wide_of width wide_moves.Movn place imm16 rd = complement width (imm16 * 2 ^ place)
move_wide_of width wide_moves.Movk place imm16 rd = inserted place (place + 16) (imm16 * 2 ^ place) (operand width rd)

-- MOVN, MOVZ and MOVK
abbrev pub move_wide : MoveWide → (rd : ℕ) → ℕ
move_wide i rd = move_wide_of i.width i.kind (16 * i.hw) i.imm16 rd

-- ADR; ADRP, which counts pages from the page of pc
abbrev pub pc_relative : PcRelative → (pc : ℕ) → ℕ
pc_relative i pc =
    if i.page then (pc / 2 ^ 12 * 2 ^ 12 + unsigned widths.X (i.offset *ℤ pos 4096)) % 2 ^ 64
    else (pc + unsigned widths.X i.offset) % 2 ^ 64

-- UBFM, SBFM and BFM
abbrev pub bitfield : Bitfield → (rn rd : ℕ) → ℕ
bitfield i rn rd = bitfield_move i.width i.kind i.immr i.imms (operand i.width rn) (operand i.width rd)

-- CCMN and CCMP, which compute flags alone
abbrev pub conditional_compare : ConditionalCompare → Flags → (rn rm : ℕ) → Flags
conditional_compare i flags rn rm =
    let second = if i.immediate then i.rm else operand i.width rm in
    if holds i.condition flags then flags_of_sum i.width (operand i.width rn) (addend i.width i.compare second) (bit i.compare)
    else flags_of_number i.nzcv

-- what CSEL, CSINC, CSINV and CSNEG give where the condition fails
abbrev pub not_selected : Width → (invert increment : Bool) → ℕ → ℕ
not_selected width false false x = x
not_selected width false true x = (x + 1) % 2 ^ data_size width
not_selected width true false x = complement width x
not_selected width true true x = difference width 0 x

-- CSEL, CSINC, CSINV and CSNEG
abbrev pub conditional_select : ConditionalSelect → Flags → (rn rm : ℕ) → ℕ
conditional_select i flags rn rm =
    if holds i.condition flags then operand i.width rn else not_selected i.width i.invert i.increment (operand i.width rm)

-- UDIV, SDIV, and shifts by the second operand modulo d
abbrev pub two_source_of : Width → TwoSourceKind → ℕ → ℕ → ℕ
two_source_of width two_sources.Udiv x y = quotient x y
two_source_of width two_sources.Sdiv x y = signed_quotient width x y
two_source_of width two_sources.Lslv x y = shifted width shifts.Lsl x (y % data_size width)
two_source_of width two_sources.Lsrv x y = shifted width shifts.Lsr x (y % data_size width)
two_source_of width two_sources.Asrv x y = shifted width shifts.Asr x (y % data_size width)
two_source_of width two_sources.Rorv x y = shifted width shifts.Ror x (y % data_size width)

-- UDIV, SDIV and shifts by a register
abbrev pub two_source : TwoSource → (rn rm : ℕ) → ℕ
two_source i rn rm = two_source_of i.width i.kind (operand i.width rn) (operand i.width rm)

-- CLZ: d for 0
abbrev pub leading_zeros_of : CountLeadingZeros → (rn : ℕ) → ℕ
leading_zeros_of i rn = count_leading_zeros (data_size i.width) (operand i.width rn)

-- MADD and MSUB
abbrev pub multiply_add : MultiplyAdd → (rn rm ra : ℕ) → ℕ
multiply_add i rn rm ra =
    let product = operand i.width rn * operand i.width rm in
    if i.subtract then difference i.width (operand i.width ra) product else (operand i.width ra + product) % 2 ^ data_size i.width

-- SMULH and UMULH
abbrev pub multiply_high : MultiplyHigh → (rn rm : ℕ) → ℕ
multiply_high i rn rm = if i.unsigned then high_product rn rm else signed_high_product rn rm
