-- The text of each instruction, as an assembler reads it: C6.2, a section an instruction, in lower case and without aliases.
use Rattle.std.specs.Prelude.{ℕ, zero, suc, ℤ, pos, negsuc, ◌*ℤ◌, ◌*◌, ◌^◌, ◌==◌, ◌&&◌, nat_lt, if◌then◌else◌, List, [], ◌∷◌, ◌++◌, Bool, true, false, codes, decimal, Option, Some, None}
use Rattle.std.specs.Fmt.{digits, signed_decimal}
use Rattle.a64_word.specs.declared.instruction.Instruction.{Instruction}
use Rattle.a64_word.specs.declared.instruction.Instruction.TheVariants.{AddSubImmediate, LogicalImmediate, MoveWide, PcRelative, Bitfield, LogicalShifted, AddSubShifted, AddSubExtended, ConditionalCompare, ConditionalSelect, TwoSource, CountLeadingZeros, MultiplyAdd, MultiplyHigh, Nop, Breakpoint, Branch, ConditionalBranch, CompareBranch, TestBranch, BranchRegister, UnsignedOffset, SignedOffset, RegisterOffset, Pair, Ordered}
use Rattle.a64_word.specs.declared.operands.Width.{Width}
use Rattle.a64_word.specs.declared.operands.Width.TheVariants.{W, X}
use Rattle.a64_word.specs.declared.operands.Shift.{Shift}
use Rattle.a64_word.specs.declared.operands.Shift.TheVariants.{Lsl}
use Rattle.a64_word.specs.declared.operands.Extend.{Extend}
use Rattle.a64_word.specs.declared.operands.Extend.TheVariants as extend
use Rattle.a64_word.specs.declared.operands.Logical.{Logical}
use Rattle.a64_word.specs.declared.operands.Logical.TheVariants.{Ands}
use Rattle.a64_word.specs.declared.operands.IndexExtend.{IndexExtend}
use Rattle.a64_word.specs.declared.operands.IndexExtend.TheVariants as index_extend
use Rattle.a64_word.specs.declared.operands.IndexMode.{IndexMode}
use Rattle.a64_word.specs.declared.operands.IndexMode.TheVariants as index_mode
use Rattle.a64_word.specs.declared.operands.PairMode.{PairMode}
use Rattle.a64_word.specs.declared.operands.PairMode.TheVariants as pair_mode
use Rattle.a64_word.specs.Operands.{size_code}
use Rattle.a64_text.specs.Names.{condition_name, shift_name, extend_name, index_extend_name, add_sub_name, logical_name, move_wide_name, bitfield_name, two_source_name, branch_name, select_name, access_name, access_width, size_name}
use Rattle.a64_word.specs.declared.operands.Transfer.TheVariants as transfer
use Rattle.a64_word.specs.Bitmask.{mask_if_any}

-- the operands, with commas between them
abbrev pub joined : List (List ℕ) → List ℕ
joined [] = []
joined (operand ∷ []) = operand
joined (operand ∷ operands) = operand ++ codes ", " ++ joined operands

-- the name of an operation, then its operands
abbrev pub line : List ℕ → List (List ℕ) → List ℕ
line name operands = name ++ codes " " ++ joined operands

-- the letter of a register's name
abbrev pub width_letter : Width → List ℕ
width_letter = elim [ W ↦ codes "w" | X ↦ codes "x" ]

-- sp by its width
abbrev pub sp_name : Width → List ℕ
sp_name = elim [ W ↦ codes "wsp" | X ↦ codes "sp" ]

-- a register, where number 31 is zr
abbrev pub general : Width → ℕ → List ℕ
general width n = width_letter width ++ (if n == 31 then codes "zr" else decimal n)

-- a register, where number 31 is sp
abbrev pub or_sp : Width → ℕ → List ℕ
or_sp width n = if n == 31 then sp_name width else general width n

-- the register of a result: where the flags are set number 31 is zr, else sp
abbrev pub destination : (set_flags : Bool) → Width → ℕ → List ℕ
destination set_flags width n = if set_flags then general width n else or_sp width n

-- an immediate
abbrev pub number : ℕ → List ℕ
number n = codes "#" ++ decimal n

-- a signed immediate
abbrev pub signed_number : ℤ → List ℕ
signed_number n = codes "#" ++ signed_decimal n

-- a bitmask, where there is one, as in each word
abbrev pub mask_text : Option ℕ → List ℕ
mask_text (Some mask) = codes "#0x" ++ digits 16 false mask
mask_text None = codes "#?"

-- by how much a number is shifted left, where that isn't 0
abbrev pub shifted_left : ℕ → List ℕ
shifted_left amount = if amount == 0 then [] else codes ", lsl #" ++ decimal amount

-- it is LSL
abbrev pub is_lsl : Shift → Bool
is_lsl = elim [ Lsl ↦ true | _ ↦ false ]

-- how a register is shifted, where it is
abbrev pub shifted_by : Shift → ℕ → List ℕ
shifted_by shift amount =
    if is_lsl shift && amount == 0 then [] else codes ", " ++ shift_name shift ++ codes " #" ++ decimal amount

-- then by how much, where that isn't 0
abbrev pub by_amount : ℕ → List ℕ
by_amount amount = if amount == 0 then [] else codes " #" ++ decimal amount

-- the width of a register that is extended: X where all its 64 bits count, of an operation of 64 bits
abbrev pub extended_width : Width → Extend → Width
extended_width X extend.Uxtx = X
extended_width X extend.Sxtx = X
extended_width _ _ = W

-- a place, by its distance in bytes from the instruction
abbrev pub from_here : ℤ → List ℕ
from_here (pos bytes) = codes ".+" ++ decimal bytes
from_here (negsuc bytes) = codes ".-" ++ decimal (suc bytes)

-- a place, by its distance in words
abbrev pub words_from_here : ℤ → List ℕ
words_from_here words = from_here (words *ℤ pos 4)

-- an address: a base, and an offset where it isn't 0
abbrev pub offset_by : ℕ → ℤ → List ℕ
offset_by base (pos zero) = codes "[" ++ or_sp X base ++ codes "]"
offset_by base offset = codes "[" ++ or_sp X base ++ codes ", " ++ signed_number offset ++ codes "]"

-- an address that is the base's from then on
abbrev pub pre_indexed : ℕ → ℤ → List ℕ
pre_indexed base offset = codes "[" ++ or_sp X base ++ codes ", " ++ signed_number offset ++ codes "]!"

-- the base's own, to which the offset is added then
abbrev pub post_indexed : ℕ → ℤ → List ℕ
post_indexed base offset = codes "[" ++ or_sp X base ++ codes "], " ++ signed_number offset

-- an address by its mode
abbrev pub by_index_mode : IndexMode → ℕ → ℤ → List ℕ
by_index_mode index_mode.Unscaled = offset_by
by_index_mode index_mode.PostIndex = post_indexed
by_index_mode index_mode.PreIndex = pre_indexed

-- the same of a pair
abbrev pub by_pair_mode : PairMode → ℕ → ℤ → List ℕ
by_pair_mode pair_mode.Offset = offset_by
by_pair_mode pair_mode.PostIndex = post_indexed
by_pair_mode pair_mode.PreIndex = pre_indexed

-- the base isn't changed
abbrev pub is_unscaled : IndexMode → Bool
is_unscaled = elim [ index_mode.Unscaled ↦ true | _ ↦ false ]

-- the width of an index register
abbrev pub index_width : IndexExtend → Width
index_width = elim [ index_extend.Uxtw ↦ W | index_extend.Sxtw ↦ W | _ ↦ X ]

-- how an index is extended, and by how much it is shifted, where it is scaled; nothing where all its bits count bytes
abbrev pub extended_index : IndexExtend → (scaled : Bool) → (amount : ℕ) → List ℕ
extended_index index_extend.Lsl false amount = []
extended_index extend false amount = codes ", " ++ index_extend_name extend
extended_index extend true amount = codes ", " ++ index_extend_name extend ++ codes " #" ++ decimal amount

-- an address at a base and an index
abbrev pub indexed : (base index : ℕ) → IndexExtend → (scaled : Bool) → (amount : ℕ) → List ℕ
indexed base index extend scaled amount =
    codes "[" ++ or_sp X base ++ codes ", " ++ general (index_width extend) index ++ extended_index extend scaled amount ++ codes "]"

-- the bytes of a register in a pair
abbrev pub pair_bytes : Width → ℤ
pair_bytes = elim [ W ↦ pos 4 | X ↦ pos 8 ]

-- it is ANDS
abbrev pub is_ands : Logical → Bool
is_ands = elim [ Ands ↦ true | _ ↦ false ]

-- the second operand of a comparison: a register, or its number itself
abbrev pub compared : (immediate : Bool) → Width → ℕ → List ℕ
compared immediate width n = if immediate then number n else general width n

-- the text of an instruction
abbrev pub text : Instruction → List ℕ
-- Data Processing -- Immediate
-- ADD, ADDS, SUB, SUBS <Rd|SP>, <Rn|SP>, #<imm>{, LSL #12}
text (AddSubImmediate i) =
    line (add_sub_name i.subtract i.set_flags)
    (destination i.set_flags i.width i.rd ∷ or_sp i.width i.rn ∷ (number i.imm12 ++ shifted_left (if i.shifted then 12 else 0)) ∷ [])
-- AND, ORR, EOR, ANDS <Rd|SP>, <Rn>, #<imm>
text (LogicalImmediate i) =
    line (logical_name false i.operation) (destination (is_ands i.operation) i.width i.rd ∷ general i.width i.rn ∷ mask_text (mask_if_any i.width i.n i.immr i.imms) ∷ [])
-- MOVN, MOVZ, MOVK <Rd>, #<imm>{, LSL #<shift>}
text (MoveWide i) =
    line (move_wide_name i.kind) (general i.width i.rd ∷ (number i.imm16 ++ shifted_left (16 * i.hw)) ∷ [])
-- ADR, ADRP <Xd>, <label>
text (PcRelative i) =
    line (if i.page then codes "adrp" else codes "adr") (general X i.rd ∷ from_here (i.offset *ℤ pos (if i.page then 4096 else 1)) ∷ [])
-- SBFM, BFM, UBFM <Rd>, <Rn>, #<immr>, #<imms>
text (Bitfield i) =
    line (bitfield_name i.kind) (general i.width i.rd ∷ general i.width i.rn ∷ number i.immr ∷ number i.imms ∷ [])
-- Data Processing -- Register
-- AND, BIC, ORR, ORN, EOR, EON, ANDS, BICS <Rd>, <Rn>, <Rm>{, <shift> #<amount>}
text (LogicalShifted i) =
    line (logical_name i.invert i.operation)
    (general i.width i.rd ∷ general i.width i.rn ∷ (general i.width i.rm ++ shifted_by i.shift i.amount) ∷ [])
-- ADD, ADDS, SUB, SUBS <Rd>, <Rn>, <Rm>{, <shift> #<amount>}
text (AddSubShifted i) =
    line (add_sub_name i.subtract i.set_flags)
    (general i.width i.rd ∷ general i.width i.rn ∷ (general i.width i.rm ++ shifted_by i.shift i.amount) ∷ [])
-- ADD, ADDS, SUB, SUBS <Rd|SP>, <Rn|SP>, <Rm>, <extend>{ #<amount>}
text (AddSubExtended i) =
    line (add_sub_name i.subtract i.set_flags)
    (destination i.set_flags i.width i.rd ∷ or_sp i.width i.rn ∷ general (extended_width i.width i.extend) i.rm
    ∷ (extend_name i.extend ++ by_amount i.amount) ∷ [])
-- CCMN, CCMP <Rn>, <Rm>|#<imm>, #<nzcv>, <cond>
text (ConditionalCompare i) =
    line (if i.compare then codes "ccmp" else codes "ccmn")
    (general i.width i.rn ∷ compared i.immediate i.width i.rm ∷ number i.nzcv ∷ condition_name i.condition ∷ [])
-- CSEL, CSINC, CSINV, CSNEG <Rd>, <Rn>, <Rm>, <cond>
text (ConditionalSelect i) =
    line (select_name i.invert i.increment)
    (general i.width i.rd ∷ general i.width i.rn ∷ general i.width i.rm ∷ condition_name i.condition ∷ [])
-- UDIV, SDIV, LSLV, LSRV, ASRV, RORV <Rd>, <Rn>, <Rm>
text (TwoSource i) = line (two_source_name i.kind) (general i.width i.rd ∷ general i.width i.rn ∷ general i.width i.rm ∷ [])
-- CLZ <Rd>, <Rn>
text (CountLeadingZeros i) = line (codes "clz") (general i.width i.rd ∷ general i.width i.rn ∷ [])
-- MADD, MSUB <Rd>, <Rn>, <Rm>, <Ra>
text (MultiplyAdd i) =
    line (if i.subtract then codes "msub" else codes "madd")
    (general i.width i.rd ∷ general i.width i.rn ∷ general i.width i.rm ∷ general i.width i.ra ∷ [])
-- SMULH, UMULH <Xd>, <Xn>, <Xm>
text (MultiplyHigh i) =
    line (if i.unsigned then codes "umulh" else codes "smulh") (general X i.rd ∷ general X i.rn ∷ general X i.rm ∷ [])
-- Branches, Exception Generating and System instructions
text Nop = codes "nop"
-- B, BL <label>
text (Branch i) = line (if i.link then codes "bl" else codes "b") (words_from_here i.offset ∷ [])
-- B.<cond> <label>
text (ConditionalBranch i) = line (codes "b." ++ condition_name i.condition) (words_from_here i.offset ∷ [])
-- CBZ, CBNZ <Rt>, <label>
text (CompareBranch i) =
    line (if i.nonzero then codes "cbnz" else codes "cbz") (general i.width i.rt ∷ words_from_here i.offset ∷ [])
-- TBZ, TBNZ <R><t>, #<imm>, <label>
text (TestBranch i) =
    line (if i.nonzero then codes "tbnz" else codes "tbz")
    (general (if nat_lt i.bit 32 then W else X) i.rt ∷ number i.bit ∷ words_from_here i.offset ∷ [])
-- BR, BLR, RET <Xn>
text (BranchRegister i) = line (branch_name i.kind) (general X i.rn ∷ [])
-- BRK #<imm>
text (Breakpoint i) = line (codes "brk") (number i.imm16 ∷ [])
-- Loads and Stores
-- STR, LDR and those like them <Rt>, [<Xn|SP>{, #<pimm>}]
text (UnsignedOffset i) =
    line (access_name false i.transfer i.size)
    (general (access_width i.transfer i.size) i.rt ∷ offset_by i.rn (pos (i.imm12 * 2 ^ size_code i.size)) ∷ [])
-- STUR, LDUR and those like them <Rt>, [<Xn|SP>{, #<simm>}]; STR, LDR and those like them with [..], #<simm> or [..]!
text (SignedOffset i) =
    line (access_name (is_unscaled i.mode) i.transfer i.size)
    (general (access_width i.transfer i.size) i.rt ∷ by_index_mode i.mode i.rn i.imm9 ∷ [])
-- STR, LDR and those like them <Rt>, [<Xn|SP>, <R><m>{, <extend>{ <amount>}}]
text (RegisterOffset i) =
    line (access_name false i.transfer i.size)
    (general (access_width i.transfer i.size) i.rt ∷ indexed i.rn i.rm i.extend i.scaled (size_code i.size) ∷ [])
-- STLR, LDAR and those like them <Rt>, [<Xn|SP>]
text (Ordered i) =
    line ((if i.load then codes "ldar" else codes "stlr") ++ size_name transfer.Load i.size)
    (general (access_width transfer.Load i.size) i.rt ∷ offset_by i.rn (pos 0) ∷ [])
-- STP, LDP <Rt>, <Rt2>, [<Xn|SP>{, #<imm>}], and with [..], #<imm> or [..]!
text (Pair i) =
    line (if i.load then codes "ldp" else codes "stp")
    (general i.width i.rt ∷ general i.width i.rt2 ∷ by_pair_mode i.mode i.rn (i.imm7 *ℤ pair_bytes i.width) ∷ [])
