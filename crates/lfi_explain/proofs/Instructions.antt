-- How long the text of an instruction is at most.
use Rattle.std.proofs.Common.{ℕ, zero, suc, ◌+◌, ◌*◌, ◌<◌, eqb, Bool, true, false, List, [], ◌∷◌, ◌++◌, arith, lit≤}
use Rattle.std.specs.Prelude.{codes, ℤ, pos, negsuc, ◌*ℤ◌, ◌&&◌, ◌^◌, if◌then◌else◌, Option, Some, None}
use Rattle.a64_word.specs.declared.instruction.Instruction.{Instruction}
use Rattle.a64_word.specs.declared.instruction.Instruction.TheVariants.{AddSubImmediate, LogicalImmediate, MoveWide, PcRelative, Bitfield, LogicalShifted, AddSubShifted, AddSubExtended, ConditionalCompare, ConditionalSelect, TwoSource, CountLeadingZeros, MultiplyAdd, MultiplyHigh, Nop, Breakpoint, Branch, ConditionalBranch, CompareBranch, TestBranch, BranchRegister, UnsignedOffset, SignedOffset, RegisterOffset, Pair, Ordered}
use Rattle.a64_word.specs.declared.operands.Width.{Width}
use Rattle.a64_word.specs.declared.operands.Width.TheVariants as widths
use Rattle.a64_word.specs.declared.operands.Condition.{Condition}
use Rattle.a64_word.specs.declared.operands.Condition.TheVariants as conditions
use Rattle.a64_word.specs.declared.operands.Shift.{Shift}
use Rattle.a64_word.specs.declared.operands.Shift.TheVariants as shifts
use Rattle.a64_word.specs.declared.operands.Extend.{Extend}
use Rattle.a64_word.specs.declared.operands.Extend.TheVariants as extends
use Rattle.a64_word.specs.declared.operands.Logical.{Logical}
use Rattle.a64_word.specs.declared.operands.Logical.TheVariants as logicals
use Rattle.a64_word.specs.declared.operands.MoveWideKind.{MoveWideKind}
use Rattle.a64_word.specs.declared.operands.MoveWideKind.TheVariants as wide_moves
use Rattle.a64_word.specs.declared.operands.BitfieldKind.{BitfieldKind}
use Rattle.a64_word.specs.declared.operands.BitfieldKind.TheVariants as bitfields
use Rattle.a64_word.specs.declared.operands.TwoSourceKind.{TwoSourceKind}
use Rattle.a64_word.specs.declared.operands.TwoSourceKind.TheVariants as two_sources
use Rattle.a64_word.specs.declared.operands.BranchKind.{BranchKind}
use Rattle.a64_word.specs.declared.operands.BranchKind.TheVariants as branches
use Rattle.a64_word.specs.declared.operands.Size.{Size}
use Rattle.a64_word.specs.declared.operands.Size.TheVariants as sizes
use Rattle.a64_word.specs.declared.operands.Transfer.{Transfer}
use Rattle.a64_word.specs.declared.operands.Transfer.TheVariants as transfers
use Rattle.a64_word.specs.declared.operands.IndexExtend.{IndexExtend}
use Rattle.a64_word.specs.declared.operands.IndexExtend.TheVariants as indexes
use Rattle.a64_word.specs.declared.operands.IndexMode.{IndexMode}
use Rattle.a64_word.specs.declared.operands.IndexMode.TheVariants as index_modes
use Rattle.a64_word.specs.declared.operands.PairMode.{PairMode}
use Rattle.a64_word.specs.declared.operands.PairMode.TheVariants as pair_modes
use Rattle.a64_word.specs.Encoding.{Spells}
use Rattle.a64_word.specs.Bitmask.{mask_if_any}
use Rattle.a64_word.specs.Operands.{size_code}
use Rattle.a64_text.specs.Names as names
use Rattle.a64_text.specs.Texts as texts
use Rattle.lfi_explain.proofs.Lengths.{Short, exact, within, ◌⊕◌, either, digits_short, decimal_short, two_digits, signed_short}

-- ---- names
condition_short : (c : Condition) → Short (names.condition_name c) 2
condition_short conditions.Eq = within (exact _) (lit≤ tt)
condition_short conditions.Ne = within (exact _) (lit≤ tt)
condition_short conditions.Cs = within (exact _) (lit≤ tt)
condition_short conditions.Cc = within (exact _) (lit≤ tt)
condition_short conditions.Mi = within (exact _) (lit≤ tt)
condition_short conditions.Pl = within (exact _) (lit≤ tt)
condition_short conditions.Vs = within (exact _) (lit≤ tt)
condition_short conditions.Vc = within (exact _) (lit≤ tt)
condition_short conditions.Hi = within (exact _) (lit≤ tt)
condition_short conditions.Ls = within (exact _) (lit≤ tt)
condition_short conditions.Ge = within (exact _) (lit≤ tt)
condition_short conditions.Lt = within (exact _) (lit≤ tt)
condition_short conditions.Gt = within (exact _) (lit≤ tt)
condition_short conditions.Le = within (exact _) (lit≤ tt)
condition_short conditions.Al = within (exact _) (lit≤ tt)
condition_short conditions.Nv = within (exact _) (lit≤ tt)

shift_short : (s : Shift) → Short (names.shift_name s) 3
shift_short shifts.Lsl = within (exact _) (lit≤ tt)
shift_short shifts.Lsr = within (exact _) (lit≤ tt)
shift_short shifts.Asr = within (exact _) (lit≤ tt)
shift_short shifts.Ror = within (exact _) (lit≤ tt)

extend_short : (e : Extend) → Short (names.extend_name e) 4
extend_short extends.Uxtb = within (exact _) (lit≤ tt)
extend_short extends.Uxth = within (exact _) (lit≤ tt)
extend_short extends.Uxtw = within (exact _) (lit≤ tt)
extend_short extends.Uxtx = within (exact _) (lit≤ tt)
extend_short extends.Sxtb = within (exact _) (lit≤ tt)
extend_short extends.Sxth = within (exact _) (lit≤ tt)
extend_short extends.Sxtw = within (exact _) (lit≤ tt)
extend_short extends.Sxtx = within (exact _) (lit≤ tt)

pub index_extend_short : (e : IndexExtend) → Short (names.index_extend_name e) 4
index_extend_short indexes.Uxtw = within (exact _) (lit≤ tt)
index_extend_short indexes.Lsl = within (exact _) (lit≤ tt)
index_extend_short indexes.Sxtw = within (exact _) (lit≤ tt)
index_extend_short indexes.Sxtx = within (exact _) (lit≤ tt)

add_sub_short : (subtract set_flags : Bool) → Short (names.add_sub_name subtract set_flags) 4
add_sub_short false false = within (exact _) (lit≤ tt)
add_sub_short false true = within (exact _) (lit≤ tt)
add_sub_short true false = within (exact _) (lit≤ tt)
add_sub_short true true = within (exact _) (lit≤ tt)

logical_short : (invert : Bool) (l : Logical) → Short (names.logical_name invert l) 4
logical_short false logicals.And = within (exact _) (lit≤ tt)
logical_short false logicals.Orr = within (exact _) (lit≤ tt)
logical_short false logicals.Eor = within (exact _) (lit≤ tt)
logical_short false logicals.Ands = within (exact _) (lit≤ tt)
logical_short true logicals.And = within (exact _) (lit≤ tt)
logical_short true logicals.Orr = within (exact _) (lit≤ tt)
logical_short true logicals.Eor = within (exact _) (lit≤ tt)
logical_short true logicals.Ands = within (exact _) (lit≤ tt)

move_wide_short : (k : MoveWideKind) → Short (names.move_wide_name k) 4
move_wide_short wide_moves.Movn = within (exact _) (lit≤ tt)
move_wide_short wide_moves.Movz = within (exact _) (lit≤ tt)
move_wide_short wide_moves.Movk = within (exact _) (lit≤ tt)

bitfield_short : (k : BitfieldKind) → Short (names.bitfield_name k) 4
bitfield_short bitfields.Sbfm = within (exact _) (lit≤ tt)
bitfield_short bitfields.Bfm = within (exact _) (lit≤ tt)
bitfield_short bitfields.Ubfm = within (exact _) (lit≤ tt)

two_source_short : (k : TwoSourceKind) → Short (names.two_source_name k) 4
two_source_short two_sources.Udiv = within (exact _) (lit≤ tt)
two_source_short two_sources.Sdiv = within (exact _) (lit≤ tt)
two_source_short two_sources.Lslv = within (exact _) (lit≤ tt)
two_source_short two_sources.Lsrv = within (exact _) (lit≤ tt)
two_source_short two_sources.Asrv = within (exact _) (lit≤ tt)
two_source_short two_sources.Rorv = within (exact _) (lit≤ tt)

branch_short : (k : BranchKind) → Short (names.branch_name k) 3
branch_short branches.Br = within (exact _) (lit≤ tt)
branch_short branches.Blr = within (exact _) (lit≤ tt)
branch_short branches.Ret = within (exact _) (lit≤ tt)

select_short : (invert increment : Bool) → Short (names.select_name invert increment) 5
select_short false false = within (exact _) (lit≤ tt)
select_short false true = within (exact _) (lit≤ tt)
select_short true false = within (exact _) (lit≤ tt)
select_short true true = within (exact _) (lit≤ tt)

transfer_short : (unscaled : Bool) (t : Transfer) → Short (names.transfer_name unscaled t) 5
transfer_short false transfers.Store = within (exact _) (lit≤ tt)
transfer_short false transfers.Load = within (exact _) (lit≤ tt)
transfer_short false transfers.LoadSignedX = within (exact _) (lit≤ tt)
transfer_short false transfers.LoadSignedW = within (exact _) (lit≤ tt)
transfer_short true transfers.Store = within (exact _) (lit≤ tt)
transfer_short true transfers.Load = within (exact _) (lit≤ tt)
transfer_short true transfers.LoadSignedX = within (exact _) (lit≤ tt)
transfer_short true transfers.LoadSignedW = within (exact _) (lit≤ tt)

size_short : (t : Transfer) (s : Size) → Short (names.size_name t s) 1
size_short transfers.Store sizes.Byte = within (exact _) (lit≤ tt)
size_short transfers.Store sizes.Half = within (exact _) (lit≤ tt)
size_short transfers.Store sizes.Word = within (exact _) (lit≤ tt)
size_short transfers.Store sizes.Double = within (exact _) (lit≤ tt)
size_short transfers.Load sizes.Byte = within (exact _) (lit≤ tt)
size_short transfers.Load sizes.Half = within (exact _) (lit≤ tt)
size_short transfers.Load sizes.Word = within (exact _) (lit≤ tt)
size_short transfers.Load sizes.Double = within (exact _) (lit≤ tt)
size_short transfers.LoadSignedX sizes.Byte = within (exact _) (lit≤ tt)
size_short transfers.LoadSignedX sizes.Half = within (exact _) (lit≤ tt)
size_short transfers.LoadSignedX sizes.Word = within (exact _) (lit≤ tt)
size_short transfers.LoadSignedX sizes.Double = within (exact _) (lit≤ tt)
size_short transfers.LoadSignedW sizes.Byte = within (exact _) (lit≤ tt)
size_short transfers.LoadSignedW sizes.Half = within (exact _) (lit≤ tt)
size_short transfers.LoadSignedW sizes.Word = within (exact _) (lit≤ tt)
size_short transfers.LoadSignedW sizes.Double = within (exact _) (lit≤ tt)

access_short : (unscaled : Bool) (t : Transfer) (s : Size) → Short (names.access_name unscaled t s) 6
access_short unscaled t s = transfer_short unscaled t ⊕ size_short t s

-- ---- registers
pub letter_short : (w : Width) → Short (texts.width_letter w) 1
letter_short widths.W = exact _
letter_short widths.X = exact _

pub sp_short : (w : Width) → Short (texts.sp_name w) 3
sp_short widths.W = within (exact _) (lit≤ tt)
sp_short widths.X = within (exact _) (lit≤ tt)

general_short : (w : Width) (n : ℕ) → n < 32 → Short (texts.general w n) 3
general_short w n low = letter_short w ⊕ either (eqb n 31) (exact (codes "zr")) (two_digits n (omega (arith, low)))

or_sp_short : (w : Width) (n : ℕ) → n < 32 → Short (texts.or_sp w n) 3
or_sp_short w n low = either (eqb n 31) (sp_short w) (general_short w n low)

destination_short : (flags : Bool) (w : Width) (n : ℕ) → n < 32 → Short (texts.destination flags w n) 3
destination_short flags w n low = either flags (general_short w n low) (or_sp_short w n low)

-- ---- operands
number_short : (n : ℕ) → Short (texts.number n) 65
number_short n = exact (codes "#") ⊕ decimal_short n

low_number : (n : ℕ) → n < 100 → Short (texts.number n) 3
low_number n small = exact (codes "#") ⊕ two_digits n small

left_short : (amount : ℕ) → amount < 100 → Short (texts.shifted_left amount) 9
left_short amount small = either (eqb amount 0) (within (exact []) (lit≤ tt)) (exact (codes ", lsl #") ⊕ two_digits amount small)

shifted_short : (s : Shift) (amount : ℕ) → Short (texts.shifted_by s amount) 71
shifted_short s amount = either (texts.is_lsl s && eqb amount 0) (within (exact []) (lit≤ tt)) (exact (codes ", ") ⊕ shift_short s ⊕ exact (codes " #") ⊕ decimal_short amount)

amount_short : (amount : ℕ) → Short (texts.by_amount amount) 66
amount_short amount = either (eqb amount 0) (within (exact []) (lit≤ tt)) (exact (codes " #") ⊕ decimal_short amount)

mask_short : (mask : Option ℕ) → Short (texts.mask_text mask) 67
mask_short (Some mask) = exact (codes "#0x") ⊕ digits_short 16 false mask
mask_short None = within (exact _) (lit≤ tt)

from_here_short : (z : ℤ) → Short (texts.from_here z) 66
from_here_short (pos n) = exact (codes ".+") ⊕ decimal_short n
from_here_short (negsuc n) = exact (codes ".-") ⊕ decimal_short (suc n)

compared_short : (immediate : Bool) (w : Width) (n : ℕ) → n < 32 → Short (texts.compared immediate w n) 3
compared_short immediate w n low = either immediate (low_number n (omega (arith, low))) (general_short w n low)

-- ---- addresses
signed_number_short : (z : ℤ) → Short (texts.signed_number z) 66
signed_number_short z = exact (codes "#") ⊕ signed_short z

some_offset : (base : ℕ) (z : ℤ) → base < 32 → Short (codes "[" ++ texts.or_sp widths.X base ++ codes ", " ++ texts.signed_number z ++ codes "]") 73
some_offset base z low = exact (codes "[") ⊕ or_sp_short widths.X base low ⊕ exact (codes ", ") ⊕ signed_number_short z ⊕ exact (codes "]")

offset_short : (base : ℕ) (z : ℤ) → base < 32 → Short (texts.offset_by base z) 74
offset_short base (pos zero) low = within (exact (codes "[") ⊕ or_sp_short widths.X base low ⊕ exact (codes "]")) (lit≤ tt)
offset_short base (pos (suc n)) low = within (some_offset base (pos (suc n)) low) (lit≤ tt)
offset_short base (negsuc n) low = within (some_offset base (negsuc n) low) (lit≤ tt)

pre_short : (base : ℕ) (z : ℤ) → base < 32 → Short (texts.pre_indexed base z) 74
pre_short base z low = exact (codes "[") ⊕ or_sp_short widths.X base low ⊕ exact (codes ", ") ⊕ signed_number_short z ⊕ exact (codes "]!")

post_short : (base : ℕ) (z : ℤ) → base < 32 → Short (texts.post_indexed base z) 74
post_short base z low = within (exact (codes "[") ⊕ or_sp_short widths.X base low ⊕ exact (codes "], ") ⊕ signed_number_short z) (lit≤ tt)

by_mode_short : (m : IndexMode) (base : ℕ) (z : ℤ) → base < 32 → Short (texts.by_index_mode m base z) 74
by_mode_short index_modes.Unscaled = offset_short
by_mode_short index_modes.PostIndex = post_short
by_mode_short index_modes.PreIndex = pre_short

by_pair_mode_short : (m : PairMode) (base : ℕ) (z : ℤ) → base < 32 → Short (texts.by_pair_mode m base z) 74
by_pair_mode_short pair_modes.Offset = offset_short
by_pair_mode_short pair_modes.PostIndex = post_short
by_pair_mode_short pair_modes.PreIndex = pre_short

extended_short : (e : IndexExtend) (scaled : Bool) (amount : ℕ) → Short (texts.extended_index e scaled amount) 72
extended_short indexes.Lsl false amount = within (exact []) (lit≤ tt)
extended_short indexes.Uxtw false amount = within (exact (codes ", ") ⊕ index_extend_short indexes.Uxtw) (lit≤ tt)
extended_short indexes.Sxtw false amount = within (exact (codes ", ") ⊕ index_extend_short indexes.Sxtw) (lit≤ tt)
extended_short indexes.Sxtx false amount = within (exact (codes ", ") ⊕ index_extend_short indexes.Sxtx) (lit≤ tt)
extended_short indexes.Lsl true amount = exact (codes ", ") ⊕ index_extend_short indexes.Lsl ⊕ exact (codes " #") ⊕ decimal_short amount
extended_short indexes.Uxtw true amount = exact (codes ", ") ⊕ index_extend_short indexes.Uxtw ⊕ exact (codes " #") ⊕ decimal_short amount
extended_short indexes.Sxtw true amount = exact (codes ", ") ⊕ index_extend_short indexes.Sxtw ⊕ exact (codes " #") ⊕ decimal_short amount
extended_short indexes.Sxtx true amount = exact (codes ", ") ⊕ index_extend_short indexes.Sxtx ⊕ exact (codes " #") ⊕ decimal_short amount

indexed_short : (base index : ℕ) (e : IndexExtend) (scaled : Bool) (amount : ℕ) → base < 32 → index < 32 → Short (texts.indexed base index e scaled amount) 82
indexed_short base index e scaled amount low below =
    exact (codes "[") ⊕ or_sp_short widths.X base low ⊕ exact (codes ", ") ⊕ general_short (texts.index_width e) index below ⊕ extended_short e scaled amount ⊕ exact (codes "]")

-- ---- instructions: a name and its operands
one : {name a : List ℕ} {k i : ℕ} → Short name k → Short a i → Short (texts.line name (a ∷ [])) (k + 1 + i)
one n a = n ⊕ exact (codes " ") ⊕ a

two : {name a b : List ℕ} {k i j : ℕ} → Short name k → Short a i → Short b j → Short (texts.line name (a ∷ b ∷ [])) (k + 1 + (i + 2 + j))
two n a b = n ⊕ exact (codes " ") ⊕ (a ⊕ exact (codes ", ") ⊕ b)

three : {name a b c : List ℕ} {k i j l : ℕ} → Short name k → Short a i → Short b j → Short c l → Short (texts.line name (a ∷ b ∷ c ∷ [])) (k + 1 + (i + 2 + (j + 2 + l)))
three n a b c = n ⊕ exact (codes " ") ⊕ (a ⊕ exact (codes ", ") ⊕ (b ⊕ exact (codes ", ") ⊕ c))

four : {name a b c d : List ℕ} {k i j l m : ℕ} → Short name k → Short a i → Short b j → Short c l → Short d m
    → Short (texts.line name (a ∷ b ∷ c ∷ d ∷ [])) (k + 1 + (i + 2 + (j + 2 + (l + 2 + m))))
four n a b c d = n ⊕ exact (codes " ") ⊕ (a ⊕ exact (codes ", ") ⊕ (b ⊕ exact (codes ", ") ⊕ (c ⊕ exact (codes ", ") ⊕ d)))

by_shift : (b : Bool) → Short (texts.shifted_left (if b then 12 else 0)) 9
by_shift true = left_short 12 (lit≤ tt)
by_shift false = left_short 0 (lit≤ tt)

-- An instruction that a word spells has a text of at most 100 bytes.
pub text_short : (i : Instruction) (word : ℕ) → Spells i word → Short (texts.text i) 100
text_short (AddSubImmediate i) word h =
    within (three (add_sub_short i.subtract i.set_flags) (destination_short i.set_flags i.width i.rd h.word_of.in_range.1.1.1.1.1.1.1.0) (or_sp_short i.width i.rn h.word_of.in_range.1.1.1.1.1.1.0) (number_short i.imm12 ⊕ by_shift i.shifted)) (lit≤ tt)
text_short (LogicalImmediate i) word h =
    within (three (logical_short false i.operation) (destination_short (texts.is_ands i.operation) i.width i.rd h.word_of.in_range.1.1.1.1.1.1.1.0) (general_short i.width i.rn h.word_of.in_range.1.1.1.1.1.1.0) (mask_short (mask_if_any i.width i.n i.immr i.imms))) (lit≤ tt)
text_short (MoveWide i) word h =
    within (two (move_wide_short i.kind) (general_short i.width i.rd h.word_of.in_range.1.1.1.1.1.0) (number_short i.imm16 ⊕ left_short (16 * i.hw) (omega (arith, h.word_of.in_range.1.1.1.0)))) (lit≤ tt)
text_short (PcRelative i) word h =
    within (two (either i.page (exact (codes "adrp")) (within (exact (codes "adr")) (lit≤ tt))) (general_short widths.X i.rd h.word_of.in_range.1.1.1.1.0) (from_here_short _)) (lit≤ tt)
text_short (Bitfield i) word h =
    within (four (bitfield_short i.kind) (general_short i.width i.rd h.word_of.in_range.1.1.1.1.1.1.1.0) (general_short i.width i.rn h.word_of.in_range.1.1.1.1.1.1.0) (low_number i.immr (omega (arith, h.word_of.in_range.1.1.1.1.0))) (low_number i.imms (omega (arith, h.word_of.in_range.1.1.1.1.1.0)))) (lit≤ tt)
text_short (LogicalShifted i) word h =
    within (three (logical_short i.invert i.operation) (general_short i.width i.rd h.word_of.in_range.1.1.1.1.1.1.1.1.0) (general_short i.width i.rn h.word_of.in_range.1.1.1.1.1.1.1.0) (general_short i.width i.rm h.word_of.in_range.1.1.1.1.1.0 ⊕ shifted_short i.shift i.amount)) (lit≤ tt)
text_short (AddSubShifted i) word h =
    within (three (add_sub_short i.subtract i.set_flags) (general_short i.width i.rd h.word_of.in_range.1.1.1.1.1.1.1.1.1.0) (general_short i.width i.rn h.word_of.in_range.1.1.1.1.1.1.1.1.0) (general_short i.width i.rm h.word_of.in_range.1.1.1.1.1.1.0 ⊕ shifted_short i.shift i.amount)) (lit≤ tt)
text_short (AddSubExtended i) word h =
    within (four (add_sub_short i.subtract i.set_flags) (destination_short i.set_flags i.width i.rd h.word_of.in_range.1.1.1.1.1.1.1.1.0) (or_sp_short i.width i.rn h.word_of.in_range.1.1.1.1.1.1.1.0) (general_short (texts.extended_width i.width i.extend) i.rm h.word_of.in_range.1.1.1.1.0) (extend_short i.extend ⊕ amount_short i.amount)) (lit≤ tt)
text_short (ConditionalCompare i) word h =
    within (four (either i.compare (exact (codes "ccmp")) (exact (codes "ccmn"))) (general_short i.width i.rn h.word_of.in_range.1.1.1.1.1.1.1.0) (compared_short i.immediate i.width i.rm h.word_of.in_range.1.1.1.0) (low_number i.nzcv (omega (arith, h.word_of.in_range.1.1.1.1.1.1.1.1.1.0))) (condition_short i.condition)) (lit≤ tt)
text_short (ConditionalSelect i) word h =
    within (four (select_short i.invert i.increment) (general_short i.width i.rd h.word_of.in_range.1.1.1.1.1.1.1.1.0) (general_short i.width i.rn h.word_of.in_range.1.1.1.1.1.1.1.0) (general_short i.width i.rm h.word_of.in_range.1.1.1.0) (condition_short i.condition)) (lit≤ tt)
text_short (TwoSource i) word h =
    within (three (two_source_short i.kind) (general_short i.width i.rd h.word_of.in_range.1.1.1.1.1.0) (general_short i.width i.rn h.word_of.in_range.1.1.1.1.0) (general_short i.width i.rm h.word_of.in_range.1.1.0)) (lit≤ tt)
text_short (CountLeadingZeros i) word h =
    within (two (exact (codes "clz")) (general_short i.width i.rd h.word_of.in_range.1.1.1.0) (general_short i.width i.rn h.word_of.in_range.1.1.0)) (lit≤ tt)
text_short (MultiplyAdd i) word h =
    within (four (either i.subtract (exact (codes "msub")) (exact (codes "madd"))) (general_short i.width i.rd h.word_of.in_range.1.1.1.1.1.1.0) (general_short i.width i.rn h.word_of.in_range.1.1.1.1.1.0) (general_short i.width i.rm h.word_of.in_range.1.1.0) (general_short i.width i.ra h.word_of.in_range.1.1.1.1.0)) (lit≤ tt)
text_short (MultiplyHigh i) word h =
    within (three (either i.unsigned (exact (codes "umulh")) (exact (codes "smulh"))) (general_short widths.X i.rd h.word_of.in_range.1.1.1.1.1.1.0) (general_short widths.X i.rn h.word_of.in_range.1.1.1.1.1.0) (general_short widths.X i.rm h.word_of.in_range.1.1.1.0)) (lit≤ tt)
text_short Nop word h = within (exact _) (lit≤ tt)
text_short (Branch i) word h =
    within (one (either i.link (exact (codes "bl")) (within (exact (codes "b")) (lit≤ tt))) (from_here_short _)) (lit≤ tt)
text_short (ConditionalBranch i) word h =
    within (one (exact (codes "b.") ⊕ condition_short i.condition) (from_here_short _)) (lit≤ tt)
text_short (CompareBranch i) word h =
    within (two (either i.nonzero (exact (codes "cbnz")) (within (exact (codes "cbz")) (lit≤ tt))) (general_short i.width i.rt h.word_of.in_range.1.1.1.1.0) (from_here_short _)) (lit≤ tt)
text_short (TestBranch i) word h =
    within (three (either i.nonzero (exact (codes "tbnz")) (within (exact (codes "tbz")) (lit≤ tt))) (general_short _ i.rt h.word_of.in_range.1.1.1.1.1.0) (low_number i.bit (omega (arith, h.word_of.in_range.0))) (from_here_short _)) (lit≤ tt)
text_short (BranchRegister i) word h =
    within (one (branch_short i.kind) (general_short widths.X i.rn h.word_of.in_range.1.1.1.0)) (lit≤ tt)
text_short (Breakpoint i) word h =
    within (one (exact (codes "brk")) (number_short i.imm16)) (lit≤ tt)
text_short (UnsignedOffset i) word h =
    within (two (access_short false i.transfer i.size) (general_short (names.access_width i.transfer i.size) i.rt h.word_of.in_range.1.1.1.1.1.0) (offset_short i.rn (pos (i.imm12 * 2 ^ size_code i.size)) h.word_of.in_range.1.1.1.1.0)) (lit≤ tt)
text_short (SignedOffset i) word h =
    within (two (access_short (texts.is_unscaled i.mode) i.transfer i.size) (general_short (names.access_width i.transfer i.size) i.rt h.word_of.in_range.1.1.1.1.1.1.1.0) (by_mode_short i.mode i.rn i.imm9 h.word_of.in_range.1.1.1.1.1.1.0)) (lit≤ tt)
text_short (RegisterOffset i) word h =
    within (two (access_short false i.transfer i.size) (general_short (names.access_width i.transfer i.size) i.rt h.word_of.in_range.1.1.1.1.1.1.1.1.1.0) (indexed_short i.rn i.rm i.extend i.scaled (size_code i.size) h.word_of.in_range.1.1.1.1.1.1.1.1.0 h.word_of.in_range.1.1.1.1.0)) (lit≤ tt)
text_short (Ordered i) word h =
    within (two (either i.load (exact (codes "ldar")) (exact (codes "stlr")) ⊕ size_short transfers.Load i.size) (general_short (names.access_width transfers.Load i.size) i.rt h.word_of.in_range.1.1.1.1.1.0) (offset_short i.rn (pos 0) h.word_of.in_range.1.1.1.1.0)) (lit≤ tt)
text_short (Pair i) word h =
    within (three (either i.load (exact (codes "ldp")) (exact (codes "stp"))) (general_short i.width i.rt h.word_of.in_range.1.1.1.1.1.1.1.0) (general_short i.width i.rt2 h.word_of.in_range.1.1.1.1.1.0) (by_pair_mode_short i.mode i.rn (i.imm7 *ℤ texts.pair_bytes i.width) h.word_of.in_range.1.1.1.1.1.1.0)) (lit≤ tt)
