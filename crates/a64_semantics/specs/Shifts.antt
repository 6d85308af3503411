-- Shifted and extended operands. Source: the Arm manual, `ShiftReg` and `ExtendReg` in its shared pseudocode.
use Rattle.std.specs.Prelude.{ℕ, ◌*◌, ◌/◌, ◌%◌, ◌^◌}
use Rattle.std.specs.Int.{cast_signed, int_shr, w8, w16, w32}
use Rattle.a64_word.specs.declared.operands.Width.{Width}
use Rattle.a64_word.specs.declared.operands.Shift.{Shift}
use Rattle.a64_word.specs.declared.operands.Shift.TheVariants as shifts
use Rattle.a64_word.specs.declared.operands.Extend.{Extend}
use Rattle.a64_word.specs.declared.operands.Extend.TheVariants as extends
use Rattle.a64_word.specs.Operands.{data_size}
use Rattle.a64_word.specs.Bitmask.{rotated_right}
use Rattle.a64_semantics.specs.Numbers.{operand, signed, unsigned}

-- x shifted or rotated by less than its width; ASR divides the signed value and rounds down
abbrev pub shifted : Width → Shift → ℕ → ℕ → ℕ
shifted width shifts.Lsl x by = x * 2 ^ by % 2 ^ data_size width
shifted width shifts.Lsr x by = x / 2 ^ by
shifted width shifts.Asr x by = unsigned width (int_shr (signed width x) by)
shifted width shifts.Ror x by = rotated_right (data_size width) x by

-- the low 8, 16, 32 or 64 bits of what a register holds, but no more than the width has, zero- or sign-extended
abbrev pub extended : Width → Extend → ℕ → ℕ
extended width extends.Uxtb held = held % 2 ^ 8
extended width extends.Uxth held = held % 2 ^ 16
extended width extends.Uxtw held = held % 2 ^ 32
extended width extends.Sxtb held = unsigned width (cast_signed w8 (held % 2 ^ 8))
extended width extends.Sxth held = unsigned width (cast_signed w16 (held % 2 ^ 16))
extended width extends.Sxtw held = unsigned width (cast_signed w32 (held % 2 ^ 32))
extended width extend held = operand width held

-- then shifted left
abbrev pub extended_operand : Width → Extend → ℕ → ℕ → ℕ
extended_operand width extend held by = extended width extend held * 2 ^ by % 2 ^ data_size width
