-- Registers as operands, and results that are written to them. Source: the Arm manual, B1.2 "Registers in AArch64
-- state", and C6.2 for number 31.
use Rattle.std.specs.Prelude.{ℕ, ◌%◌, ◌^◌, ◌==◌, if◌then◌else◌, List, [], ◌∷◌, slice_index, slice_set}
use Rattle.a64_word.specs.declared.operands.Width.{Width}
use Rattle.a64_word.specs.declared.operands.Width.TheVariants as widths
use Rattle.a64_effects.specs.Uses.{Use}
use Rattle.a64_semantics.specs.declared.registers.Registers.{Registers}

-- Register n as an operand, where number 31 is zr. There are 31 of them, so that number 31 lies past the last and reads 0.
abbrev pub x_at : Registers → ℕ → ℕ
x_at r n = slice_index r.x n

-- register n as an operand, where number 31 is sp
abbrev pub x_or_sp_at : Registers → ℕ → ℕ
x_or_sp_at r n = if n == 31 then r.sp else x_at r n

-- how many values a register has, as W or as X
abbrev pub modulus : Width → ℕ
modulus = elim [ widths.W ↦ 2 ^ 32 | widths.X ↦ 2 ^ 64 ]

-- the lowest bits of a value, 32 of them or 64
abbrev pub low_bits : Width → ℕ → ℕ
low_bits width value = value % modulus width

-- a result, and the register that it is written to: number 31 is sp here
pub record Write : Type 0 where
  pub place : Use
  pub value : ℕ

-- A result written as W clears the upper half.
abbrev pub put : Write → Registers → Registers
put write r =
    let value = low_bits write.place.width write.value in
    if write.place.register == 31 then record r { sp = value } else record r { x = slice_set r.x write.place.register value }

-- results, written one after another
abbrev pub put_all : List Write → Registers → Registers
put_all [] r = r
put_all (write ∷ writes) r = put_all writes (put write r)

-- One more result, where number 31 is zr: it is lost there.
abbrev pub to_general : ℕ → Width → ℕ → List Write → List Write
to_general n width value writes =
    if n == 31 then writes else record { place = record { register = n; width = width }; value = value } ∷ writes

-- One more result, where number 31 is sp.
abbrev pub to_or_sp : ℕ → Width → ℕ → List Write → List Write
to_or_sp n width value writes = record { place = record { register = n; width = width }; value = value } ∷ writes
