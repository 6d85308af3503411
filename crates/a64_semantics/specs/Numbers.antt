-- The numbers that an operation works on: as many bits as its width has.
use Rattle.std.specs.Prelude.{ℕ, ℤ, ◌+◌, ◌-◌, ◌%◌, ◌^◌}
use Rattle.std.specs.Int.{cast_signed, cast_unsigned, w32, w64}
use Rattle.a64_word.specs.declared.operands.Width.{Width}
use Rattle.a64_word.specs.declared.operands.Width.TheVariants as widths
use Rattle.a64_word.specs.Operands.{data_size}

-- an operand, of what its register holds: of a W form the low 32 bits
abbrev pub operand : Width → ℕ → ℕ
operand widths.W held = held % 2 ^ 32
operand widths.X held = held

-- each bit the other way round
abbrev pub complement : Width → ℕ → ℕ
complement width x = 2 ^ data_size width - 1 - x

-- x - y, modulo 2 ^ d
abbrev pub difference : Width → ℕ → ℕ → ℕ
difference width x y = (x + (2 ^ data_size width - y % 2 ^ data_size width)) % 2 ^ data_size width

-- the number that the bits are as two's complement, and the bits of such a number
abbrev pub signed : Width → ℕ → ℤ
signed = elim [ widths.W ↦ cast_signed w32 | widths.X ↦ cast_signed w64 ]

-- a number as the unsigned one of this width
abbrev pub unsigned : Width → ℤ → ℕ
unsigned = elim [ widths.W ↦ cast_unsigned w32 | widths.X ↦ cast_unsigned w64 ]
