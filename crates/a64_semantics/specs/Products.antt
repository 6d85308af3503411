-- Products, and quotients rounded toward zero. Source: the Arm manual, C6.2, SMULH, UMULH, SDIV and UDIV.
use Rattle.std.specs.Prelude.{ℕ, ◌*◌, ◌/◌, ◌^◌, ◌*ℤ◌, ◌==◌, int_div, if◌then◌else◌}
use Rattle.std.specs.Int.{cast_unsigned, w128}
use Rattle.a64_word.specs.declared.operands.Width.{Width}
use Rattle.a64_word.specs.declared.operands.Width.TheVariants as widths
use Rattle.a64_semantics.specs.Numbers.{signed, unsigned}

-- the upper 64 bits of the 128 bits of the product
abbrev pub high_product : ℕ → ℕ → ℕ
high_product x y = x * y / 2 ^ 64

-- the upper 64 bits of a signed product
abbrev pub signed_high_product : ℕ → ℕ → ℕ
signed_high_product x y = cast_unsigned w128 (signed widths.X x *ℤ signed widths.X y) / 2 ^ 64

-- 0 for a divisor of 0
abbrev pub quotient : ℕ → ℕ → ℕ
quotient x y = if y == 0 then 0 else x / y

-- the least value divided by -1 is the least value
abbrev pub signed_quotient : Width → ℕ → ℕ → ℕ
signed_quotient width x y = if y == 0 then 0 else unsigned width (int_div (signed width x) (signed width y))
