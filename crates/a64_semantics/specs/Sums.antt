-- Sums with a carry, and the flags N, Z, C and V. Source: the Arm manual, `AddWithCarry` in its shared pseudocode.
use Rattle.std.specs.Prelude.{ℕ, ℤ, pos, negsuc, ◌+◌, ◌-◌, ◌*◌, ◌/◌, ◌%◌, ◌^◌, ◌+ℤ◌, ◌==◌, nat_le, Bool, false, if◌then◌else◌, Option, Some, None}
use Rattle.a64_word.specs.declared.operands.Width.{Width}
use Rattle.a64_word.specs.Operands.{bit, data_size}
use Rattle.a64_semantics.specs.declared.flags.Flags.{Flags}
use Rattle.a64_semantics.specs.declared.computed.Computed.{Computed}
use Rattle.a64_semantics.specs.Numbers.{complement, signed}

-- x + y + carry, modulo 2 ^ d
abbrev pub sum_of : Width → ℕ → ℕ → ℕ → ℕ
sum_of width x y carry = (x + y + carry) % 2 ^ data_size width

-- the top bit is set
abbrev pub is_negative : Width → ℕ → Bool
is_negative width x = nat_le (2 ^ (data_size width - 1)) x

-- z isn't from -2 ^ (d - 1) to 2 ^ (d - 1) - 1
abbrev pub is_outside : Width → ℤ → Bool
is_outside width (pos n) = nat_le (2 ^ (data_size width - 1)) n
is_outside width (negsuc n) = nat_le (2 ^ (data_size width - 1)) n

-- the flags of the sum x + y + carry
abbrev pub flags_of_sum : Width → ℕ → ℕ → ℕ → Flags
flags_of_sum width x y carry = record {
  negative = is_negative width (sum_of width x y carry);
  zero = sum_of width x y carry == 0;
  carry = nat_le (2 ^ data_size width) (x + y + carry);
  overflow = is_outside width (signed width x +ℤ signed width y +ℤ pos carry);
}

-- the flags of a result that is made bit by bit
abbrev pub flags_of_bits : Width → ℕ → Flags
flags_of_bits width x = record { negative = is_negative width x; zero = x == 0; carry = false; overflow = false }

-- the flags as a number: N is 8, Z is 4, C is 2 and V is 1
abbrev pub number_of_flags : Flags → ℕ
number_of_flags f = 8 * bit f.negative + 4 * bit f.zero + 2 * bit f.carry + bit f.overflow

-- flags by their number
abbrev pub flags_of_number : ℕ → Flags
flags_of_number n = record { negative = n / 8 % 2 == 1; zero = n / 4 % 2 == 1; carry = n / 2 % 2 == 1; overflow = n % 2 == 1 }

-- the second operand of a sum, and the carry: x - y is x, the complement of y, and 1
abbrev pub addend : Width → (subtract : Bool) → ℕ → ℕ
addend width subtract y = if subtract then complement width y else y

-- the flags, where they are set
abbrev pub flags_where : Bool → Flags → Option Flags
flags_where set_flags flags = if set_flags then Some flags else None

-- x + y or x - y, and its flags where they are set
abbrev pub add_sub : Width → (subtract set_flags : Bool) → ℕ → ℕ → Computed
add_sub width subtract set_flags x y =
    let z = addend width subtract y in
    record { value = sum_of width x z (bit subtract); flags = flags_where set_flags (flags_of_sum width x z (bit subtract)) }
