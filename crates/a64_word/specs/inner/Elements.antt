-- The element of a bitmask by its length, which the proofs use: `DecodeBitMasks` of the Arm manual takes it from the highest
-- bit that is set.
use Rattle.std.specs.Prelude.{◌≢◌, ℕ, ◌+◌, ◌-◌, ◌%◌, ◌^◌, ◌<◌, ◌≤◌, Bool}
use Rattle.a64_word.specs.declared.operands.Width.{Width}
use Rattle.a64_word.specs.Operands.{bit, sf}
use Rattle.a64_word.specs.Bitmask.{length_bits}

-- number len is the highest bit of n that is set
pub record IsHighestBit (n len : ℕ) : Type 0 where
  pub at_least : 2 ^ len ≤ n
  pub below : n < 2 ^ (len + 1)

-- The element has 2 ^ len bits, at least 2, and at least one of them is 0; only X has one of 64 bits.
pub record HasElement (width : Width) (n : Bool) (imms len : ℕ) : Type 0 where
  pub highest : IsHighestBit (length_bits n imms) len
  pub not_single : 1 ≤ len
  pub within : bit n ≤ sf width
  pub has_zero : imms % 2 ^ len ≢ 2 ^ len - 1

-- it has one of some length
abbrev pub HasSomeElement : Width → Bool → ℕ → Type 0
HasSomeElement width n imms = (len : ℕ) × HasElement width n imms len
