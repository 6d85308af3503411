-- Moves of a field of bits. Source: the Arm manual, C6.2, SBFM, BFM and UBFM.
use Rattle.std.specs.Prelude.{ℕ, ◌+◌, ◌-◌, ◌*◌, ◌/◌, ◌%◌, ◌^◌, ◌==◌, nat_le, if◌then◌else◌}
use Rattle.a64_word.specs.declared.operands.Width.{Width}
use Rattle.a64_word.specs.declared.operands.BitfieldKind.{BitfieldKind}
use Rattle.a64_word.specs.declared.operands.BitfieldKind.TheVariants as bitfields
use Rattle.a64_word.specs.Operands.{data_size}

-- Where immr <= imms, the bits immr to imms go to place 0; else the bits 0 to imms go to place d - immr.
abbrev pub field_of : (immr imms : ℕ) → ℕ → ℕ
field_of immr imms x = if nat_le immr imms then x / 2 ^ immr % 2 ^ (imms - immr + 1) else x % 2 ^ (imms + 1)

-- the bit at which a field begins in the result
abbrev pub field_place : Width → (immr imms : ℕ) → ℕ
field_place width immr imms = if nat_le immr imms then 0 else data_size width - immr

-- the place after the field's highest bit
abbrev pub field_end : Width → (immr imms : ℕ) → ℕ
field_end width immr imms = if nat_le immr imms then imms - immr + 1 else data_size width - immr + imms + 1

-- the field at its place, and all other bits 0
abbrev pub moved : Width → (immr imms : ℕ) → ℕ → ℕ
moved width immr imms x = field_of immr imms x * 2 ^ field_place width immr imms

-- a number at the bits from low up to high, and the other bits of the old number
abbrev pub inserted : (low high : ℕ) → ℕ → (old : ℕ) → ℕ
inserted low high field old = old / 2 ^ high * 2 ^ high + field + old % 2 ^ low

-- UBFM; SBFM, whose bits above the field are copies of bit imms; BFM, whose other bits are those of the old number
abbrev pub bitfield_move : Width → BitfieldKind → (immr imms : ℕ) → ℕ → (old : ℕ) → ℕ
bitfield_move width bitfields.Ubfm immr imms x old = moved width immr imms x
bitfield_move width bitfields.Sbfm immr imms x old =
    moved width immr imms x + (if x / 2 ^ imms % 2 == 1 then 2 ^ data_size width - 2 ^ field_end width immr imms else 0)
bitfield_move width bitfields.Bfm immr imms x old =
    inserted (field_place width immr imms) (field_end width immr imms) (moved width immr imms x) old
