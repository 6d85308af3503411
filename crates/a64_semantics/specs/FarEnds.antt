-- ADR and ADRP, by their immediates. Source: the Arm manual, C6.2, ADR and ADRP.
use Rattle.std.specs.Prelude.{ℤ, true, false}
use Rattle.a64_word.specs.declared.data_immediate.PcRelative.{PcRelative}

-- ADR X0
abbrev pub adr : (offset : ℤ) → PcRelative
adr offset = record { page = false; offset = offset; rd = 0 }

-- ADRP X0
abbrev pub adrp : (pages : ℤ) → PcRelative
adrp pages = record { page = true; offset = pages; rd = 0 }
