-- Bytes of a memory as numbers, the lowest byte first. A memory is the byte at each address.
use Rattle.std.specs.Prelude.{ℕ, zero, suc, ◌+◌, ◌*◌, ◌/◌, ◌%◌, ◌==◌, if◌then◌else◌, List, [], ◌∷◌}

-- the number that `bytes` bytes from an address on spell, the lowest first
abbrev pub number_at : (memory : ℕ → ℕ) → (bytes address : ℕ) → ℕ
number_at memory zero address = 0
number_at memory (suc bytes) address = memory address + 256 * number_at memory bytes (address + 1)

-- the lowest bytes of a number
abbrev pub low_bytes : (bytes : ℕ) → ℕ → List ℕ
low_bytes zero value = []
low_bytes (suc bytes) value = (value % 256) ∷ low_bytes bytes (value / 256)

-- the memory after bytes were written from an address on, one after another
abbrev pub written : (memory : ℕ → ℕ) → (address : ℕ) → List ℕ → ℕ → ℕ
written memory address [] at = memory at
written memory address (byte ∷ bytes) at = written (λ other. if other == address then byte else memory other) (address + 1) bytes at
