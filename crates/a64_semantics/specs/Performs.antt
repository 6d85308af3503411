-- What a function that carries an instruction out does to the registers.
use Rattle.std.specs.Prelude.{◌≡◌, ℕ, Option}
use Rattle.a64_word.specs.declared.instruction.Instruction.{Instruction}
use Rattle.a64_semantics.specs.declared.flags.Flags.{Flags}
use Rattle.a64_semantics.specs.declared.registers.Registers.{Registers}
use Rattle.a64_semantics.specs.Writes.{held_flags}
use Rattle.a64_semantics.specs.Branches.{following}
use Rattle.a64_semantics.specs.Steps.{registers_after}

-- The instruction is carried out. It reads no memory, so this holds whatever the memory is.
abbrev pub Performs : Instruction → Registers → Registers → Type 0
Performs i old new = (memory : ℕ → ℕ) → new ≡ registers_after i old memory

-- the registers with these flags, where there are any, and at the next word
abbrev pub going_on : Option Flags → Registers → Registers
going_on flags r = record r { pc = following r; nzcv = held_flags flags r }
