-- Pairs of W registers that move their base, by rows.
use Rattle.std.specs.Prelude.{ℕ, ◌%◌, Bool, ℤ, ◌∷◌, replicate}
use Rattle.a64_word.specs.declared.instruction.Instruction.{Instruction}
use Rattle.a64_word.specs.declared.instruction.Instruction.TheVariants.{Pair}
use Rattle.a64_word.specs.declared.operands.Width.TheVariants.{W}
use Rattle.a64_word.specs.declared.operands.PairMode.{PairMode}
use Rattle.a64_semantics.specs.declared.registers.Registers.{Registers}

-- LDP or STP W0, W1, with the base X2
abbrev pub narrow_pair : (load : Bool) → PairMode → (imm7 : ℤ) → Instruction
narrow_pair load mode imm7 = Pair (record { width = W; load = load; mode = mode; imm7 = imm7; rt2 = 1; rn = 2; rt = 0 })

-- x0, x1, x2 and pc hold these numbers, and all else is 0
abbrev pub holding : (x0 x1 x2 pc : ℕ) → Registers
holding x0 x1 x2 pc = record { x = x0 ∷ x1 ∷ x2 ∷ replicate 28 0; sp = 0; pc = pc; nzcv = 0 }

-- a memory in which each byte is the lowest byte of its address
abbrev pub by_address : ℕ → ℕ
by_address address = address % 256
