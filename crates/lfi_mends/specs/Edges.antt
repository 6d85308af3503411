-- A state, and instructions, at which it is told what it comes to that a mend keeps the rules and does the same.
use Rattle.std.specs.Prelude.{ℕ, ◌^◌, true, false, pos, replicate}
use Rattle.a64_word.specs.declared.instruction.Instruction.{Instruction}
use Rattle.a64_word.specs.declared.instruction.Instruction.TheVariants.{UnsignedOffset, SignedOffset, RegisterOffset, Pair, Ordered, AddSubImmediate, BranchRegister}
use Rattle.a64_word.specs.declared.operands.Transfer.{Transfer}
use Rattle.a64_word.specs.declared.operands.Transfer.TheVariants.{Load}
use Rattle.a64_word.specs.declared.operands.IndexMode.{IndexMode}
use Rattle.a64_word.specs.declared.operands.IndexExtend.TheVariants.{Lsl}
use Rattle.a64_word.specs.declared.operands.PairMode.{PairMode}
use Rattle.a64_word.specs.declared.operands.BranchKind.TheVariants.{Br}
use Rattle.a64_word.specs.declared.operands.Size.TheVariants.{Double}
use Rattle.a64_word.specs.declared.operands.Width.TheVariants.{X}
use Rattle.lfi_mends.specs.Outcomes.{State}

-- all registers hold where slot 0 begins, and each byte is 7
abbrev pub at_the_base : State
at_the_base = record { registers = record { x = replicate 31 (2 ^ 32); sp = 2 ^ 32; pc = 2 ^ 32; nzcv = 0 }; memory = λ place. 7 }

-- LDR or STR of 64 bits, of a register, at [X1]
abbrev pub moves_at_x1 : Transfer → (rt : ℕ) → Instruction
moves_at_x1 transfer rt = UnsignedOffset (record { size = Double; transfer = transfer; imm12 = 0; rn = 1; rt = rt })

-- ADD of 1 to a register of 64 bits, into another one
abbrev pub adds_one : (rn rd : ℕ) → Instruction
adds_one rn rd = AddSubImmediate (record { width = X; subtract = false; set_flags = false; shifted = false; imm12 = 1; rn = rn; rd = rd })

-- CMP SP, #0
abbrev pub sets_flags : Instruction
sets_flags = AddSubImmediate (record { width = X; subtract = true; set_flags = true; shifted = false; imm12 = 0; rn = 31; rd = 31 })

-- BR, through a register
abbrev pub goes_to : (rn : ℕ) → Instruction
goes_to rn = BranchRegister (record { kind = Br; rn = rn })

-- LDR of X0 at a base and 8 bytes above it, which may become the base
abbrev pub loads_signed : IndexMode → (rn : ℕ) → Instruction
loads_signed mode rn = SignedOffset (record { size = Double; transfer = Load; mode = mode; imm9 = pos 8; rn = rn; rt = 0 })

-- LDP of X0 and another register at a base and 16 bytes above it, which may become the base
abbrev pub loads_pair : PairMode → (rn rt2 : ℕ) → Instruction
loads_pair mode rn rt2 = Pair (record { width = X; load = true; mode = mode; imm7 = pos 2; rt2 = rt2; rn = rn; rt = 0 })

-- LDAR of 64 bits, at [X1]
abbrev pub acquires : (rt : ℕ) → Instruction
acquires rt = Ordered (record { size = Double; load = true; rn = 1; rt = rt })

-- LDR of X0 at [X1] and an index of 64 bits
abbrev pub loads_indexed : Instruction
loads_indexed = RegisterOffset (record { size = Double; transfer = Load; rm = 3; extend = Lsl; scaled = true; rn = 1; rt = 0 })
