-- Of which instructions the reference implementation tells a result, and what of it stays as it was: C6.2 of the Arm manual.
use Rattle.std.specs.Prelude.{◌≡◌, ℕ, Bool, true, false, ◌||◌, slice_index}
use Rattle.a64_word.specs.declared.instruction.Instruction.{Instruction}
use Rattle.a64_word.specs.declared.instruction.Instruction.TheVariants as instruction
use Rattle.a64_word.specs.declared.operands.Logical.{Logical}
use Rattle.a64_word.specs.declared.operands.Logical.TheVariants.{Ands}
use Rattle.a64_semantics.specs.declared.registers.Registers.{Registers}

-- a sum or difference; a logical operation; and a move, a choice, a count, a product or a quotient
abbrev pub is_sum : Instruction → Bool
is_sum (instruction.AddSubImmediate i) = true
is_sum (instruction.AddSubShifted i) = true
is_sum (instruction.AddSubExtended i) = true
is_sum _ = false

-- a logical operation
abbrev pub is_logical : Instruction → Bool
is_logical (instruction.LogicalImmediate i) = true
is_logical (instruction.LogicalShifted i) = true
is_logical _ = false

-- an instruction that writes a value and no flags
abbrev pub is_value : Instruction → Bool
is_value (instruction.MoveWide i) = true
is_value (instruction.Bitfield i) = true
is_value (instruction.ConditionalSelect i) = true
is_value (instruction.TwoSource i) = true
is_value (instruction.CountLeadingZeros i) = true
is_value (instruction.MultiplyAdd i) = true
is_value (instruction.MultiplyHigh i) = true
is_value _ = false

-- it writes flags alone
abbrev pub compares : Instruction → Bool
compares (instruction.ConditionalCompare i) = true
compares _ = false

-- it computes of registers alone, and writes a register, flags, or both
abbrev pub computes : Instruction → Bool
computes i = (is_sum i || is_logical i) || (is_value i || compares i)

-- it is ANDS
abbrev pub is_ands : Logical → Bool
is_ands = elim [ Ands ↦ true | operation ↦ false ]

-- it sets the flags
abbrev pub sets_flags : Instruction → Bool
sets_flags (instruction.AddSubImmediate i) = i.set_flags
sets_flags (instruction.AddSubShifted i) = i.set_flags
sets_flags (instruction.AddSubExtended i) = i.set_flags
sets_flags (instruction.LogicalImmediate i) = is_ands i.operation
sets_flags (instruction.LogicalShifted i) = is_ands i.operation
sets_flags (instruction.ConditionalCompare i) = true
sets_flags _ = false

-- x0 and the flags after the instruction: each is as it was where the instruction doesn't write it.
pub record Keeps (i : Instruction) (r : Registers) (after : ℕ × ℕ) : Type 0 where
  pub register : compares i ≡ true → after.0 ≡ slice_index r.x 0
  pub flags : sets_flags i ≡ false → after.1 ≡ r.nzcv
