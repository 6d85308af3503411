-- Instructions that only compute, into a register that a mend may write.
use Rattle.std.specs.Prelude.{ℕ, ◌==◌, ◌||◌, ◌&&◌, not, Bool, true, false}
use Rattle.a64_word.specs.declared.instruction.Instruction.{Instruction}
use Rattle.a64_word.specs.declared.instruction.Instruction.TheVariants as instructions
use Rattle.a64_word.specs.declared.operands.Width.{Width}
use Rattle.a64_word.specs.declared.operands.Width.TheVariants as widths
use Rattle.lfi_rules.specs.Guard.{is_x}
use Rattle.lfi_rules.specs.Registers as registers
use Rattle.lfi_mends.specs.Registers.{is_reserved}

-- a register that isn't reserved, or x22 as a W register
abbrev pub may_compute : Width → ℕ → Bool
may_compute width register = not (is_reserved register) || (register == registers.offset && not (is_x width))

-- an instruction that computes such a register, and no sp; or flags alone
abbrev pub is_computing : Instruction → Bool
is_computing (instructions.AddSubImmediate i) = may_compute i.width i.rd && not (i.rd == 31)
is_computing (instructions.LogicalImmediate i) = may_compute i.width i.rd && not (i.rd == 31)
is_computing (instructions.MoveWide i) = may_compute i.width i.rd
is_computing (instructions.Bitfield i) = may_compute i.width i.rd
is_computing (instructions.LogicalShifted i) = may_compute i.width i.rd
is_computing (instructions.AddSubShifted i) = may_compute i.width i.rd
is_computing (instructions.AddSubExtended i) = may_compute i.width i.rd && not (i.rd == 31)
is_computing (instructions.ConditionalCompare i) = true
is_computing (instructions.ConditionalSelect i) = may_compute i.width i.rd
is_computing (instructions.TwoSource i) = may_compute i.width i.rd
is_computing (instructions.CountLeadingZeros i) = may_compute i.width i.rd
is_computing (instructions.MultiplyAdd i) = may_compute i.width i.rd
is_computing (instructions.MultiplyHigh i) = may_compute widths.X i.rd
is_computing _ = false
