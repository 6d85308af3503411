use Rattle.std.proofs.Common.{rules, refl}
use Rattle.a64_word.specs.declared.operands.BranchKind.TheVariants as kinds
use Rattle.lfi_mends.proofs.Standing.{branch_stands}
use Rattle.lfi_mends.proofs.builders.ret.Goals as goal

pub returns-clause-stands : goal.returns-clause-stands
returns-clause-stands c = λ profile. rw c.new.ensures (branch_stands profile kinds.Ret 30 (search rules) refl)
