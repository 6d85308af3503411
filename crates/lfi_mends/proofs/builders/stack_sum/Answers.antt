use Rattle.lfi_mends.proofs.Standing.{stack_stands}
use Rattle.lfi_mends.proofs.builders.stack_sum.Goals as goal

pub returns-clause-stands : goal.returns-clause-stands
returns-clause-stands c = λ profile. rw (c.new.ensures, c.new-2.ensures, c.new-3.ensures) (stack_stands profile)
