use Rattle.lfi_mends.proofs.Standing.{stack_moved_stands}
use Rattle.lfi_mends.proofs.builders.stack_moved.Goals as goal

pub returns-clause-stands : goal.returns-clause-stands
returns-clause-stands c = λ profile. rw (c.new.ensures, c.new-2.ensures) (stack_moved_stands profile c.args.subtract c.args.imm12 c.requires)
