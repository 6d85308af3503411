use Rattle.std.proofs.Common.{rules}
use Rattle.lfi_mends.proofs.Standing.{guard_stands}
use Rattle.lfi_mends.proofs.builders.guard.Goals as goal

pub returns-clause-stands : goal.returns-clause-stands
returns-clause-stands c = λ profile. rw c.new.ensures (guard_stands profile c.args.into c.args.register (search rules) (search rules) c.requires.base c.requires.offset)
