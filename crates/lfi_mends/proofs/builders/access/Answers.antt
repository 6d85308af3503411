use Rattle.std.proofs.Common.{rules}
use Rattle.lfi_mends.proofs.Standing.{access_stands}
use Rattle.lfi_mends.proofs.builders.access.Goals as goal

pub returns-clause-stands : goal.returns-clause-stands
returns-clause-stands c = λ profile. rw c.new.ensures (access_stands profile c.args.size c.args.transfer c.args.index c.args.moved c.requires.legal (search rules) (search rules) c.requires.free).0
