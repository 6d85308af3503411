use Rattle.std.proofs.Common.{rules}
use Rattle.lfi_mends.proofs.Standing.{ordered_stands}
use Rattle.lfi_mends.proofs.builders.ordered.Goals as goal

pub returns-clause-stands : goal.returns-clause-stands
returns-clause-stands c = rw c.new.ensures (ordered_stands c.args.size c.args.load c.args.moved (search rules) c.requires.free).0
