use Rattle.std.proofs.Common.{rules}
use Rattle.lfi_mends.proofs.Standing.{pair_stands}
use Rattle.lfi_mends.proofs.builders.pair.Goals as goal

pub returns-clause-stands : goal.returns-clause-stands
returns-clause-stands c = λ profile. rw c.new.ensures (pair_stands profile c.args.width c.args.load c.args.second c.args.first (search rules) (search rules) c.requires.free c.requires.apart).0
