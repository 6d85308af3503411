use Rattle.std.proofs.Common.{rules}
use Rattle.lfi_mends.proofs.Standing.{link_pair_stands}
use Rattle.lfi_mends.proofs.builders.link_pair.Goals as goal

pub returns-clause-stands : goal.returns-clause-stands
returns-clause-stands c = λ profile. rw c.new.ensures (link_pair_stands profile c.args.second c.args.first (search rules) (search rules) c.requires.link c.requires.apart).0
