use Rattle.std.proofs.Common.{rules}
use Rattle.lfi_mends.proofs.Standing.{link_access_stands}
use Rattle.lfi_mends.proofs.builders.link_access.Goals as goal

pub returns-clause-stands : goal.returns-clause-stands
returns-clause-stands c = λ profile. rw (c.new.ensures, c.new-2.ensures) (link_access_stands profile c.args.index (search rules))
