use Rattle.lfi_mends.proofs.Standing.{link_ordered_stands}
use Rattle.lfi_mends.proofs.builders.link_ordered.Goals as goal

pub returns-clause-stands : goal.returns-clause-stands
returns-clause-stands c = rw (c.new.ensures, c.new-2.ensures) link_ordered_stands
