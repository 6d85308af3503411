use Rattle.lfi_mends.proofs.Standing.{link_guard_stands}
use Rattle.lfi_mends.proofs.builders.link_guard.Goals as goal

pub returns-clause-stands : goal.returns-clause-stands
returns-clause-stands c = λ profile. rw (c.new-link.ensures, c.new.ensures) (link_guard_stands profile)
