use Rattle.std.proofs.Common.{refl}
use Rattle.lfi_confinement.specs.Moves.{escape}
use Rattle.lfi_confinement.proofs.edges.escapes_at_the_edges.Goals as goal

pub returns-clause-reached : goal.returns-clause-reached
returns-clause-reached c c' s moves = (s, refl, record { move = escape; moves = moves; leads = tt })
