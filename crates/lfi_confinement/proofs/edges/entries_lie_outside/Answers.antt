use Rattle.lfi_confinement.proofs.Places.{entry_outside}
use Rattle.lfi_confinement.proofs.edges.entries_lie_outside.Goals as goal

pub returns : goal.returns
returns c = entry_outside
