use Rattle.lfi_sequence.proofs.Chain.{arrives, nothing_arrives}
use Rattle.lfi_sequence.proofs.delivery.all_arrives.Goals as goal

pub returns-clause-claimed : goal.returns-clause-claimed
returns-clause-claimed c = arrives

pub returns-clause-unused : goal.returns-clause-unused
returns-clause-unused c = nothing_arrives
