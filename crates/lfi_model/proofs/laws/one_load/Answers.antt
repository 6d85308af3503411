use Rattle.lfi_model.proofs.OneOutcome.{one_outcome, one_beginning}
use Rattle.lfi_model.proofs.laws.one_load.Goals as goal

pub returns-clause-outcome : goal.returns-clause-outcome
returns-clause-outcome c = one_outcome

pub returns-clause-placed : goal.returns-clause-placed
returns-clause-placed c = one_beginning
