use Rattle.lfi_sequence.proofs.Comes.{some_come, come_once}
use Rattle.lfi_sequence.proofs.delivery.one_come.Goals as goal

pub returns-clause-some : goal.returns-clause-some
returns-clause-some c = some_come

pub returns-clause-one : goal.returns-clause-one
returns-clause-one c = come_once
