use Rattle.lfi_machine.proofs.Starting.{held_of, none_of}
use Rattle.lfi_machine.proofs.laws.held_is_not_refused.Goals as goal

pub returns-clause-held : goal.returns-clause-held
returns-clause-held c = λ from r count none. held_of from r count none

pub returns-clause-not_refused : goal.returns-clause-not_refused
returns-clause-not_refused c = λ from r held. none_of from r held
