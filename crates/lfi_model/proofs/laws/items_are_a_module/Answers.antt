use Rattle.lfi_model.proofs.Numbered.{items_numbered, items_end}
use Rattle.lfi_model.proofs.laws.items_are_a_module.Goals as goal

pub returns-clause-numbered : goal.returns-clause-numbered
returns-clause-numbered c = items_numbered

pub returns-clause-ended : goal.returns-clause-ended
returns-clause-ended c = items_end
