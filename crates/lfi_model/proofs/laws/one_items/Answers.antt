use Rattle.lfi_model.proofs.OneText.{same_items, same_fault, same_strays}
use Rattle.lfi_model.proofs.laws.one_items.Goals as goal

pub returns-clause-items : goal.returns-clause-items
returns-clause-items c = same_items

pub returns-clause-fault : goal.returns-clause-fault
returns-clause-fault c = same_fault

pub returns-clause-strays : goal.returns-clause-strays
returns-clause-strays c = same_strays
