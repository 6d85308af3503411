use Rattle.lfi_model.proofs.Faults.{placed_to_fault, placed_whole}
use Rattle.lfi_model.proofs.laws.longest_beginning.Goals as goal

pub returns-clause-refused : goal.returns-clause-refused
returns-clause-refused c = placed_to_fault

pub returns-clause-whole : goal.returns-clause-whole
returns-clause-whole c = placed_whole
