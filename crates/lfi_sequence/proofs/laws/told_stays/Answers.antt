use Rattle.lfi_sequence.proofs.Steps.{told_stays}
use Rattle.lfi_sequence.proofs.laws.told_stays.Goals as goal

pub returns : goal.returns
returns c = told_stays
