use Rattle.lfi_sequence.proofs.Rows.{lanes_stay}
use Rattle.lfi_sequence.proofs.laws.lanes_stay.Goals as goal

pub returns : goal.returns
returns c = lanes_stay
