use Rattle.lfi_receive.proofs.Finished.{start_in}
use Rattle.lfi_receive.proofs.laws.knows_its_start.Goals as goal

pub returns : goal.returns
returns c = start_in
