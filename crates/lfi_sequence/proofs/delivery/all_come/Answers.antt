use Rattle.lfi_sequence.proofs.Chain.{permuted_come}
use Rattle.lfi_sequence.proofs.delivery.all_come.Goals as goal

pub returns : goal.returns
returns c = permuted_come
