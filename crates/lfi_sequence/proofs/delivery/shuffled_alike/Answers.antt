use Rattle.lfi_sequence.proofs.Shuffles.{shuffled_alike}
use Rattle.lfi_sequence.proofs.delivery.shuffled_alike.Goals as goal

pub returns : goal.returns
returns c = shuffled_alike
