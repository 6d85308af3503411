use Rattle.lfi_stream.proofs.Wholes.{loaded}
use Rattle.lfi_stream.proofs.laws.one_outcome.Goals as goal

pub returns : goal.returns
returns c = loaded
