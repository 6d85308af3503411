use Rattle.lfi_stream.proofs.OneText.{one_text}
use Rattle.lfi_stream.proofs.laws.one_cut.Goals as goal

pub returns : goal.returns
returns c = one_text
