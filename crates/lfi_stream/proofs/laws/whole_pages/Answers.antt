use Rattle.lfi_stream.proofs.Paged.{paged}
use Rattle.lfi_stream.proofs.laws.whole_pages.Goals as goal

pub returns : goal.returns
returns c = paged
