use Rattle.lfi_stream.proofs.Places.{next_place}
use Rattle.lfi_stream.proofs.laws.next_place.Goals as goal

pub returns : goal.returns
returns c = next_place
