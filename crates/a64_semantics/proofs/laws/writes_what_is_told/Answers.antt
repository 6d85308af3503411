use Rattle.a64_semantics.proofs.Told.{places_told}
use Rattle.a64_semantics.proofs.laws.writes_what_is_told.Goals as goal

pub returns : goal.returns
returns c = places_told
