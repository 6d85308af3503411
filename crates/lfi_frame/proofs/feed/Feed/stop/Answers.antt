use Rattle.std.proofs.Common.{refl}
use Rattle.lfi_frame.proofs.Feeding.{stopped}
use Rattle.lfi_frame.proofs.feed.Feed.stop.Goals as goal

pub returns-clause-stands : goal.returns-clause-stands
returns-clause-stands c = λ messages rest stands. stopped c.args.self.now _ c.args.fault messages rest c.requires refl stands
