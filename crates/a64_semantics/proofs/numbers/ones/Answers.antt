use Rattle.a64_semantics.proofs.Bits.{ones_are}
use Rattle.a64_semantics.proofs.numbers.ones.Goals as goal

pub returns : goal.returns
returns c = ones_are c.args.count c.requires.some c.requires.most
