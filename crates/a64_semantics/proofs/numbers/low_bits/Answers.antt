use Rattle.std.proofs.Common.{ap, ◌∙◌, bit_and}
use Rattle.std.proofs.lemmas.Nat.{and_mask}
use Rattle.a64_semantics.proofs.numbers.low_bits.Goals as goal

pub returns : goal.returns
returns c = ap (bit_and c.args.x) c.ones.ensures ∙ and_mask c.args.x c.args.count
