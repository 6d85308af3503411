use Rattle.std.proofs.Common.{ap₂, ◌∙◌, bit_or}
use Rattle.a64_semantics.proofs.Fields.{joined}
use Rattle.a64_semantics.proofs.bitfields.inserted.Goals as goal

pub returns : goal.returns
returns c =
    ap₂ (λ high low. bit_or (bit_or high c.args.field) low) c.high_bits.ensures c.low_bits.ensures
    ∙ joined c.args.low c.args.high c.args.field c.args.old c.requires.order c.requires.place c.requires.below
