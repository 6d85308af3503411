use Rattle.a64_semantics.proofs.Fields.{goes_up}
use Rattle.a64_semantics.proofs.bitfields.moved.Goals as goal

pub returns-else-immr-imms-clause-value : goal.returns-else-immr-imms-clause-value
returns-else-immr-imms-clause-value c =
    let up = goes_up c.args.width c.args.immr c.args.imms c.args.x c.low_bits-else-immr-imms.result c.bits.result c.if-immr-imms.false c.requires.immr c.low_bits-else-immr-imms.ensures c.bits.ensures in
    up.value

pub returns-else-immr-imms-clause-below : goal.returns-else-immr-imms-clause-below
returns-else-immr-imms-clause-below c =
    let up = goes_up c.args.width c.args.immr c.args.imms c.args.x c.low_bits-else-immr-imms.result c.bits.result c.if-immr-imms.false c.requires.immr c.low_bits-else-immr-imms.ensures c.bits.ensures in
    up.below

pub returns-else-immr-imms-clause-place : goal.returns-else-immr-imms-clause-place
returns-else-immr-imms-clause-place c =
    let up = goes_up c.args.width c.args.immr c.args.imms c.args.x c.low_bits-else-immr-imms.result c.bits.result c.if-immr-imms.false c.requires.immr c.low_bits-else-immr-imms.ensures c.bits.ensures in
    up.place
