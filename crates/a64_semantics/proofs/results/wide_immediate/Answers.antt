use Rattle.a64_semantics.proofs.Fields.{is_placed}
use Rattle.a64_semantics.proofs.results.wide_immediate.Goals as goal

pub returns-clause-value : goal.returns-clause-value
returns-clause-value c =
    let placed = is_placed c.args.width c.args.imm16 c.args.place c.from.result c.ranges.imm16.fits c.requires c.from.ensures in
    placed.value

pub returns-clause-place : goal.returns-clause-place
returns-clause-place c =
    let placed = is_placed c.args.width c.args.imm16 c.args.place c.from.result c.ranges.imm16.fits c.requires c.from.ensures in
    placed.multiple

pub returns-clause-below : goal.returns-clause-below
returns-clause-below c =
    let placed = is_placed c.args.width c.args.imm16 c.args.place c.from.result c.ranges.imm16.fits c.requires c.from.ensures in
    placed.below

pub returns-clause-within : goal.returns-clause-within
returns-clause-within c =
    let placed = is_placed c.args.width c.args.imm16 c.args.place c.from.result c.ranges.imm16.fits c.requires c.from.ensures in
    placed.within
