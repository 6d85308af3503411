use Rattle.lfi_queues.specs.Passes.{items_at}
use Rattle.lfi_stage.specs.Settled.{SettlesBut, Settles}
use Rattle.lfi_stage.specs.inner.Rows.{held_by}
use Rattle.lfi_stage.proofs.Glue.{rows_of_parts, all_takes, settled_but}
use Rattle.lfi_stage.proofs.bring.bring_all.Goals as goal

pub drain_lanes-sequences-requires-clause-takes : goal.drain_lanes-sequences-requires-clause-takes
drain_lanes-sequences-requires-clause-takes g c = λ m s lane at at_lane. (c.requires.parts.sequencers_are m s lane at at_lane).takes

pub drain_intake-requires-clause-takes : goal.drain_intake-requires-clause-takes
drain_intake-requires-clause-takes g c =
    let apart = c.take_apart-takes.result in
    all_takes c.args.intake.now c.args.lanes.now c.args.verifiers.items c.args.sequencers.items c.requires.parts apart.takes apart.rows apart.hands c.take_apart-takes.ensures

pub drain_lanes-sequences-requires-clause-rows : goal.drain_lanes-sequences-requires-clause-rows
drain_lanes-sequences-requires-clause-rows g c =
    let apart = c.take_apart-takes.result in
    rows_of_parts c.args.intake.now c.args.lanes.now c.args.verifiers.items c.args.sequencers.items c.requires.parts apart.takes apart.rows apart.hands c.take_apart-takes.ensures

pub returns-clause-settles : goal.returns-clause-settles
returns-clause-settles g c =
    let apart = c.take_apart-takes.result in
    let drained : SettlesBut (items_at apart.takes) (held_by apart.hands) c.drain_lanes-sequences.result =
    settled_but c.args.intake.now c.args.lanes.now c.args.verifiers.items c.args.sequencers.items c.requires.parts apart.takes apart.rows apart.hands c.take_apart-takes.ensures c.drain_lanes-sequences.result c.drain_lanes-sequences.ensures in
    let carried : Settles (items_at apart.takes) c.carry_hands.new.sequences = c.carry_hands.ensures (items_at apart.takes) drained in
    (items_at c.drain_intake.new.takes, c.drain_intake.ensures.kept, c.drain_intake.ensures.settles carried)
