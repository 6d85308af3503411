use Rattle.std.proofs.Common.{◌≡◌, ◌∙◌, length, refl, sym, subst}
use Rattle.lfi_sequence.specs.Lanes.{AreNewLanes}
use Rattle.lfi_stage.proofs.Fresh.{unused_row, row_count, rows_of_new}
use Rattle.lfi_stage.proofs.making.make_placing.Goals as goal

pub make_verifiers-requires-clause-rows : goal.make_verifiers-requires-clause-rows
make_verifiers-requires-clause-rows c =
    let made = c.in_ok-made.made in
    let are = c.in_ok-made.ensures in
    let at : c.len.result ≡ length c.args.takes.items = c.len.ensures ∙ c.args.takes.ok.0 in
    rows_of_new made.lanes.items c.len.result (length c.args.takes.items) made.puts.items are.lanes are.puts (sym at)

pub make_sequencers-requires-clause-count : goal.make_sequencers-requires-clause-count
make_sequencers-requires-clause-count c = row_count c.in_ok-made.made.lanes.items c.in_ok-made.made.takes.items c.in_ok-made.ensures.lanes c.in_ok-made.ensures.takes

pub make_sequencers-requires-clause-takes : goal.make_sequencers-requires-clause-takes
make_sequencers-requires-clause-takes c = unused_row c.in_ok-made.made.lanes.items c.in_ok-made.made.takes.items c.in_ok-made.ensures.takes

pub make_verifiers-requires-clause-seats : goal.make_verifiers-requires-clause-seats
make_verifiers-requires-clause-seats c = c.requires.watchers

pub returns-clause-pool : goal.returns-clause-pool
returns-clause-pool c = c.in_ok-sequencers.ensures.pool

pub returns-clause-made : goal.returns-clause-made
returns-clause-made c =
    let made = c.in_ok-made.made in
    let at : c.len.result ≡ length c.args.takes.items = c.len.ensures ∙ c.args.takes.ok.0 in
    (made, refl, subst (λ n. AreNewLanes n made) at c.in_ok-made.ensures, c.in_ok-verifiers.ensures, c.in_ok-sequencers.ensures.are)
