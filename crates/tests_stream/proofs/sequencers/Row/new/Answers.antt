use Rattle.std.proofs.Common.{rules, ap, ◌∙◌, arith}
use Rattle.lfi_board.specs.Known.{sequencer_board}
use Rattle.tests_stream.proofs.Given.{brought}
use Rattle.tests_stream.proofs.Seats.{seat_on}
use Rattle.tests_stream.proofs.sequencers.Row.new.Goals as goal

pub invariant_of-result : goal.invariant_of-result
invariant_of-result g c =
    let made = c.expect-board.result in
    let seats = brought _ c.new.result made c.expect-board.ensures c.new.ensures.sequencers in
    let seat = c.swap_remove-of in
    let on = seat_on made.0 1 0 3 made.1.sequencers.items seat.result seats.1 (omega (arith, seats.0)) in
    let has = brought _ c.new-made.result c.expect.result c.expect.ensures c.new-made.ensures.seat in
    record { seats = (search rules, ap sequencer_board has ∙ (ap sequencer_board seat.ensures.value ∙ on)); passes = search rules }
