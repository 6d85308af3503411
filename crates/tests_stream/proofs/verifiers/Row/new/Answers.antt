use Rattle.std.proofs.Common.{rules, arith, subst, sym}
use Rattle.lfi_sequence.specs.Handed.{AreLanes}
use Rattle.lfi_sequence.proofs.Rows.{new_row_of_lanes}
use Rattle.tests_stream.proofs.Given.{brought, row_given, take_given}
use Rattle.tests_stream.proofs.verifiers.Row.new.Goals as goal

pub invariant_of-result : goal.invariant_of-result
invariant_of-result g c =
    let puts = brought _ c.new.result c.expect-intake.result c.expect-intake.ensures c.new.ensures.puts in
    let takes = brought _ c.new.result c.expect-intake.result c.expect-intake.ensures c.new.ensures.takes in
    let made = c.expect-lanes.result in
    let are = brought _ c.new-2.result made c.expect-lanes.ensures c.new-2.ensures in
    let row = c.swap_remove-2.result in
    let take = c.swap_remove-5.result in
    let long = are.lanes in
    record {
      intakes = search rules;
      passes = subst (λ l. AreLanes made.lanes.items l) (sym c.new-verifier.ensures.lanes) (new_row_of_lanes made.lanes.items 0 row.items long (row_given made.lanes.items 1 made.puts.items row are.puts (omega arith) c.swap_remove-2.ensures.value)).0;
      takes = take_given made.lanes.items made.takes.items 3 take are.takes (omega (arith, long)) c.swap_remove-5.ensures.value;
    }
