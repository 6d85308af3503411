use Rattle.std.proofs.Common.{◌≡◌, length}
use Rattle.lfi_sequence.specs.Lanes.{AreRows, new_row}
use Rattle.lfi_sequence.proofs.Rows.{HaveCounts}
use Rattle.lfi_sequence.proofs.lanes.Lanes.new.Given as goal

abbrev pub invariant-loop-module : goal.invariant-loop-module
invariant-loop-module l =
    (length l.made.lanes.items ≡ l._module) × HaveCounts l.verifiers l.made.lanes.items
    × AreRows l.made.lanes.items l.verifiers l.made.puts.items × (l.made.takes.items ≡ new_row l.made.lanes.items 0)
