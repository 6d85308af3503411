use Rattle.std.proofs.Common.{[]}
use Rattle.lfi_sequence.specs.Lanes.{AreRows}
use Rattle.lfi_sequence.proofs.lanes.empty_rows.Given as goal

abbrev pub invariant-loop-row : goal.invariant-loop-row
invariant-loop-row l = AreRows [] l._row l.rows.items
