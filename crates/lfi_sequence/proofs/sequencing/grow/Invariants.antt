use Rattle.std.proofs.Common.{◌≡◌, ◌≤◌, ◌-◌, ◌+◌, ◌⊎◌, ℕ, None, get_or, length}
use Rattle.std.specs.Prelude.{vec_capacity}
use Rattle.lfi_sequence.proofs.sequencing.grow.Given as goal

abbrev pub invariant-loop-table : goal.invariant-loop-table
invariant-loop-table l = record {
  most : (length l.table.items ≡ length l.fn.table.items) ⊎ (length l.table.items ≤ l.place + 1);
  same : (k : ℕ) → get_or l.table.items k None ≡ get_or l.fn.table.items k None;
  room : vec_capacity l.fn.table ≤ vec_capacity l.table;
}

abbrev pub decreases-loop-table : goal.decreases-loop-table
decreases-loop-table l = (l.place + 1) - length l.table.items
