use Rattle.std.proofs.Common.{◌≡◌, ℕ, ◌<◌, false}
use Rattle.lfi_model.specs.Items.{is_going}
use Rattle.lfi_connection.proofs.progress_table.first_going.Given as goal

abbrev pub invariant-loop-number : goal.invariant-loop-number
invariant-loop-number g l = (m : ℕ) → m < l.number → is_going (g.P.ProgressTable.progress_at l.table m) ≡ false
