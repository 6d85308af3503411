use Rattle.std.proofs.Common.{◌≡◌, All, vec_len}
use Rattle.lfi_board.specs.Rows.{IsNewWatcher}
use Rattle.lfi_board.proofs.makes.watcher_seats.Given as goal

abbrev pub invariant-loop : goal.invariant-loop
invariant-loop l = (vec_len l.seats ≡ l.counter) × All (IsNewWatcher l.top.table_id l.top.key) l.seats.items
