use Rattle.std.proofs.Common.{◌≡◌, ◌-◌, [], replicate}
use Rattle.lfi_board.specs.Knowledge.{receiver_knowledge}
use Rattle.lfi_board.specs.Rows.{NewReceivers}
use Rattle.lfi_board.proofs.makes.receiver_seats.Given as goal

abbrev pub invariant-loop-place : goal.invariant-loop-place
invariant-loop-place l = (l.first.table_id ≡ l.top.table_id) × (l.first.me ≡ (replicate (l.count - l.place) (receiver_knowledge l.top.key), [])) × NewReceivers l.top.table_id l.top.key l.place l.seats
