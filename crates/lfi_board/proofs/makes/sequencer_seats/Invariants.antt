use Rattle.std.proofs.Common.{◌≡◌, vec_len}
use Rattle.lfi_board.specs.Rows.{NewSequencers}
use Rattle.lfi_board.proofs.makes.sequencer_seats.Given as goal

abbrev pub invariant-loop-number : goal.invariant-loop-number
invariant-loop-number l = (vec_len l.seats ≡ l.number) × NewSequencers l.top.table_id l.top.key 0 l.seats.items
