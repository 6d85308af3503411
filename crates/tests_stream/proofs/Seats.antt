-- The sequencers' seats of a new board are of that board.
use Rattle.std.proofs.Common.{◌≡◌, ℕ, zero, suc, ◌<◌, List, [], ◌∷◌, length, slice_index_or, arith}
use Rattle.lfi_board.specs.declared.board.Board.{Board}
use Rattle.lfi_board.specs.declared.seats.SequencerSeat.{SequencerSeat}
use Rattle.lfi_board.specs.Known.{board_id, sequencer_board}
use Rattle.lfi_board.specs.Rows.{NewSequencers}

pub seat_on : (b : Board) (n i k : ℕ) (seats : List SequencerSeat) (other : SequencerSeat) → NewSequencers (board_id b) n i seats → k < length seats → sequencer_board (slice_index_or seats k other) ≡ board_id b
seat_on b n i k [] other h below = absurd (omega arith)
seat_on b n i zero (seat ∷ seats) other h below = h.0.0
seat_on b n i (suc k) (seat ∷ seats) other h below = seat_on b n (suc i) k seats other h.1 (omega arith)
