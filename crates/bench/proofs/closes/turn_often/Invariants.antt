use Rattle.std.proofs.Common.{◌≡◌}
use Rattle.lfi_board.specs.Known.{board_id, board_of}
use Rattle.lfi_receive.specs.Receivers.{pass_of, seat_of}
use Rattle.bench.proofs.closes.turn_often.Given as goal

abbrev pub invariant-loop : goal.invariant-loop
invariant-loop l = record {
  part : (pass_of l.receiver).queue ≡ l.intake;
  board : board_of (seat_of l.receiver) ≡ board_id l.board;
}
