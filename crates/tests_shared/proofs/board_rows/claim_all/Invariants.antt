use Rattle.std.proofs.Common.{◌≡◌, length}
use Rattle.lfi_board.specs.Known.{board_id, board_of}
use Rattle.tests_shared.proofs.board_rows.claim_all.Given as goal

abbrev pub invariant-loop-step : goal.invariant-loop-step
invariant-loop-step l = (board_of l.seat ≡ board_id l.board) × (length l.mine ≡ 16)
