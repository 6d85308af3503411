use Rattle.std.proofs.Common.{rules, arith}
use Rattle.lfi_board.proofs.Keeps.{looks}
use Rattle.lfi_board.proofs.board.Board.look.Goals as goal

pub load-found-requires : goal.load-found-requires
load-found-requires c = (c.requires.board, search rules, looks _ _ _ _ _ c.args.seat.now.one.0 (omega (arith, c.index-place.ensures.range)))
