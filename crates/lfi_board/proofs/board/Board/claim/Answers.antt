use Rattle.std.proofs.Common.{rules}
use Rattle.lfi_board.proofs.Keeps.{claims_keeps}
use Rattle.lfi_board.proofs.board.Board.claim.Goals as goal

pub compare_exchange-found-requires : goal.compare_exchange-found-requires
compare_exchange-found-requires c = (c.requires.board, search rules, claims_keeps _ _ _ _ _ c.args.seat.now.one.0 c.index-place.ensures.range c.args.seat.now.receives)
