use Rattle.std.proofs.Common.{rules}
use Rattle.lfi_board.proofs.Keeps.{changes}
use Rattle.lfi_board.proofs.board.Board.change.Goals as goal

pub compare_exchange-found-requires : goal.compare_exchange-found-requires
compare_exchange-found-requires c = (c.requires.board, search rules, changes _ _ _ _ _ c.args.seat.now.one.0 _ c.requires.ended.0 c.requires.ended.1 c.index-place.ensures.range)
