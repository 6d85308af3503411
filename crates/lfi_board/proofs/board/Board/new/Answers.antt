use Rattle.std.proofs.Common.{rules, ◌≡◌, refl, sym, ◌∙◌}
use Rattle.lfi_board.proofs.Keeps.{opens}
use Rattle.lfi_board.proofs.Fresh.{zeros, new_on, new_present}
use Rattle.lfi_board.proofs.board.Board.new.Goals as goal

pub of_words-requires : goal.of_words-requires
of_words-requires c = opens _ _ c.requires.1 refl (zeros 17)

pub returns-clause-all : goal.returns-clause-all
returns-clause-all c =
    let z = c.in_ok-table.table.shared.table_id in let n = c.in_ok-table.table.shared.key in let k = c.args.receivers in let row = c.receiver_seats.result in let key : c.in_ok-table.table.shared.key ≡ c.args.receivers = search rules in (new_on z n k row c.receiver_seats.ensures, new_present z n k row c.receiver_seats.ensures ∙ sym key)
