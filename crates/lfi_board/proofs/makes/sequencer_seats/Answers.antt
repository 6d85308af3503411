use Rattle.std.proofs.Common.{rules, ◌≡◌, ◌+◌, length, ◌∙◌, sym, ap, subst}
use Rattle.lfi_board.specs.Knowledge.{knowledge_of, onlooker}
use Rattle.lfi_board.specs.Rows.{NewSequencers}
use Rattle.lfi_board.proofs.Keeps.{sits, first_receivers}
use Rattle.lfi_board.proofs.Fresh.{NewSequencers-push}
use Rattle.lfi_board.proofs.makes.sequencer_seats.Goals as goal

pub load_new_seat-seat-requires : goal.load_new_seat-seat-requires
load_new_seat-seat-requires c = (c.requires, sits _ _)

pub loop-number-preserved : goal.loop-number-preserved
loop-number-preserved c = let z = c.args.top.now.table_id in let n = c.args.top.now.key in let at : c.loop-number.number ≡ 0 + length c.loop-number.seats.items = search rules in (
  search rules,
  subst (NewSequencers z n 0) (sym c.in_ok-push.ensures.items)
      (NewSequencers-push z n 0 _ _ c.loop-number.invariant.1 (c.load_new_seat-seat.ensures.0, c.at-of.ensures ∙ at, ap knowledge_of c.load_new_seat-seat.ensures.2 ∙ ap onlooker (first_receivers n n))),
)
