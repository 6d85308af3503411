use Rattle.std.proofs.Common.{rules, All, ◌∙◌, sym, ap, subst}
use Rattle.std.proofs.lemmas.List.Elements.{All-push}
use Rattle.lfi_board.specs.Knowledge.{knowledge_of, onlooker}
use Rattle.lfi_board.specs.Rows.{IsNewWatcher}
use Rattle.lfi_board.proofs.Keeps.{sits, first_receivers}
use Rattle.lfi_board.proofs.makes.watcher_seats.Goals as goal

pub load_new_seat-seat-requires : goal.load_new_seat-seat-requires
load_new_seat-seat-requires c = (c.requires, sits _ _)

pub loop-preserved : goal.loop-preserved
loop-preserved c = let z = c.args.top.now.table_id in let n = c.args.top.now.key in (
  search rules,
  subst (All (IsNewWatcher z n)) (sym c.in_ok-push.ensures.items)
      (All-push (IsNewWatcher z n) _ _ c.loop.invariant.1 (c.load_new_seat-seat.ensures.0, ap knowledge_of c.load_new_seat-seat.ensures.2 ∙ ap onlooker (first_receivers n n))),
)
