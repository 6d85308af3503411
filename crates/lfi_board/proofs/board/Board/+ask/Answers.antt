use Rattle.std.proofs.Common.{rules, set, ◌++◌, sym, ap, subst, ◌∙◌}
use Rattle.lfi_board.specs.Rows.{AllOn, AreSame}
use Rattle.lfi_board.specs.Known.{board_id}
use Rattle.lfi_board.specs.Knowledge.{knowledge_of}
use Rattle.lfi_board.specs.inner.Rule.{first_of, rest_of}
use Rattle.lfi_board.proofs.Keeps.{asks, splits_whole, splits_first, joins_push}
use Rattle.lfi_board.proofs.Gather.{on_at, on_without, all_same, same_put}
use Rattle.lfi_board.proofs.board.Board.+ask.Goals as goal

pub load-requires : goal.load-requires
load-requires t c = (c.requires.board.0, search rules, asks _ _ _ _ _ c.index-place.ensures.range)

pub returns-then-at-seats-clause-same : goal.returns-then-at-seats-clause-same
returns-then-at-seats-clause-same t c = (search rules, search rules, all_same c.args.seats.now)

pub ask-requires : goal.ask-requires
ask-requires t c =
    let on = subst (λ x. AllOn (board_id c.args.self.now) (set c.args.seats.now c.args.at x)) (sym c.take.ensures.after) (on_without (board_id c.args.self.now) c.args.seats.now c.args.at c.requires.board.2) in
    (search rules, ((c.requires.board.0, c.requires.board.1, on), search rules))

pub split_seat-known-requires : goal.split_seat-known-requires
split_seat-known-requires t c =
    let held_on = on_at (board_id c.args.self.now) c.args.seats.now c.args.at c.index-seats-at.result c.in-Some.held (search rules) (sym c.in-Some.ensures.value) c.requires.board.2 in
    (held_on, search rules, splits_whole _ _ _)

pub join_seat-requires : goal.join_seat-requires
join_seat-requires t c =
    let held_on = on_at (board_id c.args.self.now) c.args.seats.now c.args.at c.index-seats-at.result c.in-Some.held (search rules) (sym c.in-Some.ensures.value) c.requires.board.2 in
    (c.requires.board.0, c.split_seat-known.ensures.3 ∙ held_on, ap (λ m. m.1) c.split_seat-known.ensures.4, search rules, joins_push _ _ _ _ _)

pub ask-found-requires : goal.ask-found-requires
ask-found-requires t c =
    let on = subst (λ x. AllOn (board_id c.args.self.now) (set c.args.seats.now c.args.at x)) (sym c.take.ensures.after) (on_without (board_id c.args.self.now) c.args.seats.now c.args.at c.requires.board.2) in
    (search rules, ((c.join_seat.ensures.0 ∙ c.requires.board.0, ap (λ m. m.1) c.join_seat.ensures.2 ∙ c.requires.board.1, on), search rules))

pub split_seat-back-requires : goal.split_seat-back-requires
split_seat-back-requires t c = (c.ask-found.ensures.same.0 ∙ c.join_seat.ensures.0 ∙ c.requires.board.0, search rules, splits_first _ _ _)

pub join_seat-requires-in-Some : goal.join_seat-requires-in-Some
join_seat-requires-in-Some t c =
    let held_on = on_at (board_id c.args.self.now) c.args.seats.now c.args.at c.index-seats-at.result c.in-Some.held (search rules) (sym c.in-Some.ensures.value) c.requires.board.2 in (
      c.split_seat-known.ensures.0 ∙ held_on,
      c.split_seat-back.ensures.3 ∙ c.ask-found.ensures.same.0 ∙ c.join_seat.ensures.0 ∙ c.requires.board.0,
      ap (λ m. m.1) c.split_seat-back.ensures.4,
      search rules,
      joins_push _ _ _ _ _,
    )

pub returns-in-Some-clause-same : goal.returns-in-Some-clause-same
returns-in-Some-clause-same t c =
    let all = c.args.all.now.me in let h = c.in-Some.held in let known = knowledge_of h.seat.me.0 in
    let pushed = c.join_seat.ensures.2 ∙ ap (λ m. (m.0 ++ all.0, all.1)) c.split_seat-known.ensures.4 ∙ ap (λ v. (v ++ all.0, all.1)) h.one.0 in
    let after = c.ask-found.ensures.same.1 ∙ pushed in
    let a = ap (λ m. m.0) c.split_seat-back.ensures.4 ∙ ap (λ m. first_of m.0) after in
    let b = c.split_seat-known.ensures.2 in
    let me = c.join_seat-in-Some.ensures.2 ∙ (λ j. (a j ++ (b j).0, (b j).1)) ∙ (λ j. (sym h.one.0 j, h.seat.me.1)) in (
      c.split_seat-back.ensures.0 ∙ c.ask-found.ensures.same.0 ∙ c.join_seat.ensures.0,
      c.split_seat-back.ensures.2 ∙ ap (λ m. (rest_of m.0, m.1)) after,
      same_put h _ (c.join_seat-in-Some.ensures.0 ∙ c.split_seat-known.ensures.0, ap (λ m. knowledge_of m.0) me) c.args.seats.now c.ask-found.new.seats c.args.at c.index-seats-at.result (search rules) (sym c.in-Some.ensures.value)
          (subst (λ x. AreSame (set c.args.seats.now c.args.at x) c.ask-found.new.seats) c.take.ensures.after c.ask-found.ensures.same.2),
    )
