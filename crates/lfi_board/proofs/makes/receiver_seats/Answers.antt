use Rattle.std.proofs.Common.{rules, [], ◌∷◌, ◌∙◌, sym, ap}
use Rattle.lfi_board.specs.Knowledge.{receiver_knowledge, knowledge_of}
use Rattle.lfi_board.specs.inner.Rule.{first_of, rest_of}
use Rattle.lfi_board.specs.Rows.{IsNewReceiver}
use Rattle.lfi_board.proofs.Keeps.{splits_first}
use Rattle.lfi_board.proofs.Fresh.{one_less, NewReceivers-put}
use Rattle.lfi_board.proofs.makes.receiver_seats.Goals as goal

pub split_seat-seat-requires : goal.split_seat-seat-requires
split_seat-seat-requires c = (search rules, search rules, splits_first _ _ _)

pub receiver-requires : goal.receiver-requires
receiver-requires c = let before = ap (λ m. m.0) c.loop-place.invariant.1 ∙ one_less c.args.count c.loop-place.place (receiver_knowledge c.args.top.now.key) (search rules) in
    let is = c.split_seat-seat.ensures.4 ∙ ap (λ v. (first_of v, [])) before in is ∙ ap (λ k. (receiver_knowledge k ∷ [], [])) (sym (ap (λ m. (knowledge_of m.0).receivers) is))

pub loop-place-preserved : goal.loop-place-preserved
loop-place-preserved c = let h = receiver_knowledge c.args.top.now.key in let less = one_less c.args.count c.loop-place.place h (search rules) in
    let before = ap (λ m. m.0) c.loop-place.invariant.1 ∙ less in let is = c.split_seat-seat.ensures.4 ∙ ap (λ v. (first_of v, [])) before in
    let new : IsNewReceiver c.args.top.now.table_id c.args.top.now.key c.receiver.result = (ap (λ s. s.table_id) c.receiver.ensures ∙ c.split_seat-seat.ensures.3 ∙ c.loop-place.invariant.0, ap (λ s. knowledge_of s.me.0) c.receiver.ensures ∙ ap (λ m. knowledge_of m.0) is) in (
      c.split_seat-seat.ensures.0 ∙ c.loop-place.invariant.0,
      c.split_seat-seat.ensures.2 ∙ ap (λ m. (rest_of m.0, m.1)) c.loop-place.invariant.1 ∙ ap (λ v. (rest_of v, [])) less,
      NewReceivers-put c.args.top.now.table_id c.args.top.now.key c.loop-place.place c.loop-place.seats c.receiver.result (search rules) c.loop-place.invariant.2 new,
    )
