use Rattle.std.proofs.Common.{rules, ℕ, [], ◌∷◌, sym, ap, subst, ◌∙◌}
use Rattle.lfi_board.specs.Knowledge.{onlooker}
use Rattle.lfi_board.specs.inner.Rule.{View, taken}
use Rattle.lfi_board.specs.Rows.{MayFollow}
use Rattle.lfi_board.specs.Known.{board_id}
use Rattle.lfi_board.proofs.Keeps.{sits, first_receivers}
use Rattle.lfi_board.proofs.Gather.{tells_all, held_once, same_claims, same_at, none_at, only_at, same_on, same_present}
use Rattle.lfi_board.proofs.board.Board.holder.Goals as goal

pub load_new_seat-requires : goal.load_new_seat-requires
load_new_seat-requires c = (search rules, sits _ _)

pub returns-then-found-eq0-clause-holder : goal.returns-then-found-eq0-clause-holder
returns-then-found-eq0-clause-holder c =
    let n = c.args.self.now.table.shared.key in let v : View = c.load_new_seat.result.1.me.0 in
    let told = tells_all c.args.number c.ask-found.result n c.args.seats.now v (c.load_new_seat.ensures.2 ∙ ap (λ (k : ℕ). let w : View = onlooker k ∷ [] in w) (first_receivers n n)) c.requires.all.1 c.ask-found.ensures.told in
    (subst (λ k. MayFollow c.args.number k c.args.seats.now) c.if-found-eq0.true told.1, none_at c.args.number c.args.seats.now (told.2 ∙ ap taken c.if-found-eq0.true))

pub place_of-requires : goal.place_of-requires
place_of-requires c =
    let n = c.args.self.now.table.shared.key in let v : View = c.load_new_seat.result.1.me.0 in
    let told = tells_all c.args.number c.ask-found.result n c.args.seats.now v (c.load_new_seat.ensures.2 ∙ ap (λ (k : ℕ). let w : View = onlooker k ∷ [] in w) (first_receivers n n)) c.requires.all.1 c.ask-found.ensures.told in
    record { one = same_claims c.args.number c.args.seats.now c.ask-found.new.seats c.ask-found.ensures.same.2 ∙ held_once c.args.number c.ask-found.result c.args.seats.now c.if-found-eq0.false told.2 }

pub returns-clause-holder : goal.returns-clause-holder
returns-clause-holder c =
    let n = c.args.self.now.table.shared.key in let v : View = c.load_new_seat.result.1.me.0 in
    let told = tells_all c.args.number c.ask-found.result n c.args.seats.now v (c.load_new_seat.ensures.2 ∙ ap (λ (k : ℕ). let w : View = onlooker k ∷ [] in w) (first_receivers n n)) c.requires.all.1 c.ask-found.ensures.told in
    let once = held_once c.args.number c.ask-found.result c.args.seats.now c.if-found-eq0.false told.2 in (
      only_at c.args.number c.args.seats.now c.place_of.result once (sym (same_at c.args.number c.args.seats.now c.ask-found.new.seats c.ask-found.ensures.same.2 c.place_of.result) ∙ c.place_of.ensures),
      (c.ask-found.result, search rules, told.0, told.1),
    )

pub returns-then-found-eq0-clause-all : goal.returns-then-found-eq0-clause-all
returns-then-found-eq0-clause-all c = (same_on (board_id c.args.self.now) c.args.seats.now c.ask-found.new.seats c.ask-found.ensures.same.2 c.requires.all.0, same_present c.args.seats.now c.ask-found.new.seats c.ask-found.ensures.same.2 ∙ c.requires.all.1)

pub returns-clause-all : goal.returns-clause-all
returns-clause-all c = (same_on (board_id c.args.self.now) c.args.seats.now c.ask-found.new.seats c.ask-found.ensures.same.2 c.requires.all.0, same_present c.args.seats.now c.ask-found.new.seats c.ask-found.ensures.same.2 ∙ c.requires.all.1)
