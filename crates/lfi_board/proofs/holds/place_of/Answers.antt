use Rattle.std.proofs.Common.{◌≡◌, ◌<◌, [], ◌∷◌, get_or, true, false, sym, ap, subst, ◌∙◌}
use Rattle.lfi_board.specs.inner.Gathered.{claims_by}
use Rattle.lfi_board.proofs.Gather.{claims_next, is_mine, not_mine, alone}
use Rattle.lfi_board.proofs.holds.place_of.Goals as goal
use Rattle.lfi_board.proofs.holds.place_of.Goals.{in-Some+else-seat-at, in-None}

pub returns-then-seat-at : goal.returns-then-seat-at
returns-then-seat-at c =
    let inside : c.args.number < 16 = subst (λ k. k < 16) c.index-at.ensures.value c.index-at.ensures.range in
    is_mine c.args.number inside c.args.seats.now c.loop-i.i c.index-seats-i.result c.in-Some.seat c.loop-i-test.true (sym c.index-seats-i.is ∙ c.in-Some.is) (subst (λ k. get_or c.in-Some.seat.mine k false ≡ true) c.index-at.ensures.value c.if-seat-at.true) c.requires.one

pub loop-i-preserved : goal.loop-i-preserved
loop-i-preserved c = claims_next c.args.number c.args.seats.now c.loop-i.i c.index-seats-i.result c.loop-i-test.true c.loop-i.invariant
    (elim c.match-place.branch [ in-Some+else-seat-at w ↦ ap (λ x. claims_by c.args.number (x ∷ [])) (sym c.index-seats-i.is ∙ w.in-Some.is) ∙ alone c.args.number w.in-Some.seat (not_mine c.args.number (subst (λ k. k < 16) c.index-at.ensures.value c.index-at.ensures.range) w.in-Some.seat (subst (λ k. get_or w.in-Some.seat.mine k false ≡ false) c.index-at.ensures.value w.if-seat-at.false)) | in-None w ↦ ap (λ x. claims_by c.args.number (x ∷ [])) (sym c.index-seats-i.is ∙ w.in-None.is) ])
