-- The owner takes in what the first taker took of its part, and then what the others took, and gives it back.
use Rattle.std.proofs.Common.{arith, ◌≡◌, [], ◌∷◌, None, Some, refl, ap, sym, ◌∙◌, ◌++◌, subst, set, get_or, slice_get}
use Rattle.std.specs.Option.{option_map_or}
use Rattle.crossbeam_deque.specs.Handles.{view as known, worker_view}
use Rattle.lfi_queues.specs.inner.Ports.{number_of, items_of, EndsInFirst}
use Rattle.lfi_queues.specs.inner.Parts.{EndView, owning, sharing}
use Rattle.lfi_queues.specs.inner.Remains.{AreAtPart, LeftAt, with_found, wants}
use Rattle.lfi_queues.proofs.Delivered.{merges, gives_taker}
use Rattle.lfi_queues.proofs.Gathered.{given_taker}
use Rattle.lfi_queues.proofs.Filling.{some_same}
use Rattle.lfi_queues.proofs.Rounds.{there_at, inside_at}
use Rattle.lfi_queues.proofs.Remains.{pass_there, met_end, end_of, others_at, left_at, taken_now, is_sharing, same_end, takes_found, unwanted}
use Rattle.lfi_queues.proofs.left.rest_at.Goals as goal

pub index_mut-requires : goal.index_mut-requires
index_mut-requires g c =
    let q = c.args.intake.now in
    let p = c.args.place in
    let is = pass_there q p _ c.in-Some.pass c.in-Some.ensures.value c.requires.slot in
    let home = c.pass.inside.home.value in
    let this = ap (λ z. z.queue) c.pass.view_is ∙ is.0 in
    let at = ap (λ n. slice_get home.parts n) (sym (ap (λ z. z.number) c.pass.view_is ∙ is.1)) ∙ c.pass.invariant.1 in
    let t0 = c.requires.takers.each 0 in
    let e0 = end_of q home p _ c.args.first.now this at t0.queue t0.whole in
    let same = ap (λ z. z.ends) c.first.view_is in
    let inside = inside_at c.first.inside.ends.items p e0.0 (ap (λ xs. get_or xs p None) same ∙ e0.1) in
    let ok = c.first.inside.ends.ok.0 in
    omega (arith, inside, ok)

pub unreachable-requires : goal.unreachable-requires
unreachable-requires g c =
    let q = c.args.intake.now in
    let p = c.args.place in
    let is = pass_there q p _ c.in-Some.pass c.in-Some.ensures.value c.requires.slot in
    let home = c.pass.inside.home.value in
    let this = ap (λ z. z.queue) c.pass.view_is ∙ is.0 in
    let at = ap (λ n. slice_get home.parts n) (sym (ap (λ z. z.number) c.pass.view_is ∙ is.1)) ∙ c.pass.invariant.1 in
    let t0 = c.requires.takers.each 0 in
    let e0 = end_of q home p _ c.args.first.now this at t0.queue t0.whole in
    let same = ap (λ z. z.ends) c.first.view_is in
    let inside = inside_at c.first.inside.ends.items p e0.0 (ap (λ xs. get_or xs p None) same ∙ e0.1) in
    c.in_default-take.not-Some e0.0 (c.take-2.ensures.value ∙ c.index_mut.ensures.value ∙ sym (there_at c.first.inside.ends.items p _ inside) ∙ ap (λ xs. get_or xs p None) same ∙ e0.1)

pub absorb-requires-clause-table : goal.absorb-requires-clause-table
absorb-requires-clause-table g c =
    let q = c.args.intake.now in
    let p = c.args.place in
    let is = pass_there q p _ c.in-Some.pass c.in-Some.ensures.value c.requires.slot in
    let home = c.pass.inside.home.value in
    let this = ap (λ z. z.queue) c.pass.view_is ∙ is.0 in
    let at = ap (λ n. slice_get home.parts n) (sym (ap (λ z. z.number) c.pass.view_is ∙ is.1)) ∙ c.pass.invariant.1 in
    let t0 = c.requires.takers.each 0 in
    let e0 = end_of q home p _ c.args.first.now this at t0.queue t0.whole in
    let same = ap (λ z. z.ends) c.first.view_is in
    let inside = inside_at c.first.inside.ends.items p e0.0 (ap (λ xs. get_or xs p None) same ∙ e0.1) in
    let w = known c.end.inside.seat in
    let met = met_end p c.first.inside.ends.items c.args.first.now c.in-Some-take.end e0.0 _ same e0.1 c.in-Some-take.ensures.value c.index_mut.ensures.value in
    let h = c.end.invariant.0 in
    (ap (λ e. e.part) c.end.view_is ∙ ap (λ e. e.part) met.1 ∙ e0.2, refl, h.2, h.3)

pub absorb-requires-clause-rule : goal.absorb-requires-clause-rule
absorb-requires-clause-rule g c = merges _ _ _ _

pub rest_of_ends-item-requires-clause-owner : goal.rest_of_ends-item-requires-clause-owner
rest_of_ends-item-requires-clause-owner g c =
    let q = c.args.intake.now in
    let p = c.args.place in
    let is = pass_there q p _ c.in-Some.pass c.in-Some.ensures.value c.requires.slot in
    let home = c.pass.inside.home.value in
    let this = ap (λ z. z.queue) c.pass.view_is ∙ is.0 in
    let at = ap (λ n. slice_get home.parts n) (sym (ap (λ z. z.number) c.pass.view_is ∙ is.1)) ∙ c.pass.invariant.1 in
    let t0 = c.requires.takers.each 0 in
    let e0 = end_of q home p _ c.args.first.now this at t0.queue t0.whole in
    let same = ap (λ z. z.ends) c.first.view_is in
    let inside = inside_at c.first.inside.ends.items p e0.0 (ap (λ xs. get_or xs p None) same ∙ e0.1) in
    let w = known c.end.inside.seat in
    let met = met_end p c.first.inside.ends.items c.args.first.now c.in-Some-take.end e0.0 _ same e0.1 c.in-Some-take.ensures.value c.index_mut.ensures.value in
    let number = sym (ap (λ e. e.number) c.end.view_is ∙ ap (λ e. e.number) met.1 ∙ e0.3 ∙ t0.numbered) in
    let takes = c.absorb.ensures.rule in
    let mine : w.takes ≡ (0, items_of w.takes) ∷ [] = ap (λ u. u.takes) c.end.invariant.1 ∙ ap (λ k. (k, items_of w.takes) ∷ []) (sym number) in
    let all : (worker_view c.absorb.new.self).takes ≡ (0, items_of w.takes) ∷ [] = ap (λ u. u.takes) takes ∙ (λ i. mine i ++ ap (λ u. u.takes) c.pass.invariant.0 i) in
    let ends : EndsInFirst (worker_view c.absorb.new.self).takes = record { others = []; items = items_of w.takes; ends = all } in (c.absorb.ensures.same.0.1 ∙ c.pass.invariant.4, ends)

pub rest_of_ends-item-requires-clause-takers : goal.rest_of_ends-item-requires-clause-takers
rest_of_ends-item-requires-clause-takers g c =
    let q = c.args.intake.now in
    let p = c.args.place in
    let is = pass_there q p _ c.in-Some.pass c.in-Some.ensures.value c.requires.slot in
    let home = c.pass.inside.home.value in
    let this = ap (λ z. z.queue) c.pass.view_is ∙ is.0 in
    let at = ap (λ n. slice_get home.parts n) (sym (ap (λ z. z.number) c.pass.view_is ∙ is.1)) ∙ c.pass.invariant.1 in
    let t0 = c.requires.takers.each 0 in
    let e0 = end_of q home p _ c.args.first.now this at t0.queue t0.whole in
    let same = ap (λ z. z.ends) c.first.view_is in
    let inside = inside_at c.first.inside.ends.items p e0.0 (ap (λ xs. get_or xs p None) same ∙ e0.1) in
    subst (λ d. AreAtPart d.0 p c.args.others.now) (sym c.absorb.ensures.same.0.0) (others_at q home p _ c.args.first.now c.args.others.now this at c.requires.takers)

pub another-seat-requires : goal.another-seat-requires
another-seat-requires g c =
    let q = c.args.intake.now in
    let p = c.args.place in
    let is = pass_there q p _ c.in-Some.pass c.in-Some.ensures.value c.requires.slot in
    let home = c.pass.inside.home.value in
    let this = ap (λ z. z.queue) c.pass.view_is ∙ is.0 in
    let at = ap (λ n. slice_get home.parts n) (sym (ap (λ z. z.number) c.pass.view_is ∙ is.1)) ∙ c.pass.invariant.1 in
    let t0 = c.requires.takers.each 0 in
    let e0 = end_of q home p _ c.args.first.now this at t0.queue t0.whole in
    let same = ap (λ z. z.ends) c.first.view_is in
    let inside = inside_at c.first.inside.ends.items p e0.0 (ap (λ xs. get_or xs p None) same ∙ e0.1) in
    let w = known c.end.inside.seat in
    let met = met_end p c.first.inside.ends.items c.args.first.now c.in-Some-take.end e0.0 _ same e0.1 c.in-Some-take.ensures.value c.index_mut.ensures.value in
    let number = sym (ap (λ e. e.number) c.end.view_is ∙ ap (λ e. e.number) met.1 ∙ e0.3 ∙ t0.numbered) in
    let takes = c.absorb.ensures.rule in
    let mine : w.takes ≡ (0, items_of w.takes) ∷ [] = ap (λ u. u.takes) c.end.invariant.1 ∙ ap (λ k. (k, items_of w.takes) ∷ []) (sym number) in
    let all : (worker_view c.absorb.new.self).takes ≡ (0, items_of w.takes) ∷ [] = ap (λ u. u.takes) takes ∙ (λ i. mine i ++ ap (λ u. u.takes) c.pass.invariant.0 i) in
    let now = taken_now (worker_view c.absorb.new.self) (worker_view c.rest_of_ends-item.new.owner) 0 (items_of w.takes) c.rest_of_ends-item.result c.rest_of_ends-item.ensures.taken all in
    gives_taker _ _ _ _ _ now

pub invariant_of-t-37 : goal.invariant_of-t-37
invariant_of-t-37 g c =
    let q = c.args.intake.now in
    let p = c.args.place in
    let is = pass_there q p _ c.in-Some.pass c.in-Some.ensures.value c.requires.slot in
    let home = c.pass.inside.home.value in
    let this = ap (λ z. z.queue) c.pass.view_is ∙ is.0 in
    let at = ap (λ n. slice_get home.parts n) (sym (ap (λ z. z.number) c.pass.view_is ∙ is.1)) ∙ c.pass.invariant.1 in
    let t0 = c.requires.takers.each 0 in
    let e0 = end_of q home p _ c.args.first.now this at t0.queue t0.whole in
    let same = ap (λ z. z.ends) c.first.view_is in
    let inside = inside_at c.first.inside.ends.items p e0.0 (ap (λ xs. get_or xs p None) same ∙ e0.1) in
    let w = known c.end.inside.seat in
    let met = met_end p c.first.inside.ends.items c.args.first.now c.in-Some-take.end e0.0 _ same e0.1 c.in-Some-take.ensures.value c.index_mut.ensures.value in
    let number = sym (ap (λ e. e.number) c.end.view_is ∙ ap (λ e. e.number) met.1 ∙ e0.3 ∙ t0.numbered) in
    let takes = c.absorb.ensures.rule in
    let mine : w.takes ≡ (0, items_of w.takes) ∷ [] = ap (λ u. u.takes) c.end.invariant.1 ∙ ap (λ k. (k, items_of w.takes) ∷ []) (sym number) in
    let all : (worker_view c.absorb.new.self).takes ≡ (0, items_of w.takes) ∷ [] = ap (λ u. u.takes) takes ∙ (λ i. mine i ++ ap (λ u. u.takes) c.pass.invariant.0 i) in
    let now = taken_now (worker_view c.absorb.new.self) (worker_view c.rest_of_ends-item.new.owner) 0 (items_of w.takes) c.rest_of_ends-item.result c.rest_of_ends-item.ensures.taken all in
    let back = given_taker (worker_view c.rest_of_ends-item.new.owner) (known c.another-seat.result) 0 (with_found (items_of w.takes) c.rest_of_ends-item.result) [] c.another-seat.ensures.rule.1 now in
    let deque = c.rest_of_ends-item.ensures.owner.0.0 ∙ c.absorb.ensures.same.0.0 in
    let here = c.another-seat.ensures.same.2 in
    let rows : c.another-seat.result.rows ≡ c.end.inside.seat.rows = here.0 ∙ ap (λ d. d.0) deque ∙ sym (ap (λ e. e.part) c.end.view_is ∙ ap (λ e. e.part) met.1 ∙ e0.2) in
    ((rows ∙ c.end.invariant.0.0, refl, here.2, here.3), is_sharing _ 0 _ back, c.end.invariant.2)

pub index_mut-requires-2 : goal.index_mut-requires-2
index_mut-requires-2 g c =
    let q = c.args.intake.now in
    let p = c.args.place in
    let is = pass_there q p _ c.in-Some.pass c.in-Some.ensures.value c.requires.slot in
    let home = c.pass.inside.home.value in
    let this = ap (λ z. z.queue) c.pass.view_is ∙ is.0 in
    let at = ap (λ n. slice_get home.parts n) (sym (ap (λ z. z.number) c.pass.view_is ∙ is.1)) ∙ c.pass.invariant.1 in
    let t0 = c.requires.takers.each 0 in
    let e0 = end_of q home p _ c.args.first.now this at t0.queue t0.whole in
    let same = ap (λ z. z.ends) c.first.view_is in
    let inside = inside_at c.first.inside.ends.items p e0.0 (ap (λ xs. get_or xs p None) same ∙ e0.1) in
    let ok = c.first.inside.ends.ok.0 in
    omega (arith, inside, ok)

pub returns-clause-first : goal.returns-clause-first
returns-clause-first g c =
    let q = c.args.intake.now in
    let p = c.args.place in
    let is = pass_there q p _ c.in-Some.pass c.in-Some.ensures.value c.requires.slot in
    let home = c.pass.inside.home.value in
    let this = ap (λ z. z.queue) c.pass.view_is ∙ is.0 in
    let at = ap (λ n. slice_get home.parts n) (sym (ap (λ z. z.number) c.pass.view_is ∙ is.1)) ∙ c.pass.invariant.1 in
    let t0 = c.requires.takers.each 0 in
    let e0 = end_of q home p _ c.args.first.now this at t0.queue t0.whole in
    let same = ap (λ z. z.ends) c.first.view_is in
    let inside = inside_at c.first.inside.ends.items p e0.0 (ap (λ xs. get_or xs p None) same ∙ e0.1) in
    let w = known c.end.inside.seat in
    let met = met_end p c.first.inside.ends.items c.args.first.now c.in-Some-take.end e0.0 _ same e0.1 c.in-Some-take.ensures.value c.index_mut.ensures.value in
    let number = sym (ap (λ e. e.number) c.end.view_is ∙ ap (λ e. e.number) met.1 ∙ e0.3 ∙ t0.numbered) in
    let takes = c.absorb.ensures.rule in
    let mine : w.takes ≡ (0, items_of w.takes) ∷ [] = ap (λ u. u.takes) c.end.invariant.1 ∙ ap (λ k. (k, items_of w.takes) ∷ []) (sym number) in
    let all : (worker_view c.absorb.new.self).takes ≡ (0, items_of w.takes) ∷ [] = ap (λ u. u.takes) takes ∙ (λ i. mine i ++ ap (λ u. u.takes) c.pass.invariant.0 i) in
    let now = taken_now (worker_view c.absorb.new.self) (worker_view c.rest_of_ends-item.new.owner) 0 (items_of w.takes) c.rest_of_ends-item.result c.rest_of_ends-item.ensures.taken all in
    let back = given_taker (worker_view c.rest_of_ends-item.new.owner) (known c.another-seat.result) 0 (with_found (items_of w.takes) c.rest_of_ends-item.result) [] c.another-seat.ensures.rule.1 now in
    let deque = c.rest_of_ends-item.ensures.owner.0.0 ∙ c.absorb.ensures.same.0.0 in
    let here = c.another-seat.ensures.same.2 in
    let rows : c.another-seat.result.rows ≡ c.end.inside.seat.rows = here.0 ∙ ap (λ d. d.0) deque ∙ sym (ap (λ e. e.part) c.end.view_is ∙ ap (λ e. e.part) met.1 ∙ e0.2) in
    let r = c.rest_of_ends-item.result in
    let new : EndView _ = record { part = c.another-seat.result.rows; number = number_of (known c.another-seat.result).takes; items = items_of (known c.another-seat.result).takes; tally = c.end.inside.tally.value } in
    let seen = c.end.view_is ∙ met.1 in
    let is : new ≡ record e0.0 { items = with_found e0.0.items r } =
    same_end c.another-seat.result.rows c.end.inside.seat.rows c.end.inside.tally.value (known c.another-seat.result).takes ((0, with_found (items_of w.takes) r) ∷ []) rows (ap (λ u. u.takes) back)
    ∙ (λ i. record { part = c.end.inside.seat.rows; number = number i; items = with_found (items_of w.takes) r; tally = c.end.inside.tally.value })
    ∙ (λ i. record (seen i) { items = with_found (ap (λ z. z.items) seen i) r }) in
    let view = c.first.view_is in
    takes_found p c.args.first.now _ e0.0 new r e0.1 is
    (λ i. record (view i) {
      items = (c.of.ensures ∙ ap (λ z. with_found z.items r) view) i;
      ends = (ap (λ z. set (set c.first.inside.ends.items p z) p (Some new)) c.take-2.ensures.after ∙ ap (λ z. set (set z.ends p None) p (Some new)) view) i;
    })

pub returns-clause-left : goal.returns-clause-left
returns-clause-left g c = λ pass at_pass.
    let q = c.args.intake.now in
    let p = c.args.place in
    let is = pass_there q p _ c.in-Some.pass c.in-Some.ensures.value c.requires.slot in
    let home = c.pass.inside.home.value in
    let this = ap (λ z. z.queue) c.pass.view_is ∙ is.0 in
    let at = ap (λ n. slice_get home.parts n) (sym (ap (λ z. z.number) c.pass.view_is ∙ is.1)) ∙ c.pass.invariant.1 in
    let t0 = c.requires.takers.each 0 in
    let e0 = end_of q home p _ c.args.first.now this at t0.queue t0.whole in
    let same = ap (λ z. z.ends) c.first.view_is in
    let inside = inside_at c.first.inside.ends.items p e0.0 (ap (λ xs. get_or xs p None) same ∙ e0.1) in
    let w = known c.end.inside.seat in
    let met = met_end p c.first.inside.ends.items c.args.first.now c.in-Some-take.end e0.0 _ same e0.1 c.in-Some-take.ensures.value c.index_mut.ensures.value in
    let put = items_of (worker_view c.pass.inside.owner).puts in
    let numbered = ap (λ e. e.number) c.end.view_is ∙ ap (λ e. e.number) met.1 ∙ e0.3 in
    let share = ap (λ e. e.items) c.end.view_is ∙ ap (λ e. e.items) met.1 ∙ sym (ap (λ o. option_map_or (λ e. e.items) o []) e0.1) in
    let owns = c.pass.invariant.0 ∙ ap (λ n. owning n put) (ap (λ z. z.takers) this) in
    let shares = c.end.invariant.1 ∙ (λ i. sharing (numbered i) (share i)) in
    let left = left_at q (wants c.args.asked) p put (worker_view c.pass.inside.owner) (worker_view c.absorb.new.self) w c.args.first.now c.args.others.now _ c.requires.takers owns shares c.absorb.ensures.rule c.rest_of_ends-item.ensures.learned in
    subst (λ xs. LeftAt (wants c.args.asked) p xs c.args.first.now c.args.others.now c.rest_of_ends-item.result) (ap (λ z. z.items) (c.pass.view_is ∙ some_same _ _ (c.in-Some.ensures.value ∙ at_pass))) left

pub returns-clause-unwanted : goal.returns-clause-unwanted
returns-clause-unwanted g c = λ e. unwanted (wants c.args.asked) _ _ c.rest_of_ends-item.ensures.learned.found e
