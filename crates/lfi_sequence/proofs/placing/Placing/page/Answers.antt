use Rattle.std.proofs.Common.{◌≡◌, ap, refl, sym, ◌∙◌, subst, None, true, [], ◌∷◌, ◌++◌, length}
use Rattle.std.specs.Prelude.{is_some, ◌==◌, ◌&&◌}
use Rattle.std.proofs.lemmas.Bool.{and_parts, eq-eqb, eqb-true, false≢true}
use Rattle.lfi_sequence.specs.Placed.{IsPlacing}
use Rattle.lfi_sequence.specs.Sequenced.{is_same}
use Rattle.lfi_sequence.proofs.SameExtent.{same_is, is_same_as}
use Rattle.lfi_sequence.proofs.Steps.{none_is}
use Rattle.lfi_sequence.proofs.Placings.{page_over, page_place, page_placed, page_refused}
use Rattle.lfi_sequence.proofs.placing.Placing.page.Goals as goal

pub returns-then-is_some-clause-placing : goal.returns-then-is_some-clause-placing
returns-then-is_some-clause-placing c = λ m taken item was numbered typed at same is.
    let some : is_some c.args.self.now.refusal ≡ true = sym c.is_some.ensures ∙ c.if-is_some.true in
    page_over m c.args.self.now taken item was numbered c.args.page.page.bytes is some

pub returns-then-not-is_next-clause-placing : goal.returns-then-not-is_next-clause-placing
returns-then-not-is_next-clause-placing c = λ m taken item was numbered typed at same is.
    let none : c.args.self.now.refusal ≡ None = none_is c.args.self.now.refusal (sym c.is_some.ensures ∙ c.if-is_some.false) in
    let place = page_place m c.args.self.now taken item was numbered c.args.page.page.bytes is none typed in
    let b = c.args.self.now.builder in
    let first : (c.args.page.first == length b.placed) ≡ true = eq-eqb c.args.page.first (length b.placed) (at ∙ place.0) in
    let there : is_same c.args.page.extent b.extent ≡ true = is_same_as c.args.page.extent b.extent (same ∙ place.1) in
    let yes : c.is_next.result ≡ true = c.is_next.ensures ∙ (λ i. first i && there i) in
    absurd (false≢true (sym c.if-not-is_next.true ∙ yes))

pub returns-in-Ok-clause-placing : goal.returns-in-Ok-clause-placing
returns-in-Ok-clause-placing c = λ m taken item was numbered typed at same is.
    let none : c.args.self.now.refusal ≡ None = none_is c.args.self.now.refusal (sym c.is_some.ensures ∙ c.if-is_some.false) in
    page_placed m c.args.self.now taken item was numbered c.args.page.page.bytes is _ (ap (λ z. z.extent) c.in-Ok.ensures.placed) refl none typed c.in-Ok.ensures.placed none c.in-Ok.ensures.faultless

pub returns-in-Err-clause-placing : goal.returns-in-Err-clause-placing
returns-in-Err-clause-placing c = λ m taken item was numbered typed at same is.
    let none : c.args.self.now.refusal ≡ None = none_is c.args.self.now.refusal (sym c.is_some.ensures ∙ c.if-is_some.false) in
    subst (λ q. IsPlacing m q (taken ++ item ∷ [])) (sym c.refuse.ensures)
    (page_refused m c.args.self.now taken item was numbered c.args.page.page.bytes is _ c.in-Err.refusal (ap (λ z. z.extent) c.in-Err.ensures.stays) refl none c.in-Err.ensures.stays refl c.in-Err.ensures.fault c.in-Err.ensures.near)

pub place-requires-clause-module : goal.place-requires-clause-module
place-requires-clause-module c =
    let tests = and_parts _ _ (sym c.is_next.ensures ∙ c.if-not-is_next.false) in
    same_is _ _ tests.1

pub place-requires-clause-next : goal.place-requires-clause-next
place-requires-clause-next c =
    let tests = and_parts _ _ (sym c.is_next.ensures ∙ c.if-not-is_next.false) in
    eqb-true _ _ tests.0

pub returns-then-is_some-clause-offers : goal.returns-then-is_some-clause-offers
returns-then-is_some-clause-offers c = λ some. c.give_back.ensures.offers

pub returns-then-not-is_next-clause-offers : goal.returns-then-not-is_next-clause-offers
returns-then-not-is_next-clause-offers c = λ some. c.give_back-then-not-is_next.ensures.offers

pub returns-in-Err-clause-offers : goal.returns-in-Err-clause-offers
returns-in-Err-clause-offers c = λ some. c.in-Err.ensures.offers
