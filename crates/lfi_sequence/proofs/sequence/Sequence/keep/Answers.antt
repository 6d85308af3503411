use Rattle.std.proofs.Common.{◌≡◌, get_or, set, Option, Some, None, true, sym, refl, ap, subst, ◌∙◌, arith}
use Rattle.std.specs.Prelude.{is_some}
use Rattle.std.proofs.lemmas.List.{get_or-set_same, get_or-set_other, get_or_default}
use Rattle.lfi_model.specs.Item.{ItemView, IsItem}
use Rattle.lfi_sequence.proofs.Steps.{kept_seen, kept_by, kept_new, holds_as, none_is}
use Rattle.lfi_sequence.proofs.sequence.Sequence.keep.Goals as goal

pub returns-then-place-self-clause-kept : goal.returns-then-place-self-clause-kept
returns-then-place-self-clause-kept c = λ taken come holds.
    let s = c.args.self.now in
    let x : ItemView = c.args.item in
    let typed : IsItem x = subst (λ j. IsItem j) c.item.view_is c.item.invariant.item in
    let here : c.item.inside.ordinal ≡ x.ordinal = ap (λ j. j.ordinal) c.item.view_is in
    holds_as s _ _ come (kept_seen s taken come holds x typed (let b = c.if-place-self.true in omega arith)) refl refl refl (λ k. refl)

pub returns-then-is_some-clause-kept : goal.returns-then-is_some-clause-kept
returns-then-is_some-clause-kept c = λ taken come holds.
    let s = c.args.self.now in
    let x : ItemView = c.args.item in
    let typed : IsItem x = subst (λ j. IsItem j) c.item.view_is c.item.invariant.item in
    let here : c.item.inside.ordinal ≡ x.ordinal = ap (λ j. j.ordinal) c.item.view_is in
    let after = c.if-place-self.false in
    let table = c.grow.new.table.items in
    let o : Option ItemView = c.index.result.now in
    let some : is_some o ≡ true = sym c.is_some.ensures ∙ c.if-is_some.true in
    let waits : get_or s.table.items x.ordinal None ≡ o =
    sym (c.grow.ensures.same x.ordinal) ∙ ap (λ z. get_or table z None) (sym here) ∙ get_or_default table c.item.inside.ordinal None o c.grow.ensures.there ∙ sym c.index.ensures in
    holds_as s _ _ come (kept_by s taken come holds x typed o some (omega arith) waits) refl refl refl c.grow.ensures.same

pub returns-clause-kept : goal.returns-clause-kept
returns-clause-kept c = λ taken come holds.
    let s = c.args.self.now in
    let x : ItemView = c.args.item in
    let typed : IsItem x = subst (λ j. IsItem j) c.item.view_is c.item.invariant.item in
    let here : c.item.inside.ordinal ≡ x.ordinal = ap (λ j. j.ordinal) c.item.view_is in
    let after = c.if-place-self.false in
    let table = c.grow.new.table.items in
    let o : Option ItemView = c.index.result.now in
    let none : o ≡ None = none_is o (sym c.is_some.ensures ∙ c.if-is_some.false) in
    let free : get_or s.table.items x.ordinal None ≡ None =
    sym (c.grow.ensures.same x.ordinal) ∙ ap (λ z. get_or table z None) (sym here) ∙ get_or_default table c.item.inside.ordinal None o c.grow.ensures.there ∙ sym c.index.ensures ∙ none in
    let placed = get_or-set_same table c.item.inside.ordinal (Some x) None c.grow.ensures.there in
    kept_new s taken come holds x typed _ (omega arith) free refl refl refl (ap (λ z. get_or (set table c.item.inside.ordinal (Some x)) z None) (sym here) ∙ placed)
    (λ k apart. get_or-set_other table c.item.inside.ordinal k (Some x) None (λ e. apart (sym here ∙ sym e)) ∙ c.grow.ensures.same k)
