use Rattle.std.proofs.Common.{[], ◌∷◌, ◌++◌, sym, refl, subst}
use Rattle.lfi_model.specs.Item.{ItemView}
use Rattle.lfi_board.specs.Known.{module_of}
use Rattle.lfi_sequence.specs.Placed.{HandledBy}
use Rattle.lfi_sequence.proofs.Steps.{none_next, one_next, numbered_now}
use Rattle.lfi_sequence.proofs.sequence.Sequence.step.Goals as goal

pub returns-in-None-clause-steps : goal.returns-in-None-clause-steps
returns-in-None-clause-steps c = λ taken come coming holds. none_next c.args.self.now taken come holds _ refl refl refl c.in-None.ensures.none.0 c.in-None.ensures.none.1

pub returns-in-Some-clause-steps : goal.returns-in-Some-clause-steps
returns-in-Some-clause-steps c = λ taken come coming holds.
    let s = c.args.self.now in
    let t = c.in-Some.ensures.taken in
    let j : ItemView = c.in-Some.item in
    let m = module_of s.seat in
    let before : HandledBy m c.take-before.result come = subst (λ b. HandledBy m b come) (sym c.take-before.ensures.value) holds.built in
    let built : HandledBy m c.after.result (come ++ j ∷ []) =
    subst (λ k. HandledBy k c.after.result (come ++ j ∷ [])) c.module-module.ensures
    (c.after.ensures.handled come (subst (λ k. HandledBy k c.take-before.result come) (sym c.module-module.ensures) before) (numbered_now s taken come holds j t.1 t.2)) in
    one_next s taken come holds j t.1 t.2 _ refl refl t.3 t.0 built
