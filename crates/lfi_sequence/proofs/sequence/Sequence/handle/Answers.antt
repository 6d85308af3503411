use Rattle.std.proofs.Common.{rules, ◌≡◌, ◌≢◌, ◌∙◌, List, [], ◌∷◌, ◌++◌, refl, subst}
use Rattle.lfi_model.specs.Item.{ItemView}
use Rattle.lfi_sequence.proofs.Comes.{coming_more, coming_stays}
use Rattle.lfi_sequence.specs.Sequenced.{Steps}
use Rattle.lfi_sequence.specs.declared.sequence.Stepped.{Stepped}
use Rattle.lfi_sequence.specs.declared.sequence.Stepped.TheVariants.{Placed, Waits}
use Rattle.lfi_sequence.proofs.sequence.Sequence.handle.Goals as goal

-- a step that placed nothing waits
waits_else : (did : Stepped) → did ≢ Placed → did ≡ Waits
waits_else Placed other = absurd (other refl)
waits_else Waits other = refl

pub loop-init : goal.loop-init
loop-init c = record {
  goes = λ taken was. (was.come, coming_stays taken (c.args.item ∷ []) was.come was.has_come.each, c.keep.ensures.kept taken was.come was.holds);
  same = c.keep.ensures.same;
}

pub loop-preserved : goal.loop-preserved
loop-preserved c = record {
  goes = λ taken was.
      let all : List ItemView = taken ++ c.args.item ∷ [] in
      let i = c.loop.invariant.goes taken was in
      let did : c.step.result ≡ Placed = search rules in
      let s : Steps Placed c.step.new.self all i.0 = subst (λ b. Steps b c.step.new.self all i.0) did (c.step.ensures.steps all i.0 i.1 i.2) in
      (i.0 ++ s.0 ∷ [], coming_more all i.0 s.0 i.1 s.1, s.2);
  same = c.step.ensures.same ∙ c.loop.invariant.same;
}

pub returns-clause-tie : goal.returns-clause-tie
returns-clause-tie c = λ taken was.
    let all : List ItemView = taken ++ c.args.item ∷ [] in
    let i = c.loop.invariant.goes taken was in
    let did : c.step.result ≢ Placed = search rules in
    let s : Steps Waits c.step.new.self all i.0 = subst (λ b. Steps b c.step.new.self all i.0) (waits_else c.step.result did) (c.step.ensures.steps all i.0 i.1 i.2) in
    record { come = i.0; has_come = record { each = i.1; stops = s.1 }; holds = s.0 }
