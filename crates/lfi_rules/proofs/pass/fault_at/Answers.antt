use Rattle.std.proofs.Common.{◌≡◌, ℕ, ◌+◌, List, Some, None, sym, subst, ap, ◌∙◌, rules}
use Rattle.std.specs.Prelude.{slice_get}
use Rattle.std.proofs.lemmas.Option.{slice_get-get_or}
use Rattle.lfi_rules.specs.declared.needs.Need.TheVariants.{Nothing}
use Rattle.lfi_rules.specs.inner.Least.{IsLeastBroken}
use Rattle.lfi_rules.proofs.Fine.{fine_alone, fault_alone, leaves_opens}
use Rattle.lfi_rules.proofs.pass.fault_at.Goals as goal

pub returns-in-Some-clause-some : goal.returns-in-Some-clause-some
returns-in-Some-clause-some g c = λ fine.
    let ws : List ℕ = g.W.Words.words c.args.region.words.now in
    let at : slice_get ws c.args.i ≡ Some c.word.result = slice_get-get_or ws c.args.i 0 c.requires.within ∙ ap Some (sym c.word.ensures) in
    fault_alone c.args.region.profile ws c.args.region.first c.args.region.n c.args.i c.word.result c.in-Some.rule at fine
    (subst (λ x. IsLeastBroken c.args.region.profile c.word.result Nothing (c.args.region.first + c.args.i) c.args.region.n x) c.in-Some.is c.inspect-rule.ensures.rule)

pub returns-then-eq-clause-none : goal.returns-then-eq-clause-none
returns-then-eq-clause-none g c =
    let ws : List ℕ = g.W.Words.words c.args.region.words.now in
    let i : ℕ = c.args.i in
    let at : slice_get ws i ≡ Some c.word.result = slice_get-get_or ws i 0 c.requires.within ∙ ap Some (sym c.word.ensures) in
    let kept : IsLeastBroken c.args.region.profile c.word.result Nothing (c.args.region.first + i) c.args.region.n None =
    subst (λ x. IsLeastBroken c.args.region.profile c.word.result Nothing (c.args.region.first + i) c.args.region.n x) c.in_default.is c.inspect-rule.ensures.rule in
    fine_alone c.args.region.profile ws c.args.region.first c.args.region.n i c.word.result c.inspect-rule.result.1 at kept (leaves_opens c.args.region.profile c.word.result c.inspect-rule.result.1 c.inspect-rule.ensures.leaves)
    (search rules)

pub fault_behind-requires-clause-opens : goal.fault_behind-requires-clause-opens
fault_behind-requires-clause-opens g c =
    let ws : List ℕ = g.W.Words.words c.args.region.words.now in
    let i : ℕ = c.args.i in
    record {
      word = c.word.result;
      at = slice_get-get_or ws i 0 c.requires.within ∙ ap Some (sym c.word.ensures);
      alone = subst (λ x. IsLeastBroken c.args.region.profile c.word.result Nothing (c.args.region.first + i) c.args.region.n x) c.in_default.is c.inspect-rule.ensures.rule;
      opens = leaves_opens c.args.region.profile c.word.result c.inspect-rule.result.1 c.inspect-rule.ensures.leaves;
    }
