use Rattle.std.proofs.Common.{length, subst}
use Rattle.lfi_rules.specs.Faults.{IsLeastAt}
use Rattle.lfi_explain.proofs.refusals.explained_at.Goals as goal

pub returns : goal.returns
returns g c =
    let ws = g.L.Words.words c.args.words.now in
    (c.in_ok-rule.rule, subst (λ x. IsLeastAt c.args.profile ws (length ws) c.args.place x) c.in_ok-rule.was c.broken_at.ensures, c.explain.ensures.explains)
