-- A putter looks at its part.
use Rattle.std.proofs.Common.{ap, length, arith}
use Rattle.lfi_queues.proofs.Parts.{looks}
use Rattle.lfi_queues.proofs.Remains.{few_left}
use Rattle.lfi_queues.proofs.intake.Intake.untaken.Goals as goal

pub len_as-requires : goal.len_as-requires
len_as-requires g c = looks _ _

pub returns-clause-few : goal.returns-clause-few
returns-clause-few g c =
    let rule = c.len_as.ensures.rule in
    let few = few_left _ _ rule.0 _ c.pass.invariant.0 rule.2 in
    let same = ap (λ p. length p.items) c.pass.view_is in
    let count = rule.1 in
    omega arith
