use Rattle.std.proofs.Common.{rules, ◌≡◌, ◌*◌, ap, arith}
use Rattle.lfi_verifier.specs.States.{Keeps}
use Rattle.lfi_verifier.specs.StreamVerdicts.{state_at}
use Rattle.lfi_verifier.proofs.CutKept.{at_page}
use Rattle.lfi_verifier.proofs.verdicts.judged_to.Goals as goal

pub returns-then-offset-whole-clause-found : goal.returns-then-offset-whole-clause-found
returns-then-offset-whole-clause-found c = λ profile words whole came h is.
    let v = c.args.verdicts.now in
    let b = c.in_ok-whole.whole in
    let keeps : Keeps (state_at v.modules c.args.«module») b = search rules in
    let here : c.args.offset ≡ 4 * b.judged = omega arith in
    at_page v c.args.«module» profile words c.args.offset whole came b c.of.result keeps h here is (ap (λ x. x.whole) c.of.ensures.is) c.of.ensures.begins
