use Rattle.std.proofs.Common.{subst, sym}
use Rattle.lfi_connection.specs.declared.event.Event.TheVariants.{Open}
use Rattle.lfi_verifier.proofs.Followed.{Followed, TakesCode, passes, opens, ends, codes}
use Rattle.lfi_verifier.proofs.verdicts.follow.Goals as goal

pub returns-in-Open-clause-judged : goal.returns-in-Open-clause-judged
returns-in-Open-clause-judged c =
    let new = c.begin.new.verdicts in
    let used = c.args.used.now in
    subst (λ e. Followed e c.nothing.result c.args.verdicts.now new used) (sym c.in-Open.is)
    (subst (λ f. Followed (Open c.in-Open.«module» c.in-Open.extent) f c.args.verdicts.now new used) (sym c.nothing.ensures)
    (opens c.args.verdicts.now new c.in-Open.«module» c.in-Open.extent used c.begin.ensures.own c.begin.ensures.others c.begin.ensures.coming))

pub returns-in-Code-clause-judged : goal.returns-in-Code-clause-judged
returns-in-Code-clause-judged c =
    let new = c.take_code.new.verdicts in
    let used = c.args.used.now in
    subst (λ e. Followed e c.take_code.result c.args.verdicts.now new used) (sym c.in-Code.is)
    (codes c.args.verdicts.now new c.in-Code.page c.in-Code.ended c.take_code.result used
    (subst (λ n. TakesCode c.args.verdicts.now new c.in-Code.page.«module» n c.in-Code.ended used c.take_code.result) c.offset.ensures c.take_code.ensures.told) c.take_code.ensures.others c.take_code.ensures.kept)

pub returns-in-End-clause-judged : goal.returns-in-End-clause-judged
returns-in-End-clause-judged c =
    let v = c.args.verdicts.now in
    subst (λ e. Followed e c.end.result v v c.args.used.now) (sym c.in-End.is)
    (ends v c.in-End.«module» c.in-End.extent c.in-End.pages c.in-End.reason c.end.result c.args.used.now (λ items h. c.end.ensures.found c.in-End.extent c.in-End.pages items h))

pub returns-in_default-clause-judged : goal.returns-in_default-clause-judged
returns-in_default-clause-judged c =
    let v = c.args.verdicts.now in
    subst (λ f. Followed c.args.event f v v c.args.used.now) (sym c.nothing-in_default.ensures)
    (passes v c.args.event c.args.used.now c.in_default.not-Open c.in_default.not-Code c.in_default.not-End)
