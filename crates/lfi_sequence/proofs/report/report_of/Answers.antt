use Rattle.std.proofs.Common.{subst}
use Rattle.lfi_sequence.specs.Placed.{IsPlacing, HandledBy}
use Rattle.lfi_sequence.proofs.Reporting.{told_nothing, told_some}
use Rattle.lfi_sequence.proofs.report.report_of.Goals as goal

pub returns-in-Some : goal.returns-in-Some
returns-in-Some c = λ m items handled ended.
    let was : IsPlacing m c.in-Some.placing items = subst (λ o. HandledBy m o items) c.in-Some.is handled in
    told_some m c.in-Some.placing c.into_report.result items was ended (λ reason e. c.into_report.ensures m items reason was e)

pub returns-in-None : goal.returns-in-None
returns-in-None c = λ m items handled ended. told_nothing m items (subst (λ o. HandledBy m o items) c.in-None.is handled)
