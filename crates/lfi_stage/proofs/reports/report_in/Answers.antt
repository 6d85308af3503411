use Rattle.std.proofs.Common.{◌≡◌, Some, sym, ◌∙◌, subst}
use Rattle.lfi_sequence.specs.declared.sequence.Sequence.{Sequence}
use Rattle.lfi_sequence.specs.Sequenced.{Sequenced, module_number_of}
use Rattle.lfi_sequence.specs.Tells.{Tells}
use Rattle.lfi_stage.proofs.reports.report_in.Goals as goal

pub returns-in-Some : goal.returns-in-Some
returns-in-Some c = λ s taken items is sequenced come ended.
    let both : Some s ≡ Some c.in-Some.sequence = sym is ∙ c.in-Some.is in
    let same : s ≡ c.in-Some.sequence = cc in
    subst (λ (z : Sequence). Tells (module_number_of z) c.into_report.result items) (sym same) (c.into_report.ensures taken items (subst (λ z. Sequenced z taken) same sequenced) come ended)
