use Rattle.std.proofs.Common.{◌≡◌, List, Some, None, subst, get_or, arith}
use Rattle.std.proofs.lemmas.Option.{slice_get-get_or}
use Rattle.lfi_model.specs.Item.{ItemView}
use Rattle.lfi_model.specs.declared.outcome.Outcome.TheVariants.{Unused}
use Rattle.lfi_sequence.specs.Come.{Come}
use Rattle.lfi_sequence.specs.declared.report.ImageState.TheVariants.{Absent}
use Rattle.lfi_sequence.specs.declared.report.ModuleReport.{ModuleReport}
use Rattle.lfi_sequence.specs.declared.sequence.Sequence.{Sequence}
use Rattle.lfi_sequence.specs.Sequenced.{Sequenced, module_number_of}
use Rattle.lfi_sequence.specs.Tells.{Tells, HasEnd}
use Rattle.lfi_stage.proofs.reports.into_reports.Goals as goal

pub returns : goal.returns
returns c = λ m in_range.
    let e : ModuleReport = record { outcome = Unused; image = Absent; refused = None } in
    let made = c.map.ensures.items.at m None e in_range in
    let told : (s : Sequence) (taken items : List ItemView) → get_or c.args.sequences m None ≡ Some s → Sequenced s taken → Come taken items → HasEnd items → Tells (module_number_of s) (get_or c.map.result m e) items = made.2.met in
    let long = c.map.ensures.items.long in
    (get_or c.map.result m e, slice_get-get_or c.map.result m e (omega arith), λ taken items has come ended. subst (λ k. Tells k (get_or c.map.result m e) items) has.numbered (told has.sequence taken items has.at has.sequenced come ended))
