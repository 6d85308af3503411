use Rattle.std.proofs.Common.{rules, ◌++◌, None, get_or}
use Rattle.lfi_commands.specs.Objects.{module_item}
use Rattle.lfi_file_commands.proofs.Pushed.{more}
use Rattle.lfi_commands.proofs.ModuleObjects.{modules_next}
use Rattle.lfi_commands.proofs.objects.push_modules.Goals as goal

pub loop-number-preserved : goal.loop-number-preserved
loop-number-preserved c =
    let done = c.loop-number.invariant in
    let k = c.loop-number.number in
    let holders = c.args.holders.now in
    let report = c.index-modules-number.result in
    let told = c.asked_refusal-told.result in
    let item = module_item k report.outcome told (get_or holders k None) in (
      done.0 ++ item,
      modules_next c.args.explain holders c.args.modules.now k report done.0 told (search rules) c.index-modules-number.is done.1 c.asked_refusal-told.ensures,
      more _ _ _ done.0 item done.2 c.in_ok-push_module.ensures,
    )
