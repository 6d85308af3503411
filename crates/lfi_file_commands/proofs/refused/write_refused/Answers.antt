use Rattle.std.proofs.Common.{rules, refl, ◌++◌}
use Rattle.std.proofs.KnownBytes.{Appends-trans}
use Rattle.lfi_file_commands.specs.Refused.{refusal_lines}
use Rattle.lfi_file_commands.proofs.Telling.{told_next}
use Rattle.lfi_file_commands.proofs.refused.write_refused.Goals as goal

pub loop-report-preserved : goal.loop-report-preserved
loop-report-preserved g c =
    let done = c.loop-report.invariant in
    let report = c.report-item.result in
    let here = refusal_lines c.refusal_of.result in (
      done.0 ++ here,
      told_next c.args.modules.now c.loop-report.report-index report done.0 here (search rules) c.report-item.is done.1 (c.refusal_of.result, c.refusal_of.ensures.told, refl),
      Appends-trans (g.W.Write.contents c.args.out.now) (g.W.Write.contents c.loop-report.out) (g.W.Write.contents c.write_refusal.new.out) done.0 here done.2 c.in_ok-write_refusal.ensures,
    )
