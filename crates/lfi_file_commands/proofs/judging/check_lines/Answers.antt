use Rattle.std.proofs.Common.{◌∙◌, ap, inl, inr, subst, sym}
use Rattle.std.proofs.lemmas.List.{length-map}
use Rattle.lfi_file_commands.specs.Explaining.{ChecksPath, paths_of}
use Rattle.lfi_file_commands.specs.Several.{AreDone}
use Rattle.lfi_file_commands.specs.Endings.{EndsUnlessLost}
use Rattle.lfi_file_commands.specs.Errors.{is_lost_of, writer_of}
use Rattle.lfi_file_commands.specs.declared.failure.Target.TheVariants.{StandardOutput}
use Rattle.lfi_file_commands.specs.declared.failure.Failure.TheVariants.{CannotWrite}
use Rattle.lfi_file_commands.specs.Failures.{Told, failure_line}
use Rattle.lfi_file_commands.proofs.judging.check_lines.Goals as goal

pub returns-in-Ok : goal.returns-in-Ok
returns-in-Ok g c =
    inl (
      c.in-Ok.worst,
      subst (λ n. AreDone (ChecksPath c.args.asked.now (g.D.Disk.file_at c.args.disk.now)) (paths_of c.args.asked.now) n c.args.outputs.now c.check_files.new.outputs c.in-Ok.worst)
          (sym (length-map c.args.asked.now.files.items (λ path. path.now))) c.in-Ok.ensures.all,
      subst (λ (left : _). EndsUnlessLost left.is_lost c.in-Ok.worst c.unless_lost.result) c.outputs.view_is c.unless_lost.ensures,
    )

pub returns-in-Err : goal.returns-in-Err
returns-in-Err g c =
    let part = c.in-Err.ensures.part in
    let lost = is_lost_of c.tell_failure.new.errors in
    let told = g.E.Write.contents (writer_of c.tell_failure.new.errors) in
    let line = failure_line (CannotWrite StandardOutput c.in-Err.cause) in
    let is = c.outputs.view_is in
    let tells = subst (λ failure. Told lost (g.E.Write.contents (writer_of c.outputs.inside.errors)) told (failure_line failure)) c.of_output.ensures c.tell_failure.ensures.told in
    let same = ap (λ (left : _). left.errors) is ∙ part.4.1.0 in
    inr (c.in-Err.cause, (part.0, part.1, part.2, part.3, subst (λ before. Told lost before told line) same tells, ap (λ (left : _). left.put) is ∙ part.4.0, c.tell_failure.ensures.failed))
