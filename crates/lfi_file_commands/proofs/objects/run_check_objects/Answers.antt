use Rattle.std.proofs.Common.{◌∙◌, ap, codes, inl, inr, length, subst, sym}
use Rattle.std.specs.Io.KnownBytes.{Appends}
use Rattle.std.proofs.lemmas.List.{length-map}
use Rattle.lfi_file_commands.specs.Explaining.{ChecksObject, paths_of}
use Rattle.lfi_file_commands.specs.Several.{AreDone}
use Rattle.lfi_file_commands.specs.Errors.{is_lost_of, writer_of}
use Rattle.lfi_file_commands.specs.Failures.{Told, failure_line}
use Rattle.lfi_file_commands.proofs.objects.run_check_objects.Goals as goal

pub returns-in-Err : goal.returns-in-Err
returns-in-Err g c =
    let part = c.in-Err.ensures.part in
    let lost = is_lost_of c.tell_failure.new.errors in
    let told = g.E.Write.contents (writer_of c.tell_failure.new.errors) in
    let is = c.outputs.view_is in
    let same = ap (λ (left : _). left.errors) is ∙ part.4.1.0 in
    inr (
      c.in-Err.failure,
      c.in-Err.ensures.failure,
      (
        part.0,
        part.1,
        part.2,
        part.3,
        subst (λ before. Told lost before told (failure_line c.in-Err.failure)) same c.tell_failure.ensures.told,
        ap (λ (left : _). left.put) is ∙ part.4.0,
        c.tell_failure.ensures.failed,
      ),
    )

pub returns-in-Ok-write_part : goal.returns-in-Ok-write_part
returns-in-Ok-write_part g c =
    let mid = c.check_objects.new.outputs in
    let is = c.outputs.view_is in
    inl (
      mid,
      c.in-Ok.worst,
      subst (λ n. AreDone (ChecksObject c.args.asked.now (g.D.Disk.file_at c.args.disk.now)) (paths_of c.args.asked.now) n c.args.outputs.now mid c.in-Ok.worst)
          (sym (length-map c.args.asked.now.files.items (λ path. path.now))) c.in-Ok.ensures.all,
      subst (λ (left : _). Appends left.out (g.O.Write.contents c.write_part.new.out) (codes "]}\n")) is c.in-Ok-write_part.ensures.written,
      (ap (λ (left : _). left.put) is, (ap (λ (left : _). left.errors) is, ap (λ (left : _). left.is_lost) is)),
      c.unless_lost.ensures,
    )

pub returns-in-Err-write_part : goal.returns-in-Err-write_part
returns-in-Err-write_part g c =
    let mid = c.check_objects.new.outputs in
    let new = c.ended.new.outputs in
    let is = c.outputs.view_is in
    let tells = c.ended.ensures.failed.1 in
    inr (
      c.in-Err-write_part.failure,
      c.in-Err-write_part.ensures.failure,
      (
        length c.args.asked.now.files.items,
        mid,
        c.in-Ok.worst,
        c.in-Ok.ensures.all,
        subst (λ (left : _). Told new.is_lost left.errors new.errors (failure_line c.in-Err-write_part.failure)) is tells.0,
        tells.2 ∙ ap (λ (left : _). left.put) is,
        c.ended.ensures.failed.0,
      ),
    )
