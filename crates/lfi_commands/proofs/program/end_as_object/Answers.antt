use Rattle.std.proofs.Common.{◌∙◌, ap, inl, inr, subst}
use Rattle.std.specs.Io.KnownBytes.{Appends}
use Rattle.lfi_file_commands.specs.Errors.{is_lost_of, writer_of}
use Rattle.lfi_file_commands.specs.Failures.{failure_line, Told}
use Rattle.lfi_file_commands.specs.Images.{folder_or_none}
use Rattle.lfi_file_commands.specs.Left.{Left}
use Rattle.lfi_commands.specs.Clients.{read_lines}
use Rattle.lfi_commands.specs.Endings.{EndsLoad}
use Rattle.lfi_commands.specs.Loading.{folder_of}
use Rattle.lfi_commands.specs.inner.Known.{known_of}
use Rattle.lfi_commands.proofs.program.end_as_object.Goals as goal

pub returns-in-Ok : goal.returns-in-Ok
returns-in-Ok g c =
    let report = c.args.report.now in
    let sources = known_of c.args.sources.now in
    let asked = c.args.asked.now in
    let folder = folder_or_none (folder_of asked) in
    let puts = c.write_asked_images-all in
    let put = puts.ensures.written (c.new-items.ensures folder) in
    let is = c.outputs.view_is in
    let object = c.in-Ok.ensures.written folder put.0.fates put.1 in
    let errors = c.tell_reads.new.errors in
    record {
      all = puts.result;
      images = puts.new.outputs;
      puts = put.0;
      before = puts.ensures.out;
      put = ap (λ (left : Left). left.put) is;
      lost = λ was. c.tell_reads.ensures.lost (ap (λ (left : Left). left.is_lost) is ∙ was);
      ends = inl (
        object.0,
        object.1,
        (
          subst (λ old. Appends old (g.O.Write.contents c.write_report_object.new.out) object.0) (ap (λ (left : Left). left.out) is) object.2,
          subst (λ before. Told (is_lost_of errors) before (g.E.Write.contents (writer_of errors)) (read_lines report.faults sources.kinds)) (ap (λ (left : Left). left.errors) is) c.tell_reads.ensures.told,
          subst (λ taken. EndsLoad report taken puts.result c.ending_of_load.result) c.are_all_taken.ensures c.ending_of_load.ensures,
        ),
      );
    }

pub returns : goal.returns
returns g c =
    let asked = c.args.asked.now in
    let folder = folder_or_none (folder_of asked) in
    let puts = c.write_asked_images-all in
    let put = puts.ensures.written (c.new-items.ensures folder) in
    let is = c.outputs.view_is in
    let errors = c.tell_failure.new.errors in
    record {
      all = puts.result;
      images = puts.new.outputs;
      puts = put.0;
      before = puts.ensures.out;
      put = ap (λ (left : Left). left.put) is;
      lost = λ was. c.tell_failure.ensures.lost (ap (λ (left : Left). left.is_lost) is ∙ was);
      ends = inr (
        c.in-Err.failure,
        c.in-Err.ensures.failure,
        (λ other. ap g.O.Write.contents (c.in-Err.ensures.unwritten other) ∙ ap (λ (left : Left). left.out) is),
        subst (λ before. Told (is_lost_of errors) before (g.E.Write.contents (writer_of errors)) (failure_line c.in-Err.failure)) (ap (λ (left : Left). left.errors) is) c.tell_failure.ensures.told,
        c.tell_failure.ensures.failed,
      );
    }
