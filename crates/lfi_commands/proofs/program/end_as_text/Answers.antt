use Rattle.std.proofs.Common.{◌≡◌, ◌∙◌, ◌++◌, ap, subst, sym}
use Rattle.std.specs.Io.KnownBytes.{Appends}
use Rattle.lfi_file_commands.specs.Errors.{is_lost_of, writer_of}
use Rattle.lfi_file_commands.specs.Failures.{Told}
use Rattle.lfi_file_commands.specs.Images.{folder_or_none}
use Rattle.lfi_file_commands.specs.Left.{Left, left}
use Rattle.lfi_model.specs.Texts.{summary_text}
use Rattle.lfi_stage.specs.Summaries.{summary_of}
use Rattle.lfi_commands.specs.Clients.{read_lines}
use Rattle.lfi_commands.specs.Endings.{EndsLoad}
use Rattle.lfi_commands.specs.Loading.{folder_of, TellsReport}
use Rattle.lfi_commands.specs.inner.Known.{known_of}
use Rattle.lfi_commands.proofs.program.end_as_text.Goals as goal

pub returns-in-Ok-clause-told : goal.returns-in-Ok-clause-told
returns-in-Ok-clause-told g c =
    let report = c.args.report.now in
    let sources = known_of c.args.sources.now in
    let asked = c.args.asked.now in
    let inside = c.outputs.inside in
    let later = c.outputs-in-Ok.inside in
    let is = c.outputs-in-Ok.view_is in
    let told = c.in-Ok.ensures.written in
    let puts = c.write_asked_images-all in
    let written = (puts.ensures.written (c.new-items.ensures (folder_or_none (folder_of asked)))).0 in
    let images = puts.new.outputs in
    let out = g.O.Write.contents inside.out in
    let half = g.O.Write.contents c.write_told.new.writer in
    let lost = is_lost_of c.tell_reads.new.errors in
    let tells = g.E.Write.contents (writer_of c.tell_reads.new.errors) in
    let new = left (g.O.Write.contents later.out) (g.P.ImageStore.put_files later.images) lost tells in
    let same : new.out ≡ half = ap (λ (left : Left). left.out) is ∙ puts.ensures.out in
    subst (λ old. TellsReport report sources asked old new c.ending_of_load.result) c.outputs.view_is
    (record {
      explained = told.0;
      explains = told.1;
      written = subst (λ written. Appends out written (summary_text (summary_of report) ++ told.0)) (sym same) told.2;
      all = puts.result;
      images = images;
      puts = record { fates = written.fates; each = written.each; puts = written.puts; names = written.names; told = written.told; all_put = written.all_put };
      put = ap (λ (left : Left). left.put) is;
      told = subst (λ before. Told lost before tells (read_lines report.faults sources.kinds)) (ap (λ (left : Left). left.errors) is) c.tell_reads.ensures.told;
      lost = λ was. c.tell_reads.ensures.lost (ap (λ (left : Left). left.is_lost) is ∙ was);
      ends = subst (λ taken. EndsLoad report taken puts.result c.ending_of_load.result) c.are_all_taken.ensures c.ending_of_load.ensures;
    })
