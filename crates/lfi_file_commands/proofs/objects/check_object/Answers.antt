use Rattle.std.proofs.Common.{◌∙◌, ap, inl, inr, refl, subst}
use Rattle.std.specs.Prelude.{string_bytes}
use Rattle.std.specs.Io.KnownBytes.{Appends}
use Rattle.lfi_file_commands.specs.Checking.{TellsOf, ending_of}
use Rattle.lfi_file_commands.specs.Errors.{is_lost_of, writer_of}
use Rattle.lfi_file_commands.specs.Explaining.{ChecksObject}
use Rattle.lfi_file_commands.specs.Left.{left}
use Rattle.lfi_file_commands.proofs.objects.check_object.Goals as goal

pub returns-in-Ok-write_part-clause-found : goal.returns-in-Ok-write_part-clause-found
returns-in-Ok-write_part-clause-found g c =
    let inside = c.outputs.inside in
    let asked = c.args.asked.now in
    let file = c.args.file in
    let judged = c.in-Ok.judged in
    let was = is_lost_of inside.errors in
    let before = g.E.Write.contents (writer_of inside.errors) in
    let lost = is_lost_of c.tell_other.new.errors in
    let told = g.E.Write.contents (writer_of c.tell_other.new.errors) in
    let out = g.O.Write.contents c.write_part.new.out in
    let new = left out (g.P.ImageStore.put_files inside.images) lost told in
    subst (λ old. ChecksObject asked (g.D.Disk.file_at c.args.disk.now) file.before file.path.now old new c.of_verdict.result) c.outputs.view_is
    (inl (record {
      finding = judged.finding;
      object = string_bytes judged.text;
      is = c.in-Ok.ensures.judged;
      written = subst (λ text. Appends (g.O.Write.contents inside.out) out text) c.as_str.ensures.value c.in-Ok-write_part.ensures.written;
      told = subst (λ o. TellsOf file.path.now o was lost before told) c.other.ensures c.tell_other.ensures.told;
      put = refl;
      ends = c.of_verdict.ensures ∙ ap ending_of c.verdict.ensures;
    }))

pub returns-in-Ok-write_unread-clause-found : goal.returns-in-Ok-write_unread-clause-found
returns-in-Ok-write_unread-clause-found g c =
    let inside = c.outputs.inside in
    let file = c.args.file in
    let lost = is_lost_of c.tell_failure.new.errors in
    let told = g.E.Write.contents (writer_of c.tell_failure.new.errors) in
    let new = left (g.O.Write.contents c.write_unread.new.out) (g.P.ImageStore.put_files inside.images) lost told in
    subst (λ old. ChecksObject c.args.asked.now (g.D.Disk.file_at c.args.disk.now) file.before file.path.now old new c.tell_failure.result) c.outputs.view_is
    (inr (c.in-Err.failure, c.in-Err.ensures.failure, c.tell_failure.ensures.told, c.in-Ok-write_unread.ensures.written, refl, c.tell_failure.ensures.failed))
