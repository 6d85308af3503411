use Rattle.std.proofs.Common.{subst, sym}
use Rattle.std.specs.Prelude.{string_bytes}
use Rattle.lfi_file_commands.specs.inner.Whole.{IsReadTo}
use Rattle.lfi_file_commands.proofs.FileObjects.{object_read}
use Rattle.lfi_file_commands.proofs.objects.judged_at.Goals as goal

pub returns-in-Ok-judged_of-clause-judged : goal.returns-in-Ok-judged_of-clause-judged
returns-in-Ok-judged_of-clause-judged g c =
    let left = g.D.Reader.Read.remaining c.in-Ok.reader in
    let file = c.args.file in
    let judged = c.in-Ok-judged_of.judged in
    let read = subst (IsReadTo left) (sym c.deref.ensures.value) c.in-Ok-read_whole.ensures.read in
    object_read c.args.asked.now file.before file.path.now left (g.D.Disk.file_at c.args.disk.now file.path.now) c.deref.result.now judged.finding (string_bytes judged.text) c.in-Ok.ensures.reader read
    c.in-Ok-judged_of.ensures.found c.in-Ok-judged_of.ensures.told
