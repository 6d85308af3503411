use Rattle.std.proofs.Common.{refl, subst}
use Rattle.lfi_file_commands.specs.Endings.{EndsUnlessLost}
use Rattle.lfi_file_commands.specs.Errors.{is_lost_of, writer_of}
use Rattle.lfi_file_commands.specs.Left.{left}
use Rattle.lfi_file_commands.specs.Listing.{HasListed, WritesWords, marks_by}
use Rattle.lfi_file_commands.proofs.Explained.{words_known}
use Rattle.lfi_file_commands.proofs.running.run_disassemble.Goals as goal

pub returns-in-Ok-disassemble-clause-found : goal.returns-in-Ok-disassemble-clause-found
returns-in-Ok-disassemble-clause-found g c =
    let inside = c.outputs.inside in
    let asked = c.args.asked.now in
    let file = g.D.Disk.file_at c.args.disk.now asked.file.now in
    let lost = is_lost_of c.tell_listed.new.errors in
    let told = g.E.Write.contents (writer_of c.tell_listed.new.errors) in
    let new = left (g.O.Write.contents c.disassemble.new.writer) (g.P.ImageStore.put_files inside.images) lost told in
    subst (λ old. HasListed asked file old new c.unless_lost.result) c.outputs.view_is
    (record {
      listed = c.in-Ok-disassemble.listed;
      written = words_known (marks_by asked.marks) asked.profile (g.D.Reader.Read.remaining c.in-Ok.reader) file c.in-Ok-disassemble.listed
          (g.O.Write.contents inside.out) (g.O.Write.contents c.disassemble.new.writer) c.in-Ok.ensures.reader
          (subst (λ marks. WritesWords marks asked.profile (g.D.Reader.Read.remaining c.in-Ok.reader) c.in-Ok-disassemble.listed (g.O.Write.contents inside.out) (g.O.Write.contents c.disassemble.new.writer)) c.marks_by.ensures c.in-Ok-disassemble.ensures.listed);
      put = refl;
      told = c.tell_listed.ensures.told;
      ends = subst (λ told. EndsUnlessLost lost told c.unless_lost.result) c.ending.ensures c.unless_lost.ensures;
    })
