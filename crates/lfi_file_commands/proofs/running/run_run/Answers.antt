use Rattle.std.proofs.Common.{refl, subst}
use Rattle.lfi_file_commands.specs.Errors.{is_lost_of, writer_of}
use Rattle.lfi_file_commands.specs.Endings.{EndsUnlessLost}
use Rattle.lfi_file_commands.specs.Left.{left}
use Rattle.lfi_file_commands.specs.Running.{HasRun}
use Rattle.lfi_file_commands.proofs.RunEndings.{ends_run}
use Rattle.lfi_file_commands.proofs.Explained.{came_known}
use Rattle.lfi_file_commands.proofs.running.run_run.Goals as goal

pub returns-clause-found : goal.returns-clause-found
returns-clause-found g c =
    let inside = c.outputs.inside in
    let asked = c.args.asked.now in
    let run = c.in-Ok-run_image.run' in
    let lost = is_lost_of c.tell_run.new.errors in
    let told = g.E.Write.contents (writer_of c.tell_run.new.errors) in
    let ending = c.unless_lost.result in
    let file = g.D.Disk.file_at c.args.disk.now asked.image.now in
    let new = left (g.O.Write.contents c.run_image.new.out) (g.P.ImageStore.put_files inside.images) lost told in
    subst (λ old. HasRun file asked.steps asked.format old new ending) c.outputs.view_is
    (record {
      run = run;
      came = came_known (g.D.Reader.Read.remaining c.in-Ok.reader) file asked.steps _ _ run c.in-Ok.ensures.reader c.in-Ok-run_image.ensures.run;
      put = refl;
      told = c.tell_run.ensures.told;
      ends = ends_run lost run ending (subst (λ told. EndsUnlessLost lost told ending) c.of_run.ensures c.unless_lost.ensures);
    })
