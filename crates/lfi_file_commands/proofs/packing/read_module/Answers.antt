use Rattle.std.proofs.Common.{subst, sym}
use Rattle.lfi_file_commands.specs.inner.Whole.{IsReadTo}
use Rattle.lfi_file_commands.proofs.Explained.{no_module_read}
use Rattle.lfi_file_commands.proofs.packing.read_module.Goals as goal

pub returns-in-Some-clause-stop : goal.returns-in-Some-clause-stop
returns-in-Some-clause-stop g c =
    let left = g.D.Reader.Read.remaining c.in-Ok.reader in
    let read = subst (IsReadTo left) (sym c.deref.ensures.value) c.in-Ok-read_whole.ensures.read in
    no_module_read c.args.entry c.args.path.now left (g.D.Disk.file_at c.args.disk.now) c.deref.result.now c.in-Some.no_module c.in-Ok.ensures.reader read c.in-Some.ensures.some
