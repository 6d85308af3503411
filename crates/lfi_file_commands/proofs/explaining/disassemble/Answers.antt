use Rattle.std.proofs.Common.{subst, sym}
use Rattle.std.proofs.lemmas.Result.{IfOk-weaker}
use Rattle.lfi_file_commands.specs.inner.Whole.{IsReadTo}
use Rattle.lfi_file_commands.proofs.Explained.{words_read}
use Rattle.lfi_file_commands.proofs.explaining.disassemble.Goals as goal

pub returns-in-Ok-clause-listed : goal.returns-in-Ok-clause-listed
returns-in-Ok-clause-listed g c =
    let left = g.R.Read.remaining c.args.reader in
    let read = subst (IsReadTo left) (sym c.deref.ensures.value) c.in-Ok.ensures.read in
    IfOk-weaker c.write_listed.result _ _ (λ other lists. words_read c.args.marks c.args.profile left c.deref.result.now other _ _ read lists) c.write_listed.ensures.listed
