use Rattle.std.proofs.Common.{subst, sym}
use Rattle.std.proofs.lemmas.Result.{IfOk-weaker}
use Rattle.lfi_file_commands.specs.Checking.{naming_text}
use Rattle.lfi_file_commands.specs.inner.Whole.{IsReadTo}
use Rattle.lfi_file_commands.proofs.Explained.{finding_read, found_read, if_both}
use Rattle.lfi_file_commands.proofs.explaining.check_explained.Goals as goal

pub returns-in-Ok-clause-found : goal.returns-in-Ok-clause-found
returns-in-Ok-clause-found g c =
    let left = g.R.Read.remaining c.args.reader in
    let read = subst (IsReadTo left) (sym c.deref.ensures.value) c.in-Ok.ensures.read in
    IfOk-weaker c.write_found.result _ _ (λ finding is. found_read c.args.profile left c.deref.result.now finding read is) c.write_found.ensures.found

pub returns-in-Ok-clause-written : goal.returns-in-Ok-clause-written
returns-in-Ok-clause-written g c =
    let left = g.R.Read.remaining c.args.reader in
    let read = subst (IsReadTo left) (sym c.deref.ensures.value) c.in-Ok.ensures.read in
    if_both c.write_found.result _ _ _ (λ finding is writes. finding_read (naming_text c.args.name) c.args.profile c.args.how left c.deref.result.now finding _ _ read is writes)
    c.write_found.ensures.found c.write_found.ensures.written
