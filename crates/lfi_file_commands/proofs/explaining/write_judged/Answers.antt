use Rattle.std.proofs.Common.{subst}
use Rattle.lfi_file_commands.specs.Checking.{naming_text}
use Rattle.lfi_file_commands.specs.Explaining.{WritesFault}
use Rattle.lfi_file_commands.proofs.Explained.{refused_now}
use Rattle.lfi_check.proofs.Spelled.{few, some_words}
use Rattle.lfi_file_commands.proofs.explaining.write_judged.Goals as goal

pub check_all-requires-clause-some : goal.check_all-requires-clause-some
check_all-requires-clause-some g c = some_words c.args.code.now c.requires.code

pub check_all-requires-clause-most : goal.check_all-requires-clause-most
check_all-requires-clause-most g c = few c.args.code.now c.requires.code

pub write_fault-requires-clause-most : goal.write_fault-requires-clause-most
write_fault-requires-clause-most g c = few c.args.code.now c.requires.code

pub returns-in-Ok-clause-written : goal.returns-in-Ok-clause-written
returns-in-Ok-clause-written g c =
    let name = naming_text c.args.around.name in
    let profile = c.args.around.profile in
    let code = c.args.code.now in
    let fault = c.in-Some.fault in
    let old = g.W.Write.contents c.args.writer.now in
    let new = g.W.Write.contents c.write_fault.new.writer in
    refused_now name profile c.args.how code fault old new (c.requires.code, c.in-Some.ensures)
    (subst (λ kind. WritesFault name kind profile c.args.how code fault old new) c.requires.kind c.in-Ok.ensures.written)
