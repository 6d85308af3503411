use Rattle.std.proofs.Common.{OnOk, subst, sym}
use Rattle.lfi_file_commands.specs.Checking.{naming_text}
use Rattle.lfi_file_commands.specs.Explaining.{WritesFault}
use Rattle.lfi_file_commands.proofs.explaining.write_fault.Goals as goal

pub write_explanation-requires-clause-fault : goal.write_explanation-requires-clause-fault
write_explanation-requires-clause-fault g c = c.requires.fault

pub write_explanation-requires-clause-most : goal.write_explanation-requires-clause-most
write_explanation-requires-clause-most g c = c.requires.most

pub returns-in-All-clause-written : goal.returns-in-All-clause-written
returns-in-All-clause-written g c =
    let did = c.write_each_refusal in
    subst (λ how. OnOk did.result (WritesFault (naming_text c.args.around.name) c.args.around.kind c.args.around.profile how c.args.code.now c.args.fault (g.W.Write.contents c.args.writer.now) (g.W.Write.contents did.new.writer))) (sym c.in-All.is) did.ensures.written
