use Rattle.std.proofs.Common.{sym, subst}
use Rattle.lfi_sync.specs.declared.fate.ClientFate.{ClientFate}
use Rattle.lfi_file_commands.specs.Errors.{is_lost_of, writer_of}
use Rattle.lfi_file_commands.specs.Failures.{Told}
use Rattle.lfi_commands.specs.Clients.{fate_line}
use Rattle.lfi_commands.proofs.clients.tell_fate.Goals as goal

pub returns-in-CutOff-clause-told : goal.returns-in-CutOff-clause-told
returns-in-CutOff-clause-told g c =
    let new = c.tell_cut_off.new.errors in
    subst (λ (fate : ClientFate). Told (is_lost_of new) (g.E.Write.contents (writer_of c.args.errors.now)) (g.E.Write.contents (writer_of new)) (fate_line c.args.number fate)) (sym c.in-CutOff.is) c.tell_cut_off.ensures.told

pub returns-in-Absent-clause-told : goal.returns-in-Absent-clause-told
returns-in-Absent-clause-told g c =
    let new = c.tell_absent.new.errors in
    subst (λ (fate : ClientFate). Told (is_lost_of new) (g.E.Write.contents (writer_of c.args.errors.now)) (g.E.Write.contents (writer_of new)) (fate_line c.args.number fate)) (sym c.in-Absent.is) c.tell_absent.ensures.told
