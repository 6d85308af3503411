use Rattle.std.proofs.Common.{sym, subst}
use Rattle.lfi_sync.specs.declared.fate.Absence.{Absence}
use Rattle.lfi_file_commands.specs.declared.device_cause.DeviceCause.{DeviceCause}
use Rattle.lfi_file_commands.specs.Errors.{is_lost_of, writer_of}
use Rattle.lfi_file_commands.specs.Failures.{Told}
use Rattle.lfi_commands.specs.Clients.{absent_line, unread_line}
use Rattle.lfi_commands.proofs.clients.tell_absent.Goals as goal

pub returns-in-NotCome-clause-told : goal.returns-in-NotCome-clause-told
returns-in-NotCome-clause-told g c =
    let new = c.tell_not_come.new.errors in
    subst (λ (why : Absence). Told (is_lost_of new) (g.E.Write.contents (writer_of c.args.errors.now)) (g.E.Write.contents (writer_of new)) (absent_line c.args.number why)) (sym c.in-NotCome.is) c.tell_not_come.ensures.told

pub returns-in-NotTaken-clause-told : goal.returns-in-NotTaken-clause-told
returns-in-NotTaken-clause-told g c =
    let new = c.tell_unread.new.errors in
    subst (λ (why : Absence). Told (is_lost_of new) (g.E.Write.contents (writer_of c.args.errors.now)) (g.E.Write.contents (writer_of new)) (absent_line c.args.number why)) (sym c.in-NotTaken.is)
    (subst (λ (cause : DeviceCause). Told (is_lost_of new) (g.E.Write.contents (writer_of c.args.errors.now)) (g.E.Write.contents (writer_of new)) (unread_line c.args.number cause)) c.of_kind.ensures c.tell_unread.ensures.told)
