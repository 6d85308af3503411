use Rattle.std.proofs.Common.{◌≡◌, ◌≢◌, ℕ, [], Option, Some, None, refl, sym, subst}
use Rattle.std.specs.declared.io.ErrorKind.{ErrorKind}
use Rattle.lfi_frame.specs.declared.fault.FrameFault.{FrameFault}
use Rattle.lfi_frame.specs.declared.fault.FrameFault.TheVariants.{ReadFailed}
use Rattle.lfi_file_commands.specs.declared.device_cause.DeviceCause.{DeviceCause}
use Rattle.lfi_file_commands.specs.Errors.{is_lost_of, writer_of}
use Rattle.lfi_file_commands.specs.Failures.{Told}
use Rattle.lfi_file_commands.proofs.Fates.{told_nil}
use Rattle.lfi_commands.specs.Clients.{read_line, unread_line}
use Rattle.lfi_commands.proofs.clients.tell_read.Goals as goal

no_read : (c : ℕ) (fault : Option FrameFault) (kind : Option ErrorKind) → fault ≢ Some ReadFailed → [] ≡ read_line c fault kind
no_read c None kind other = refl
no_read c (Some ReadFailed) kind other = absurd (other refl)
no_read c (Some fault) kind other = refl

pub returns-then-is_of_a_read-clause-told : goal.returns-then-is_of_a_read-clause-told
returns-then-is_of_a_read-clause-told g c =
    let new = c.tell_unread.new.errors in
    subst (λ (fault : Option FrameFault). Told (is_lost_of new) (g.E.Write.contents (writer_of c.args.errors.now)) (g.E.Write.contents (writer_of new)) (read_line c.args.number fault c.args.kind)) (sym (c.is_of_a_read.ensures.read c.if-is_of_a_read.true))
    (subst (λ (cause : DeviceCause). Told (is_lost_of new) (g.E.Write.contents (writer_of c.args.errors.now)) (g.E.Write.contents (writer_of new)) (unread_line c.args.number cause)) c.cause_told.ensures c.tell_unread.ensures.told)

pub returns-clause-told : goal.returns-clause-told
returns-clause-told g c =
    let errors = c.args.errors.now in
    subst (λ text. Told (is_lost_of errors) (g.E.Write.contents (writer_of errors)) (g.E.Write.contents (writer_of errors)) text) (no_read c.args.number c.args.fault c.args.kind (c.is_of_a_read.ensures.other c.if-is_of_a_read.false))
    (told_nil (is_lost_of errors) (g.E.Write.contents (writer_of errors)))
