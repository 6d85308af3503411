use Rattle.std.proofs.Common.{codes, decimal, subst}
use Rattle.lfi_file_commands.specs.Causes.{cause_line}
use Rattle.lfi_file_commands.specs.Errors.{is_lost_of, writer_of}
use Rattle.lfi_file_commands.specs.Failures.{Told}
use Rattle.lfi_file_commands.proofs.Joined.{joined_line}
use Rattle.lfi_commands.proofs.clients.tell_unread.Goals as goal

pub returns-clause-told : goal.returns-clause-told
returns-clause-told g c =
    let new = c.write_line.new.self in
    subst (λ text. Told (is_lost_of new) (g.E.Write.contents (writer_of c.args.errors.now)) (g.E.Write.contents (writer_of new)) text)
    (joined_line (codes "lfiload: connection ") (decimal c.args.number) (codes ": cannot read") (cause_line c.args.cause) (codes "\n")) c.write_line.ensures.told
