use Rattle.std.proofs.Common.{◌≡◌, true, take}
use Rattle.lfi_file_commands.specs.Errors.{is_lost_of, writer_of}
use Rattle.lfi_file_commands.specs.Failures.{Told}
use Rattle.lfi_commands.specs.Clients.{read_lines}
use Rattle.lfi_commands.proofs.clients.tell_reads.Given as goal

abbrev pub invariant-loop-number : goal.invariant-loop-number
invariant-loop-number g l = record {
  told : Told (is_lost_of l.errors) (g.E.Write.contents (writer_of l.initial.errors)) (g.E.Write.contents (writer_of l.errors)) (read_lines (take l.number l.faults) l.kinds);
  lost : is_lost_of l.initial.errors ≡ true → is_lost_of l.errors ≡ true;
}
