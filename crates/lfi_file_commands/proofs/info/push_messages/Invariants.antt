use Rattle.std.proofs.Common.{length}
use Rattle.std.specs.Prelude.{string_bytes}
use Rattle.lfi_file_commands.proofs.Infos.{Pushed}
use Rattle.lfi_file_commands.proofs.info.push_messages.Given as goal

abbrev pub invariant-loop-message : goal.invariant-loop-message
invariant-loop-message l = Pushed l.bytes l.rest (string_bytes l.initial.text) (string_bytes l.text)

abbrev pub decreases-loop-message : goal.decreases-loop-message
decreases-loop-message l = length l.rest
