use Rattle.std.proofs.Common.{ℕ, List, take}
use Rattle.std.specs.Io.KnownBytes.{Appends}
use Rattle.lfi_file_commands.specs.Refused.{TellRefused}
use Rattle.lfi_file_commands.proofs.refused.write_refused.Given as goal

abbrev pub invariant-loop-report : goal.invariant-loop-report
invariant-loop-report g l =
    (text : List ℕ) × TellRefused (take l.report-index l.modules) text × Appends (g.W.Write.contents l.initial.out) (g.W.Write.contents l.out) text
