use Rattle.std.proofs.Common.{take}
use Rattle.std.specs.Fmt.{HasWritten, IsPlainFormatter}
use Rattle.lfi_model.specs.Texts.{connection_line, lines_from}
use Rattle.lfi_model.proofs.summary.write_connections.Given as goal

abbrev pub invariant-loop-number : goal.invariant-loop-number
invariant-loop-number g l =
    IsPlainFormatter l.initial.f → HasWritten g.W.Write.write_str_gives l.initial.f (lines_from connection_line 0 (take l.number l.faults)) l.f
