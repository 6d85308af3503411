use Rattle.std.proofs.Common.{take}
use Rattle.lfi_reference.specs.Reports.{AreMade}
use Rattle.lfi_reference.proofs.report.connections.Given as goal

abbrev pub invariant-loop-stream : goal.invariant-loop-stream
invariant-loop-stream l = AreMade (take l.stream-index l.streams) l.made.items
