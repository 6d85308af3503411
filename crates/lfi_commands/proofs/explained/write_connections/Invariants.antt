use Rattle.std.proofs.Common.{map, take}
use Rattle.std.specs.Fmt.{HasWritten, IsPlainFormatter}
use Rattle.lfi_commands.specs.Explained.{all_connection_lines}
use Rattle.lfi_commands.proofs.explained.write_connections.Given as goal

abbrev pub invariant-loop-number : goal.invariant-loop-number
invariant-loop-number g l =
    IsPlainFormatter l.initial.f →
    HasWritten g.W.Write.write_str_gives l.initial.f (all_connection_lines (take l.number l.connections.faults) l.connections.starts l.connections.strays (map (λ path. path.now) l.connections.paths.now)) l.f
