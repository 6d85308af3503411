use Rattle.std.proofs.Common.{◌≡◌, ◌≤◌, map, take}
use Rattle.lfi_command_line.specs.Flaws.{input_count}
use Rattle.lfi_command_line.proofs.flaw.input_count.Given as goal

abbrev pub invariant-loop-index : goal.invariant-loop-index
invariant-loop-index l = (l.count ≡ input_count (map (λ s. s.now) (take l.index l.paths))) × (l.count ≤ l.index)
