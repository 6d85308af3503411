use Rattle.std.proofs.Common.{map, take}
use Rattle.lfi_sync.specs.Clients.{read_by}
use Rattle.lfi_file_commands.specs.Opening.{AreInputsOf}
use Rattle.lfi_file_commands.proofs.opening.open_all.Given as goal

abbrev pub invariant-loop-number : goal.invariant-loop-number
invariant-loop-number g l = AreInputsOf (read_by g.D.Reader.Read.remaining) (map (λ path. g.D.Disk.file_at l.fn.disk path.now) (take l.number l.fn.paths)) l.inputs.items
