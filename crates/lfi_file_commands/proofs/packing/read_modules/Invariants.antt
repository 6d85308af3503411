use Rattle.std.proofs.Common.{map, take}
use Rattle.lfi_file_commands.specs.Packing.{AreModulesOf}
use Rattle.lfi_file_commands.proofs.packing.read_modules.Given as goal

abbrev pub invariant-loop-number : goal.invariant-loop-number
invariant-loop-number g l = AreModulesOf l.entry (map (λ path. g.D.Disk.file_at l.fn.disk path.now) (take l.number l.fn.paths)) (map (λ file. file.items) l.files.items)
