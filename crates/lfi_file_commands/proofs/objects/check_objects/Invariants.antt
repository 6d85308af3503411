use Rattle.lfi_file_commands.specs.Explaining.{ChecksObject, paths_of}
use Rattle.lfi_file_commands.specs.Several.{AreDone}
use Rattle.lfi_file_commands.proofs.objects.check_objects.Given as goal

abbrev pub invariant-loop-number : goal.invariant-loop-number
invariant-loop-number g l = AreDone (ChecksObject l.fn.asked (g.D.Disk.file_at l.fn.disk)) (paths_of l.fn.asked) l.number l.initial.outputs l.outputs l.worst
