use Rattle.std.proofs.Common.{map, take}
use Rattle.lfi_file_commands.specs.Errors.{is_lost_of, writer_of}
use Rattle.lfi_file_commands.specs.Failures.{Told}
use Rattle.lfi_file_commands.specs.Kinds.{kind_notes}
use Rattle.lfi_file_commands.proofs.packing.tell_kinds.Given as goal

abbrev pub invariant-loop-number : goal.invariant-loop-number
invariant-loop-number g l = Told (is_lost_of l.errors) (g.E.Write.contents (writer_of l.initial.errors)) (g.E.Write.contents (writer_of l.errors))
    (kind_notes (map (λ path. path.now) l.paths) (take l.number (map (λ file. file.items) l.files)))
