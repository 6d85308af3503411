use Rattle.std.proofs.Common.{map, take}
use Rattle.lfi_file_commands.specs.Packing.{WritesStream}
use Rattle.lfi_file_commands.proofs.packing.write_stream.Given as goal

abbrev pub invariant-loop-place : goal.invariant-loop-place
invariant-loop-place g l =
    WritesStream l.fn.asked (take l.place (map (λ file. file.items) l.files)) (g.W.Write.contents l.initial.writer) (g.W.Write.contents l.writer)
