use Rattle.std.proofs.Common.{map}
use Rattle.lfi_file_commands.proofs.Streams.{written_more}
use Rattle.lfi_file_commands.proofs.packing.write_stream.Goals as goal

pub loop-place-preserved : goal.loop-place-preserved
loop-place-preserved g c =
    written_more c.args.asked.now (map (λ file. file.items) c.args.files.now) c.loop-place.place c.code_at.result.now
    (g.W.Write.contents c.args.writer.now) (g.W.Write.contents c.loop-place.writer) (g.W.Write.contents c.write_module.new.writer) c.code_at.ensures
    c.loop-place.invariant c.in_ok-write_module.ensures
