use Rattle.std.proofs.Common.{rules, None, map}
use Rattle.std.proofs.Output.{has_written_append, has_written_of_eq}
use Rattle.lfi_model.proofs.Lines.{lines_more}
use Rattle.lfi_commands.specs.Explained.{connection_lines}
use Rattle.lfi_commands.proofs.explained.write_connections.Goals as goal

pub loop-number-preserved : goal.loop-number-preserved
loop-number-preserved g c = λ plain.
    let told = c.args.connections.now in
    has_written_of_eq _ _ _ _ _ (lines_more (connection_lines told.starts told.strays (map (λ path. path.now) told.paths.now)) told.faults c.loop-number.number None (search rules))
    (has_written_append _ _ _ _ _ _ (c.loop-number.invariant plain) (search rules))
