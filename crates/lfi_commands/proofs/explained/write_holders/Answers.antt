use Rattle.std.proofs.Common.{rules, None}
use Rattle.std.proofs.Output.{has_written_append, has_written_of_eq}
use Rattle.lfi_model.proofs.Lines.{lines_more}
use Rattle.lfi_commands.specs.Explained.{holder_line}
use Rattle.lfi_commands.proofs.explained.write_holders.Goals as goal

pub loop-number-preserved : goal.loop-number-preserved
loop-number-preserved g c = λ plain.
    has_written_of_eq _ _ _ _ _ (lines_more holder_line c.args.holders.now c.loop-number.number None (search rules))
    (has_written_append _ _ _ _ _ _ (c.loop-number.invariant plain) (search rules))
