use Rattle.lfi_check.proofs.Cuts.{ended}
use Rattle.lfi_check.proofs.cut.CutBeginning.ended.Goals as goal

pub returns-clause-begins : goal.returns-clause-begins
returns-clause-begins c = ended c.args.self
