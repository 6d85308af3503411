use Rattle.lfi_check.proofs.Cuts.{first}
use Rattle.lfi_check.proofs.cut.CutBeginning.fault.Goals as goal

pub returns : goal.returns
returns c = first c.args.self
