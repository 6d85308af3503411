use Rattle.lfi_pack.proofs.Numbering.{distinct}
use Rattle.lfi_pack.proofs.laws.numbered_modules.Goals as goal

pub returns : goal.returns
returns c = distinct
