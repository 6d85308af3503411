use Rattle.lfi_pack.proofs.Hearing.{packed_items}
use Rattle.lfi_pack.proofs.laws.packed_items.Goals as goal

pub returns : goal.returns
returns c = packed_items
