use Rattle.lfi_model.proofs.Growing.{share_snoc}
use Rattle.lfi_model.proofs.laws.one_more_message.Goals as goal

pub returns : goal.returns
returns c = share_snoc
