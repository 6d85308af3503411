use Rattle.lfi_sequence.proofs.Carrying.{carried, hand_carried, rest_taken}
use Rattle.lfi_sequence.proofs.delivery.one_carried.Goals as goal

pub returns-clause-held : goal.returns-clause-held
returns-clause-held c = hand_carried

pub returns-clause-taken : goal.returns-clause-taken
returns-clause-taken c = rest_taken

pub returns-clause-made : goal.returns-clause-made
returns-clause-made c = carried
