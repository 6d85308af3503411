use Rattle.lfi_sequence.proofs.HandsOn.{hand_taken, hand_put}
use Rattle.lfi_sequence.proofs.delivery.one_hand.Goals as goal

pub returns-clause-takes : goal.returns-clause-takes
returns-clause-takes c = hand_taken

pub returns-clause-puts : goal.returns-clause-puts
returns-clause-puts c = hand_put
