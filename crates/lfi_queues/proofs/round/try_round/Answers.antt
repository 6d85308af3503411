-- The second half of a round goes on after the first.
use Rattle.lfi_queues.proofs.Rounds.{second_half, second_again}
use Rattle.lfi_queues.proofs.round.try_round.Goals as goal

pub returns-in-Empty : goal.returns-in-Empty
returns-in-Empty g c = second_half _ c.try_parts-in-Empty.result _ _ _ c.requires c.in-Empty.ensures c.try_parts-in-Empty.ensures

pub returns-in-Empty-try_parts : goal.returns-in-Empty-try_parts
returns-in-Empty-try_parts g c = second_again _ c.try_parts-in-Again.result _ _ _ c.requires c.in-Again.ensures c.try_parts-in-Again.ensures c.in-Empty-try_parts.is
