use Rattle.lfi_sequence.proofs.Made.{all_made, made_come, nothing_made}
use Rattle.lfi_sequence.proofs.delivery.all_made.Goals as goal

pub returns-clause-claimed : goal.returns-clause-claimed
returns-clause-claimed c = all_made

pub returns-clause-in_order : goal.returns-clause-in_order
returns-clause-in_order c = made_come

pub returns-clause-unclaimed : goal.returns-clause-unclaimed
returns-clause-unclaimed c = nothing_made
