use Rattle.lfi_stage_model.proofs.Staying.{receiver_turns, receiver_ends}
use Rattle.lfi_stage_model.proofs.laws.receiver_stays.Goals as goal

pub returns-clause-turn : goal.returns-clause-turn
returns-clause-turn c = receiver_turns

pub returns-clause-end : goal.returns-clause-end
returns-clause-end c = receiver_ends
