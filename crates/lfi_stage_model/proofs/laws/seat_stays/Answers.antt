use Rattle.lfi_stage_model.proofs.Staying.{seat_turns, seat_saw}
use Rattle.lfi_stage_model.proofs.laws.seat_stays.Goals as goal

pub returns-clause-turn : goal.returns-clause-turn
returns-clause-turn c = seat_turns

pub returns-clause-ended : goal.returns-clause-ended
returns-clause-ended c = seat_saw
