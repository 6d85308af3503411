use Rattle.lfi_stage_model.proofs.Kept.{verifier_stays, verifier_looked, sequencer_stays}
use Rattle.lfi_stage_model.proofs.turns.parts_stay.Goals as goal

pub returns-clause-verifier : goal.returns-clause-verifier
returns-clause-verifier c = verifier_stays

pub returns-clause-looked : goal.returns-clause-looked
returns-clause-looked c = verifier_looked

pub returns-clause-sequencer : goal.returns-clause-sequencer
returns-clause-sequencer c = sequencer_stays
