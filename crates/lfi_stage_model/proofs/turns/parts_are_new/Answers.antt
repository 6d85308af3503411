use Rattle.lfi_stage_model.proofs.Kept.{new_verifier, new_sequencer}
use Rattle.lfi_stage_model.proofs.turns.parts_are_new.Goals as goal

pub returns-clause-verifier : goal.returns-clause-verifier
returns-clause-verifier c = new_verifier

pub returns-clause-sequencer : goal.returns-clause-sequencer
returns-clause-sequencer c = new_sequencer
