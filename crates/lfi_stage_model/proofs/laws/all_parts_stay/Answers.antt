use Rattle.lfi_stage_model.proofs.Staying.{with_receiver, with_verifier, with_sequencer}
use Rattle.lfi_stage_model.proofs.laws.all_parts_stay.Goals as goal

pub returns-clause-receiver : goal.returns-clause-receiver
returns-clause-receiver c = with_receiver

pub returns-clause-verifier : goal.returns-clause-verifier
returns-clause-verifier c = with_verifier

pub returns-clause-sequencer : goal.returns-clause-sequencer
returns-clause-sequencer c = with_sequencer
