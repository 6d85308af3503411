use Rattle.lfi_stage_model.proofs.Kept.{lanes_of}
use Rattle.lfi_stage_model.proofs.turns.lanes_of_a_verifier.Goals as goal

pub returns : goal.returns
returns c = lanes_of
