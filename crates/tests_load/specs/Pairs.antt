-- A stage whose parts are turned one by one.
use Rattle.std.specs.Prelude.{◌≡◌, length}
use Rattle.lfi_stage.specs.declared.stage.Stage.{Stage}
use Rattle.lfi_stage_model.specs.Parts.{ArePartsOf}

-- all parts of a stage, two receivers and two verifiers
pub record IsPair (stage : Stage) : Type 0 where
  pub receiver_count : length stage.parts.receivers.items ≡ 2
  pub verifier_count : length stage.parts.verifiers.items ≡ 2
  pub parts : ArePartsOf stage.shared stage.parts
