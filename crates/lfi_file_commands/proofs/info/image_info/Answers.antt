use Rattle.std.proofs.Common.{◌≡◌, ◌∙◌, ◌++◌, inr, subst}
use Rattle.std.specs.Prelude.{IfOk, codes, string_bytes}
use Rattle.std.proofs.lemmas.Result.{IfOk-weaker}
use Rattle.lfi_run_image.specs.declared.image_run.ImageRun.TheVariants.{Refused}
use Rattle.lfi_run_image.specs.Texts.{run_text}
use Rattle.lfi_file_commands.proofs.info.image_info.Goals as goal

pub returns-in-Err-clause-info : goal.returns-in-Err-clause-info
returns-in-Err-clause-info c =
    IfOk-weaker c.of.result _ _ (λ info is. inr (
      c.in-Err.fault,
      c.in-Err.ensures.fault,
      subst (λ text. IfOk text (λ s. string_bytes s ≡ run_text (Refused c.in-Err.fault) ++ codes "\n")) is.0 c.format.ensures.ok,
      is.1 ∙ c.of_run-ending.ensures,
    )) c.of.ensures.info
