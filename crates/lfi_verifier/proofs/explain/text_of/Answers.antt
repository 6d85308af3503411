use Rattle.std.proofs.Common.{◌++◌, ◌∙◌, ap}
use Rattle.std.proofs.lemmas.Fmt.{contents_after_writes}
use Rattle.lfi_explain.specs.Explanations.{explanation_text}
use Rattle.lfi_verifier.proofs.explain.text_of.Goals as goal

pub returns-in-Ok : goal.returns-in-Ok
returns-in-Ok c =
    contents_after_writes _ (λ s. s.bytes) (λ _ _ _ t. t) _ (explanation_text c.args.explanation.now) _ c.in-Ok.ensures.writes
    ∙ ap (λ l. l ++ explanation_text c.args.explanation.now) c.new-text.ensures
