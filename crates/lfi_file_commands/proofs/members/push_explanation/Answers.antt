use Rattle.std.proofs.Common.{◌++◌, codes}
use Rattle.std.specs.Prelude.{string_bytes}
use Rattle.std.proofs.lemmas.Result.{on_ok_weaker}
use Rattle.lfi_explain.specs.Explanations.{explanation_text}
use Rattle.lfi_file_commands.specs.Json.{mend_value, quoted}
use Rattle.lfi_file_commands.proofs.Pushed.{more}
use Rattle.lfi_file_commands.proofs.members.push_explanation.Goals as goal

pub returns : goal.returns
returns c =
    let old = string_bytes c.args.text.now in
    let e = c.args.explanation.now in
    let first = codes ",\"explanation\":" in
    let text = quoted (explanation_text e) in
    let second = codes ",\"mend\":" in
    let one = more old _ _ first text c.in_ok-push_plain.ensures c.in_ok-push_quoted.ensures in
    let two = more old _ _ (first ++ text) second one c.in_ok-push_plain-2.ensures in
    on_ok_weaker c.push_mend.result (λ last. more old _ _ (first ++ text ++ second) (mend_value e.mend) two last) c.push_mend.ensures
