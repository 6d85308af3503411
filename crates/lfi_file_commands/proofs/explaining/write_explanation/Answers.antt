use Rattle.std.proofs.Common.{length, subst}
use Rattle.std.proofs.lemmas.Result.{on_ok_weaker}
use Rattle.a64_word.specs.Words.{words_of}
use Rattle.lfi_explain.specs.Explanations.{Explains}
use Rattle.lfi_rules.proofs.Following.{fault_within}
use Rattle.lfi_file_commands.proofs.explaining.write_explanation.Goals as goal

pub explain-explanation-requires-clause-inside : goal.explain-explanation-requires-clause-inside
explain-explanation-requires-clause-inside g c = fault_within c.args.around.profile (words_of c.args.code.now) (length (words_of c.args.code.now)) c.args.fault c.requires.fault

pub explain-explanation-requires-clause-most : goal.explain-explanation-requires-clause-most
explain-explanation-requires-clause-most g c = c.requires.most

pub returns : goal.returns
returns g c =
    let explanation = c.explain-explanation.result in
    let explains = subst (λ slot. Explains c.args.around.profile (words_of c.args.code.now) slot c.args.fault explanation) c.slot.ensures c.explain-explanation.ensures.explains in
    on_ok_weaker c.write_explained.result (λ written. (explanation, explains, written)) c.write_explained.ensures
