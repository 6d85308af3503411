use Rattle.std.proofs.Common.{length, refl, subst}
use Rattle.std.proofs.lemmas.Result.{on_ok_weaker}
use Rattle.a64_word.specs.Words.{words_of}
use Rattle.lfi_explain.specs.Explanations.{Explains}
use Rattle.lfi_rules.proofs.Following.{fault_within}
use Rattle.lfi_file_commands.specs.Json.{explained_members}
use Rattle.lfi_file_commands.proofs.objects.push_first.Goals as goal

pub explain-explanation-requires-clause-inside : goal.explain-explanation-requires-clause-inside
explain-explanation-requires-clause-inside c = fault_within c.args.profile (words_of c.args.code.now) (length (words_of c.args.code.now)) c.args.fault c.requires.fault

pub explain-explanation-requires-clause-most : goal.explain-explanation-requires-clause-most
explain-explanation-requires-clause-most c = c.requires.most

pub returns : goal.returns
returns c =
    let explanation = c.explain-explanation.result in
    let explains = subst (λ slot. Explains c.args.profile (words_of c.args.code.now) slot c.args.fault explanation) c.slot.ensures c.explain-explanation.ensures.explains in
    on_ok_weaker c.push_explanation.result (λ same. (explained_members explanation, (explanation, explains, refl), same)) c.push_explanation.ensures
