use Rattle.std.proofs.Common.{Some, sym, subst}
use Rattle.std.specs.Prelude.{IfSome}
use Rattle.lfi_sequence.specs.Refused.{near_words}
use Rattle.lfi_explain.specs.Explanations.{ExplainsNear}
use Rattle.lfi_file_commands.specs.Refused.{known_of, IsToldByAll}
use Rattle.lfi_file_commands.proofs.ToldByAll.{told_by_all}
use Rattle.lfi_file_commands.proofs.refused.refusal_of.Goals as goal

pub returns-in-Some-clause-all : goal.returns-in-Some-clause-all
returns-in-Some-clause-all c =
    let refused = c.in-Some.refused in
    let told = c.explain_near.result in
    let words = near_words refused.refusal.near in
    let by = subst (λ known. ExplainsNear words c.at.result known told) c.known_of.ensures c.explain_near.ensures.explains in
    let here = subst (λ at. ExplainsNear words at (known_of refused) told) c.at.ensures.value by in
    subst (λ it. IfSome it (λ refused. IsToldByAll refused (Some told))) (sym c.in-Some.is) (told_by_all refused told here)
