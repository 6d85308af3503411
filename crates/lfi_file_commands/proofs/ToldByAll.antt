-- The words near a refused module's fault tell of it what all its words tell.
use Rattle.std.proofs.Common.{◌≡◌, Some, subst}
use Rattle.std.specs.Prelude.{min}
use Rattle.lfi_sequence.specs.Refused.{near_words}
use Rattle.lfi_sequence.specs.declared.refused.RefusedModule.{RefusedModule}
use Rattle.lfi_explain.specs.declared.explanation.Explanation.{Explanation}
use Rattle.lfi_explain.specs.Explanations.{ExplainsNear}
use Rattle.lfi_explain.proofs.Near.{explains_by_all}
use Rattle.lfi_file_commands.specs.Refused.{known_of, IsToldByAll}

some_same : (a b : Explanation) → Some a ≡ Some b → a ≡ b
some_same a b e = cc

pub told_by_all : (refused : RefusedModule) (told : Explanation) → ExplainsNear (near_words refused.refusal.near) refused.refusal.near.at (known_of refused) told → IsToldByAll refused (Some told)
told_by_all refused told h = λ ws e near inside same.
    let known = known_of refused in
    let place = refused.refusal.fault.word in
    let there = subst (λ at. ExplainsNear (near_words refused.refusal.near) at known told) near.at h in
    let here = subst (λ words. ExplainsNear words (min place 4) known told) near.words there in
    subst (λ it. ExplainsNear ws place known it) (some_same told e same) (explains_by_all ws place inside known told here)
