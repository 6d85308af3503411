use Rattle.lfi_explain.proofs.Near.{explains_by_all}
use Rattle.lfi_explain.proofs.laws.near_words_are_enough.Goals as goal

pub returns : goal.returns
returns c = λ ws place known e inside near. explains_by_all ws place inside known e near
