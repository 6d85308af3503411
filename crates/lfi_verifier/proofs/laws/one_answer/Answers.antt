use Rattle.lfi_verifier.proofs.One.{one}
use Rattle.lfi_verifier.proofs.laws.one_answer.Goals as goal

pub returns : goal.returns
returns c = λ profile bytes number other told again a b. one profile bytes a.verdict b.verdict number other told again a.checks b.checks a.tells b.tells
