use Rattle.lfi_check.proofs.Begun.{checks_lawful, checks_refused}
use Rattle.lfi_check.proofs.beginning.Beginning.verdict.Goals as goal

pub returns-in-Some : goal.returns-in-Some
returns-in-Some c = λ bytes h. checks_refused bytes c.args.self c.in-Some.fault h c.requires.all c.requires.some c.in-Some.is

pub returns-in-None : goal.returns-in-None
returns-in-None c = λ bytes h. checks_lawful bytes c.args.self h c.requires.all c.requires.some c.in-None.is
