use Rattle.std.proofs.Common.{arith}
use Rattle.lfi_rules.proofs.Next.{by_last}
use Rattle.lfi_rules.proofs.pass.met_after.Goals as goal

pub returns-clause-call : goal.returns-clause-call
returns-clause-call g c = λ p h. by_last p (g.W.Words.words c.args.words.now) c.args.i _ c.word-next.result _ (λ within. omega arith) c.word-next.ensures (c.is_met.ensures.met p h)

pub returns-clause-guard : goal.returns-clause-guard
returns-clause-guard g c = λ p h. by_last p (g.W.Words.words c.args.words.now) c.args.i _ c.word-next.result _ (λ within. omega arith) c.word-next.ensures (c.is_met-2.ensures.met p h)
