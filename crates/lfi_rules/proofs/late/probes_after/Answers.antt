use Rattle.std.proofs.Common.{arith}
use Rattle.lfi_rules.proofs.Next.{by_next}
use Rattle.lfi_rules.proofs.late.probes_after.Goals as goal

pub returns-else-i-count : goal.returns-else-i-count
returns-else-i-count g c = λ p h. by_next p (g.W.Words.words c.args.words.now) c.args.i c.word.result _ (omega arith) c.word.ensures (c.is_met.ensures.met p h)
