use Rattle.lfi_rules.specs.inner.Passing.{AreKeptAfter}
use Rattle.lfi_rules.proofs.late.fault_behind.Given as goal

abbrev pub invariant-loop-gone : goal.invariant-loop-gone
invariant-loop-gone g l = AreKeptAfter l.region.profile (g.W.Words.words l.region.words.now) l.region.first l.region.n l.i l.gone l.need
