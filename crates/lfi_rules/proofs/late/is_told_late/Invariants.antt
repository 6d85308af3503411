use Rattle.lfi_rules.specs.inner.Passing.{AreCalmAfter}
use Rattle.lfi_rules.proofs.late.is_told_late.Given as goal

abbrev pub invariant-loop-gone : goal.invariant-loop-gone
invariant-loop-gone g l = AreCalmAfter l.region.profile (g.W.Words.words l.region.words.now) l.i l.gone
