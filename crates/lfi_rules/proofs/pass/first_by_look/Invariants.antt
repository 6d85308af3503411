use Rattle.lfi_rules.specs.inner.Passing.{AreMarkedFine}
use Rattle.lfi_rules.proofs.pass.first_by_look.Given as goal

abbrev pub invariant-loop-place : goal.invariant-loop-place
invariant-loop-place g l = AreMarkedFine l.region.profile (g.W.Words.words l.region.words.now) l.region.first l.region.n l.marked l.place-index
