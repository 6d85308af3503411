use Rattle.std.proofs.Common.{◌≤◌, ◌-◌, length}
use Rattle.lfi_rules.specs.inner.Passing.{AreFine}
use Rattle.lfi_rules.proofs.pass.first_in_rest.Given as goal

abbrev pub invariant-loop-start : goal.invariant-loop-start
invariant-loop-start g l = record {
  within : l.start ≤ length (g.W.Words.words l.region.words.now);
  fine : AreFine l.region.profile (g.W.Words.words l.region.words.now) l.region.first l.region.n 0 l.start;
}

abbrev pub decreases-loop-start : goal.decreases-loop-start
decreases-loop-start g l = l.count - l.start
