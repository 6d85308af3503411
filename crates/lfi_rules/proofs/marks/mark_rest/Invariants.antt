use Rattle.std.proofs.Common.{◌+◌, ◌≤◌}
use Rattle.lfi_rules.specs.inner.Passing.{AreMarked, moved}
use Rattle.lfi_rules.proofs.marks.mark_rest.Given as goal

abbrev pub invariant-loop-i : goal.invariant-loop-i
invariant-loop-i g l = record {
  few : l.count ≤ l.i;
  marked : AreMarked l.region.profile (g.W.Words.words l.region.words.now) l.region.first l.region.n l.start (l.start + l.i) (moved l.start l.notes) l.count;
}
