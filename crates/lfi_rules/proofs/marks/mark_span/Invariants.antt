use Rattle.std.proofs.Common.{◌≡◌, ◌+◌, ◌≤◌, length}
use Rattle.lfi_rules.specs.inner.Passing.{AreMarked, moved}
use Rattle.lfi_rules.proofs.marks.mark_span.Given as goal

abbrev pub invariant-loop-i : goal.invariant-loop-i
invariant-loop-i g l = record {
  size_first : length l.marks.first ≡ 256;
  size_second : length l.marks.second ≡ 256;
  size_third : length l.marks.third ≡ 256;
  size_fourth : length l.marks.fourth ≡ 256;
  few_first : l.counts.first ≤ l.i;
  few_second : l.counts.second ≤ l.i;
  few_third : l.counts.third ≤ l.i;
  few_fourth : l.counts.fourth ≤ l.i;
  first : AreMarked l.region.profile (g.W.Words.words l.region.words.now) l.region.first l.region.n l.start (l.start + l.i) (moved l.start l.marks.first) l.counts.first;
  second : AreMarked l.region.profile (g.W.Words.words l.region.words.now) l.region.first l.region.n (l.start + 256) (l.start + l.i + 256) (moved (l.start + 256) l.marks.second) l.counts.second;
  third : AreMarked l.region.profile (g.W.Words.words l.region.words.now) l.region.first l.region.n (l.start + 512) (l.start + l.i + 512) (moved (l.start + 512) l.marks.third) l.counts.third;
  fourth : AreMarked l.region.profile (g.W.Words.words l.region.words.now) l.region.first l.region.n (l.start + 768) (l.start + l.i + 768) (moved (l.start + 768) l.marks.fourth) l.counts.fourth;
}
