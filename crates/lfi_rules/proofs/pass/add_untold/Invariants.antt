use Rattle.std.proofs.Common.{◌+◌, ◌≤◌, length}
use Rattle.lfi_rules.specs.inner.Passing.{AreAdded, moved}
use Rattle.lfi_rules.proofs.pass.add_untold.Given as goal

abbrev pub invariant-loop-note : goal.invariant-loop-note
invariant-loop-note g l = record {
  few : l.kept ≤ l.before + l.note-index;
  marks : AreAdded l.region.profile (g.W.Words.words l.region.words.now) l.region.first l.region.n l.initial.places l.before (moved l.ahead l.notes) (length l.notes) l.note-index l.places l.kept;
}
