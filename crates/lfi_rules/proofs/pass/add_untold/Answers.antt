use Rattle.std.proofs.Common.{◌≡◌, ℕ, ◌+◌, ◌<◌, ◌≤◌, List, length, sym, ap, ◌∙◌, arith, inl, inr}
use Rattle.std.specs.Prelude.{slice_index}
use Rattle.lfi_rules.specs.inner.Passing.{moved}
use Rattle.lfi_rules.proofs.Spans.{moved_at}
use Rattle.lfi_rules.proofs.Untold.{added_none, added_more, added_all}
use Rattle.lfi_rules.proofs.pass.add_untold.Goals.{then-not-is_told, else-not-is_told}
use Rattle.lfi_rules.proofs.pass.add_untold.Goals as goal

pub loop-note-init : goal.loop-note-init
loop-note-init g c = record {
  few = omega arith;
  marks = added_none c.args.region.profile (g.W.Words.words c.args.region.words.now) c.args.region.first c.args.region.n c.args.places.now c.args.before (moved c.args.ahead c.args.notes.now) (length c.args.notes.now);
}

pub loop-note-preserved : goal.loop-note-preserved
loop-note-preserved g c =
    let ws : List ℕ = g.W.Words.words c.args.region.words.now in
    let ahead : ℕ = c.args.ahead in
    let notes : List ℕ = c.args.notes.now in
    let at : ℕ = c.loop-note.note-index in
    let kept : ℕ = c.loop-note.kept in
    let few : kept ≤ c.args.before + at = c.loop-note.invariant.few in
    let low : at < length notes = c.loop-note-test.true in
    let room : c.args.before + length notes ≤ length c.args.places.now = c.requires.room in
    let size : length c.loop-note.places ≡ length c.args.places.now = c.loop-note.auto.places in
    let same : c.from.result + ahead ≡ slice_index (moved ahead notes) at = ap (λ x. x + ahead) c.from.ensures ∙ sym (moved_at ahead notes at low) in
    record {
      few = elim c.if-not-is_told.branch [
        | then-not-is_told b ↦ let e : c.if-not-is_told.kept ≡ kept + 1 = b.kept-is in omega arith
        | else-not-is_told b ↦ let e : c.if-not-is_told.kept ≡ kept = b.kept-is in omega arith
      ];
      marks = added_more c.args.region.profile ws c.args.region.first c.args.region.n c.args.places.now c.args.before (moved ahead notes) (length notes) at c.loop-note.places kept c.if-not-is_told.kept
          (c.from.result + ahead) low (omega arith) same c.loop-note.invariant.marks (elim c.if-not-is_told.branch [
            | then-not-is_told b ↦ inl b.kept-is
            | else-not-is_told b ↦ inr (b.kept-is, c.is_told.ensures b.if-not-is_told.false)
          ]);
    }

pub returns-clause-marked : goal.returns-clause-marked
returns-clause-marked g c = λ begin start stop order down m0 m.
    added_all c.args.region.profile (g.W.Words.words c.args.region.words.now) c.args.region.first c.args.region.n c.args.places.now c.args.before (moved c.args.ahead c.args.notes.now)
    (length c.args.notes.now) c.loop-note.note-index c.loop-note.places c.loop-note.kept begin start stop c.loop-note.invariant.marks c.loop-note-test.false order down m0 m
