use Rattle.std.proofs.Common.{◌≡◌, ℕ, ◌+◌, ◌≤◌, List, arith, inl, inr}
use Rattle.lfi_rules.proofs.Untold.{kept_none, kept_more, kept_all}
use Rattle.lfi_rules.proofs.pass.keep_unprobed.Goals.{then-not-is_probed, else-not-is_probed}
use Rattle.lfi_rules.proofs.pass.keep_unprobed.Goals as goal

pub loop-at-init : goal.loop-at-init
loop-at-init g c = record {
  few = omega arith;
  marks = kept_none c.args.region.profile (g.W.Words.words c.args.region.words.now) c.args.region.first c.args.region.n c.args.places.now c.args.count;
}

pub loop-at-preserved : goal.loop-at-preserved
loop-at-preserved g c =
    let ws : List ℕ = g.W.Words.words c.args.region.words.now in
    let kept : ℕ = c.loop-at.left in
    let few : kept ≤ c.loop-at.at = c.loop-at.invariant.few in
    record {
      few = elim c.if-not-is_probed.branch [
        | then-not-is_probed b ↦ let e : c.if-not-is_probed.left ≡ kept + 1 = b.left-is in omega arith
        | else-not-is_probed b ↦ let e : c.if-not-is_probed.left ≡ kept = b.left-is in omega arith
      ];
      marks = kept_more c.args.region.profile ws c.args.region.first c.args.region.n c.args.places.now c.args.count c.loop-at.at c.loop-at.places kept c.if-not-is_probed.left
          c.loop-at-test.true c.requires.count c.loop-at.auto.places few c.loop-at.invariant.marks (elim c.if-not-is_probed.branch [
            | then-not-is_probed b ↦ inl b.left-is
            | else-not-is_probed b ↦ inr (b.left-is, c.is_probed.ensures b.if-not-is_probed.false)
          ]);
    }

pub returns-clause-marked : goal.returns-clause-marked
returns-clause-marked g c = λ start stop m.
    kept_all c.args.region.profile (g.W.Words.words c.args.region.words.now) c.args.region.first c.args.region.n c.args.places.now c.args.count c.loop-at.at c.loop-at.places c.loop-at.left start stop
    c.loop-at.invariant.marks c.loop-at-test.false m
