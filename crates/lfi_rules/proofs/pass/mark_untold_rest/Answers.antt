use Rattle.std.proofs.Common.{ℕ, List, arith}
use Rattle.lfi_rules.specs.inner.Passing.{AreMarked}
use Rattle.lfi_rules.proofs.Marked.{none_marked}
use Rattle.lfi_rules.proofs.Spans.{noted_within}
use Rattle.lfi_rules.proofs.pass.mark_untold_rest.Goals as goal

pub add_untold-requires-clause-within : goal.add_untold-requires-clause-within
add_untold-requires-clause-within g c =
    noted_within c.args.region.profile (g.W.Words.words c.args.region.words.now) c.args.region.first c.args.region.n c.args.start c.args.stop c.args.start _ c.requires.stop c.mark_rest-count.ensures.marked

pub returns-clause-marked : goal.returns-clause-marked
returns-clause-marked g c =
    let ws : List ℕ = g.W.Words.words c.args.region.words.now in
    let none : AreMarked c.args.region.profile ws c.args.region.first c.args.region.n c.args.start c.args.start c.args.places.now 0 =
    none_marked c.args.region.profile ws c.args.region.first c.args.region.n c.args.start c.args.places.now in
    c.add_untold.ensures.marked c.args.start c.args.start c.args.stop (omega arith) c.requires.start none c.mark_rest-count.ensures.marked
