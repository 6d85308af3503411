use Rattle.std.proofs.Common.{◌≡◌, ℕ, ◌+◌, ◌-◌, ◌<◌, ◌≤◌, List, length, subst, arith}
use Rattle.lfi_rules.specs.inner.Passing.{AreMarked, moved}
use Rattle.lfi_rules.proofs.Spans.{AreCounted, one_more, few_more, noted}
use Rattle.lfi_rules.proofs.marks.mark_rest.Goals as goal

pub loop-i-preserved : goal.loop-i-preserved
loop-i-preserved g c =
    let p = c.args.region.profile in
    let ws : List ℕ = g.W.Words.words c.args.region.words.now in
    let first : ℕ = c.args.region.first in
    let n : ℕ = c.args.region.n in
    let start : ℕ = c.args.start in
    let stop : ℕ = c.args.stop in
    let i : ℕ = c.loop-i.i in
    let least : ℕ = c.least-least.result in
    let high : i < stop - start = c.loop-i-test.true in
    let space : stop ≤ start + length c.args.notes.now = c.requires.space in
    let few : c.loop-i.count ≤ i = c.loop-i.invariant.few in
    let known : AreCounted p ws first n start stop least = record { within = c.requires.stop; reach = c.reach_between.result; number = c.least-least.ensures; far = c.reach_between.ensures.far; two = c.reach_between.ensures.of_profile } in
    record {
      few = few_more c.loop-i.count i c.mark-count.result _ few c.mark-count.ensures.step;
      marked = one_more p ws first n start stop least known start i start (start + i) (start + (i + 1)) c.loop-i.notes c.mark-count.new.notes c.loop-i.count c.mark-count.result (omega arith) (omega arith) (omega arith) (omega arith) (omega arith) (omega arith)
          c.mark-count.ensures.written c.mark-count.ensures.step c.loop-i.invariant.marked;
    }

pub returns-clause-marked : goal.returns-clause-marked
returns-clause-marked g c =
    let start : ℕ = c.args.start in
    let ws : List ℕ = g.W.Words.words c.args.region.words.now in
    let few : c.loop-i.count ≤ c.loop-i.i = c.loop-i.invariant.few in
    let done : c.args.stop - start ≤ c.loop-i.i = c.loop-i-test.false in
    let up : start ≤ c.args.stop = c.requires.start in
    let end : start + c.loop-i.i ≡ c.args.stop = omega arith in
    noted c.args.region.profile ws c.args.region.first c.args.region.n start c.args.stop start c.loop-i.notes c.loop-i.count (omega arith)
    (subst (λ x. AreMarked c.args.region.profile ws c.args.region.first c.args.region.n start x (moved start c.loop-i.notes) c.loop-i.count) end c.loop-i.invariant.marked)
