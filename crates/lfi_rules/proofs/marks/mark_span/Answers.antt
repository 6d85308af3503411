use Rattle.std.proofs.Common.{◌≡◌, ◌≢◌, ℕ, ◌+◌, ◌<◌, ◌≤◌, List, length, subst, ◌∙◌, arith}
use Rattle.lfi_classes.specs.declared.classes.Reach.TheVariants.{Quiet}
use Rattle.lfi_rules.specs.inner.Passing.{AreFarFromEnds, AreMarked, moved}
use Rattle.lfi_rules.proofs.Spans.{AreCounted, one_more, few_more, noted}
use Rattle.lfi_rules.proofs.marks.mark_span.Goals as goal

pub loop-i-preserved : goal.loop-i-preserved
loop-i-preserved g c =
    let p = c.args.region.profile in
    let ws : List ℕ = g.W.Words.words c.args.region.words.now in
    let first : ℕ = c.args.region.first in
    let n : ℕ = c.args.region.n in
    let start : ℕ = c.args.start in
    let i : ℕ = c.loop-i.i in
    let least : ℕ = c.least-least.result in
    let room : start + 1024 ≤ length ws = c.requires.room in
    let high : i < 256 = c.loop-i-test.true in
    let far : c.reach_between.result ≢ Quiet → AreFarFromEnds (first + start) (first + (start + 1024)) n =
    λ near. let f = c.reach_between.ensures.far near in let end : first + start + 1024 + 2048 ≤ n = f.to_end in record { from_start = f.from_start; to_end = omega arith } in
    let known : AreCounted p ws first n start (start + 1024) least = record { within = room; reach = c.reach_between.result; number = c.least-least.ensures; far = far; two = c.reach_between.ensures.of_profile } in
    record {
      size_first = c.mark.auto.notes ∙ c.loop-i.invariant.size_first;
      size_second = c.mark-in-loop-i.auto.notes ∙ c.loop-i.invariant.size_second;
      size_third = c.mark-in-loop-i-2.auto.notes ∙ c.loop-i.invariant.size_third;
      size_fourth = c.mark-in-loop-i-3.auto.notes ∙ c.loop-i.invariant.size_fourth;
      few_first = few_more c.loop-i.counts.first i c.mark.result _ c.loop-i.invariant.few_first c.mark.ensures.step;
      few_second = few_more c.loop-i.counts.second i c.mark-in-loop-i.result _ c.loop-i.invariant.few_second c.mark-in-loop-i.ensures.step;
      few_third = few_more c.loop-i.counts.third i c.mark-in-loop-i-2.result _ c.loop-i.invariant.few_third c.mark-in-loop-i-2.ensures.step;
      few_fourth = few_more c.loop-i.counts.fourth i c.mark-in-loop-i-3.result _ c.loop-i.invariant.few_fourth c.mark-in-loop-i-3.ensures.step;
      first = one_more p ws first n start (start + 1024) least known start i start (start + i) (start + (i + 1)) c.loop-i.marks.first c.mark.new.notes c.loop-i.counts.first c.mark.result (omega arith) (omega arith) (omega arith)
          (omega arith) (omega arith) (omega arith) c.mark.ensures.written c.mark.ensures.step c.loop-i.invariant.first;
      second =
          one_more p ws first n start (start + 1024) least known (start + 256) i (start + 256) (start + i + 256) (start + (i + 1) + 256) c.loop-i.marks.second c.mark-in-loop-i.new.notes c.loop-i.counts.second c.mark-in-loop-i.result (omega arith) (omega arith) (omega arith)
          (omega arith) (omega arith) (omega arith) c.mark-in-loop-i.ensures.written c.mark-in-loop-i.ensures.step c.loop-i.invariant.second;
      third =
          one_more p ws first n start (start + 1024) least known (start + 512) i (start + 512) (start + i + 512) (start + (i + 1) + 512) c.loop-i.marks.third c.mark-in-loop-i-2.new.notes c.loop-i.counts.third c.mark-in-loop-i-2.result (omega arith) (omega arith) (omega arith)
          (omega arith) (omega arith) (omega arith) c.mark-in-loop-i-2.ensures.written c.mark-in-loop-i-2.ensures.step c.loop-i.invariant.third;
      fourth =
          one_more p ws first n start (start + 1024) least known (start + 768) i (start + 768) (start + i + 768) (start + (i + 1) + 768) c.loop-i.marks.fourth c.mark-in-loop-i-3.new.notes c.loop-i.counts.fourth c.mark-in-loop-i-3.result (omega arith) (omega arith) (omega arith)
          (omega arith) (omega arith) (omega arith) c.mark-in-loop-i-3.ensures.written c.mark-in-loop-i-3.ensures.step c.loop-i.invariant.fourth;
    }

pub returns-clause-first : goal.returns-clause-first
returns-clause-first g c =
    let start : ℕ = c.args.start in
    let done : 256 ≤ c.loop-i.i = c.loop-i-test.false in
    let few : c.loop-i.counts.first ≤ c.loop-i.i = c.loop-i.invariant.few_first in
    let size : length c.loop-i.marks.first ≡ 256 = c.loop-i.invariant.size_first in
    let end : (start + c.loop-i.i) ≡ (start + 256) = omega arith in
    let ws : List ℕ = g.W.Words.words c.args.region.words.now in (
      omega arith,
      noted c.args.region.profile ws c.args.region.first c.args.region.n start (start + 256) start c.loop-i.marks.first c.loop-i.counts.first (omega arith)
          (subst (λ x. AreMarked c.args.region.profile ws c.args.region.first c.args.region.n start x (moved start c.loop-i.marks.first) c.loop-i.counts.first) end c.loop-i.invariant.first),
    )

pub returns-clause-second : goal.returns-clause-second
returns-clause-second g c =
    let start : ℕ = c.args.start in
    let done : 256 ≤ c.loop-i.i = c.loop-i-test.false in
    let few : c.loop-i.counts.second ≤ c.loop-i.i = c.loop-i.invariant.few_second in
    let size : length c.loop-i.marks.second ≡ 256 = c.loop-i.invariant.size_second in
    let end : (start + c.loop-i.i + 256) ≡ (start + 512) = omega arith in
    let ws : List ℕ = g.W.Words.words c.args.region.words.now in (
      omega arith,
      noted c.args.region.profile ws c.args.region.first c.args.region.n (start + 256) (start + 512) (start + 256) c.loop-i.marks.second c.loop-i.counts.second (omega arith)
          (subst (λ x. AreMarked c.args.region.profile ws c.args.region.first c.args.region.n (start + 256) x (moved (start + 256) c.loop-i.marks.second) c.loop-i.counts.second) end c.loop-i.invariant.second),
    )

pub returns-clause-third : goal.returns-clause-third
returns-clause-third g c =
    let start : ℕ = c.args.start in
    let done : 256 ≤ c.loop-i.i = c.loop-i-test.false in
    let few : c.loop-i.counts.third ≤ c.loop-i.i = c.loop-i.invariant.few_third in
    let size : length c.loop-i.marks.third ≡ 256 = c.loop-i.invariant.size_third in
    let end : (start + c.loop-i.i + 512) ≡ (start + 768) = omega arith in
    let ws : List ℕ = g.W.Words.words c.args.region.words.now in (
      omega arith,
      noted c.args.region.profile ws c.args.region.first c.args.region.n (start + 512) (start + 768) (start + 512) c.loop-i.marks.third c.loop-i.counts.third (omega arith)
          (subst (λ x. AreMarked c.args.region.profile ws c.args.region.first c.args.region.n (start + 512) x (moved (start + 512) c.loop-i.marks.third) c.loop-i.counts.third) end c.loop-i.invariant.third),
    )

pub returns-clause-fourth : goal.returns-clause-fourth
returns-clause-fourth g c =
    let start : ℕ = c.args.start in
    let done : 256 ≤ c.loop-i.i = c.loop-i-test.false in
    let few : c.loop-i.counts.fourth ≤ c.loop-i.i = c.loop-i.invariant.few_fourth in
    let size : length c.loop-i.marks.fourth ≡ 256 = c.loop-i.invariant.size_fourth in
    let end : (start + c.loop-i.i + 768) ≡ (start + 1024) = omega arith in
    let ws : List ℕ = g.W.Words.words c.args.region.words.now in (
      omega arith,
      noted c.args.region.profile ws c.args.region.first c.args.region.n (start + 768) (start + 1024) (start + 768) c.loop-i.marks.fourth c.loop-i.counts.fourth (omega arith)
          (subst (λ x. AreMarked c.args.region.profile ws c.args.region.first c.args.region.n (start + 768) x (moved (start + 768) c.loop-i.marks.fourth) c.loop-i.counts.fourth) end c.loop-i.invariant.fourth),
    )
