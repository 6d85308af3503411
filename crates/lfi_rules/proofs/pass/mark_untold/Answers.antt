use Rattle.std.proofs.Common.{ℕ, ◌+◌, ◌≤◌, List, length, arith}
use Rattle.lfi_rules.specs.inner.Passing.{AreMarked}
use Rattle.lfi_rules.proofs.Marked.{none_marked}
use Rattle.lfi_rules.proofs.Spans.{noted_within}
use Rattle.lfi_rules.proofs.pass.mark_untold.Goals as goal

pub add_untold-one-requires-clause-within : goal.add_untold-one-requires-clause-within
add_untold-one-requires-clause-within g c =
    let ws : List ℕ = g.W.Words.words c.args.region.words.now in
    let room : c.args.start + 1024 ≤ length ws = c.requires.room in
    noted_within c.args.region.profile ws c.args.region.first c.args.region.n c.args.start (c.args.start + 256) c.args.start _ (omega arith) c.mark_span-counts.ensures.first.1

pub add_untold-two-requires-clause-within : goal.add_untold-two-requires-clause-within
add_untold-two-requires-clause-within g c =
    let ws : List ℕ = g.W.Words.words c.args.region.words.now in
    let room : c.args.start + 1024 ≤ length ws = c.requires.room in
    noted_within c.args.region.profile ws c.args.region.first c.args.region.n (c.args.start + 256) (c.args.start + 512) (c.args.start + 256) _ (omega arith) c.mark_span-counts.ensures.second.1

pub add_untold-three-requires-clause-within : goal.add_untold-three-requires-clause-within
add_untold-three-requires-clause-within g c =
    let ws : List ℕ = g.W.Words.words c.args.region.words.now in
    let room : c.args.start + 1024 ≤ length ws = c.requires.room in
    noted_within c.args.region.profile ws c.args.region.first c.args.region.n (c.args.start + 512) (c.args.start + 768) (c.args.start + 512) _ (omega arith) c.mark_span-counts.ensures.third.1

pub add_untold-requires-clause-within : goal.add_untold-requires-clause-within
add_untold-requires-clause-within g c =
    let ws : List ℕ = g.W.Words.words c.args.region.words.now in
    let room : c.args.start + 1024 ≤ length ws = c.requires.room in
    noted_within c.args.region.profile ws c.args.region.first c.args.region.n (c.args.start + 768) (c.args.start + 1024) (c.args.start + 768) _ (omega arith) c.mark_span-counts.ensures.fourth.1

pub returns-clause-marked : goal.returns-clause-marked
returns-clause-marked g c =
    let p = c.args.region.profile in
    let ws : List ℕ = g.W.Words.words c.args.region.words.now in
    let first : ℕ = c.args.region.first in
    let n : ℕ = c.args.region.n in
    let start : ℕ = c.args.start in
    let none : AreMarked p ws first n start start c.args.places.now 0 = none_marked p ws first n start c.args.places.now in
    let one : AreMarked p ws first n start (start + 256) c.add_untold-one.new.places c.add_untold-one.result =
    c.add_untold-one.ensures.marked start start (start + 256) (omega arith) (omega arith) none c.mark_span-counts.ensures.first.1 in
    let two : AreMarked p ws first n start (start + 512) c.add_untold-two.new.places c.add_untold-two.result =
    c.add_untold-two.ensures.marked start (start + 256) (start + 512) (omega arith) (omega arith) one c.mark_span-counts.ensures.second.1 in
    let three : AreMarked p ws first n start (start + 768) c.add_untold-three.new.places c.add_untold-three.result =
    c.add_untold-three.ensures.marked start (start + 512) (start + 768) (omega arith) (omega arith) two c.mark_span-counts.ensures.third.1 in
    c.add_untold.ensures.marked start (start + 768) (start + 1024) (omega arith) (omega arith) three c.mark_span-counts.ensures.fourth.1
