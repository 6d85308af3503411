use Rattle.std.proofs.Common.{◌≡◌, ℕ, ◌<◌, ◌≤◌, List, length, take, arith}
use Rattle.std.specs.Prelude.{slice_index}
use Rattle.lfi_rules.proofs.Marked.{taken, marked_within, found_by_look, none_by_look, all_fine}
use Rattle.lfi_rules.proofs.pass.first_untold.Goals as goal

pub keep_unprobed-left-requires-clause-within : goal.keep_unprobed-left-requires-clause-within
keep_unprobed-left-requires-clause-within g c = λ p less.
    let known = c.requires.marked in
    let end : known.1 ≤ length (g.W.Words.words c.args.region.words.now) = known.2 in
    let high : slice_index c.args.places.now p < known.1 = known.3.high p less in
    omega arith

pub first_by_look-requires : goal.first_by_look-requires
first_by_look-requires g c =
    let ws : List ℕ = g.W.Words.words c.args.region.words.now in
    let known = c.requires.marked in
    let left : ℕ = c.keep_unprobed-left.result in
    let places : List ℕ = c.keep_unprobed-left.new.places in
    let marked = c.keep_unprobed-left.ensures.marked known.0 known.1 known.3 in
    record {
      within = marked_within c.args.region.profile ws c.args.region.first c.args.region.n known.0 known.1 (take left places) known.2
          (taken c.args.region.profile ws c.args.region.first c.args.region.n known.0 known.1 places left (omega arith) marked);
    }

pub returns-clause-some : goal.returns-clause-some
returns-clause-some g c = λ start stop end m.
    let ws : List ℕ = g.W.Words.words c.args.region.words.now in
    let left : ℕ = c.keep_unprobed-left.result in
    let places : List ℕ = c.keep_unprobed-left.new.places in
    let marked = c.keep_unprobed-left.ensures.marked start stop m in
    found_by_look c.args.region.profile ws c.args.region.first c.args.region.n start stop (take left places) c.first_by_look.result
    (taken c.args.region.profile ws c.args.region.first c.args.region.n start stop places left (omega arith) marked)
    c.first_by_look.ensures.some

pub returns-clause-none : goal.returns-clause-none
returns-clause-none g c = λ start stop m.
    let ws : List ℕ = g.W.Words.words c.args.region.words.now in
    let left : ℕ = c.keep_unprobed-left.result in
    let places : List ℕ = c.keep_unprobed-left.new.places in
    let marked = c.keep_unprobed-left.ensures.marked start stop m in
    none_by_look c.args.region.profile ws c.args.region.first c.args.region.n start stop (take left places) c.first_by_look.result
    (taken c.args.region.profile ws c.args.region.first c.args.region.n start stop places left (omega arith) marked)
    c.first_by_look.ensures.none

pub returns-then-count-eq0-clause-none : goal.returns-then-count-eq0-clause-none
returns-then-count-eq0-clause-none g c = λ start stop m.
    let none : c.args.count ≡ 0 = c.if-count-eq0.true in
    all_fine c.args.region.profile (g.W.Words.words c.args.region.words.now) c.args.region.first c.args.region.n start stop c.args.places.now c.args.count m
    (record { each = λ p less. absurd (omega arith) })
