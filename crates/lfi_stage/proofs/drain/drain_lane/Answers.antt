use Rattle.std.proofs.Common.{◌≡◌, ◌-◌, ◌<◌, ◌∙◌, ℕ, List, Some, Option, sym, ap, subst}
use Rattle.lfi_model.specs.Item.{ItemView}
use Rattle.lfi_queues.specs.Passes.{QueueId, PassView, pass_at, items_at, AreAllPasses, after_rest, with_first}
use Rattle.lfi_queues.proofs.Rest.{item_count, rest_smaller, still_all, other_place, first_taken}
use Rattle.lfi_board.specs.Known.{module_of}
use Rattle.lfi_sequence.specs.Sequenced.{Sequenced}
use Rattle.lfi_stage.proofs.drain.drain_lane.Goals as goal

pub loop-item-smaller : goal.loop-item-smaller
loop-item-smaller g c =
    let q : QueueId = c.args.lane.now in
    let i = c.loop-item.invariant in
    let x : ItemView = c.in-Some.item in
    let takes : c.rest.new.takes ≡ with_first c.loop-item.takes (λ p. after_rest p (Some x)) = c.in-Some.ensures.takes in
    let puts : c.rest.new.puts ≡ c.loop-item.puts = c.in-Some.ensures.puts in
    let kept = c.in-Some.ensures.kept in
    let was : ℕ = item_count c.loop-item.puts - item_count c.loop-item.takes in
    subst (λ (t : List (Option (PassView ItemView))). item_count c.rest.new.puts - item_count t < was) (sym takes)
    (subst (λ (p : List (Option (PassView ItemView))). item_count p - item_count (with_first c.loop-item.takes (λ z. after_rest z (Some x))) < was) (sym puts)
    (rest_smaller q q.takers c.loop-item.puts c.loop-item.takes x kept.0 kept.2.0 c.requires.takers i.takes kept.1 kept.2.1))

pub loop-item-preserved : goal.loop-item-preserved
loop-item-preserved g c =
    let q : QueueId = c.args.lane.now in
    let i = c.loop-item.invariant in
    let x : ItemView = c.in-Some.item in
    let takes : c.rest.new.takes ≡ with_first c.loop-item.takes (λ p. after_rest p (Some x)) = c.in-Some.ensures.takes in
    let first : items_at c.rest.new.takes 0 ≡ _ = ap (λ t. items_at t 0) takes ∙ first_taken q q.takers c.loop-item.takes x c.requires.takers i.takes in
    record {
      puts = c.in-Some.ensures.puts ∙ i.puts;
      takes = subst (λ t. AreAllPasses q q.takers t) (sym takes) (still_all q q.takers c.loop-item.takes (Some x) i.takes);
      others = λ k later. ap (λ t. pass_at t k) takes ∙ other_place c.loop-item.takes (λ p. after_rest p (Some x)) k later ∙ i.others k later;
      tie = λ was. subst (λ l. Sequenced c.handle.new.self l) (sym first) (c.handle.ensures.tie (items_at c.loop-item.takes 0) (i.tie was));
      same = ap module_of c.handle.ensures.same ∙ i.same;
    }
