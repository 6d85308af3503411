use Rattle.std.proofs.Common.{◌≡◌, ◌-◌, ◌<◌, ◌∙◌, ℕ, List, Some, Option, sym, subst}
use Rattle.lfi_model.specs.Item.{ItemView}
use Rattle.lfi_queues.specs.Kept.{with_last}
use Rattle.lfi_queues.specs.Passes.{QueueId, PassView, items_at, AreAllPasses, after_rest, with_first}
use Rattle.lfi_queues.proofs.Rest.{item_count, rest_smaller, still_all}
use Rattle.lfi_stage.specs.Settled.{Settles}
use Rattle.lfi_stage.proofs.Carrying.{settles_more, settles_as, rest_last}
use Rattle.lfi_stage.proofs.carry.drain_intake.Goals as goal

pub loop-item-smaller : goal.loop-item-smaller
loop-item-smaller c =
    let q : QueueId = c.args.intake.now in
    let i = c.loop-item.invariant in
    let x : ItemView = c.in-Some.item in
    let takes : c.rest.new.takes ≡ with_first c.loop-item.takes (λ p. after_rest p (Some x)) = c.in-Some.ensures.takes in
    let puts : c.rest.new.puts ≡ c.loop-item.puts = c.in-Some.ensures.puts in
    let kept = c.in-Some.ensures.kept in
    let was : ℕ = item_count c.loop-item.puts - item_count c.loop-item.takes in
    subst (λ (t : List (Option (PassView ItemView))). item_count c.rest.new.puts - item_count t < was) (sym takes)
    (subst (λ (p : List (Option (PassView ItemView))). item_count p - item_count (with_first c.loop-item.takes (λ z. after_rest z (Some x))) < was) (sym puts)
    (rest_smaller q q.takers c.loop-item.puts c.loop-item.takes x kept.0 kept.2.0 c.requires.takers i.takes kept.1 kept.2.1))

pub loop-item-preserved : goal.loop-item-preserved
loop-item-preserved c =
    let q : QueueId = c.args.intake.now in
    let i = c.loop-item.invariant in
    let x : ItemView = c.in-Some.item in
    let j : ItemView = c.judge.result in
    let is : j ≡ x = c.judge.ensures in
    let takes : c.rest.new.takes ≡ with_first c.loop-item.takes (λ p. after_rest p (Some x)) = c.in-Some.ensures.takes in
    record {
      puts = c.in-Some.ensures.puts ∙ i.puts;
      takes = subst (λ t. AreAllPasses q q.takers t) (sym takes) (still_all q q.takers c.loop-item.takes (Some x) i.takes);
      settles = λ was.
          subst (λ t. Settles (items_at t) c.carry.new.sequences) (sym takes)
          (settles_as (with_last (items_at c.loop-item.takes) 0 x) (items_at (with_first c.loop-item.takes (λ p. after_rest p (Some x)))) c.carry.new.sequences (rest_last q q.takers c.loop-item.takes x c.requires.takers i.takes)
          (subst (λ z. Settles (with_last (items_at c.loop-item.takes) 0 z) c.carry.new.sequences) is (settles_more (items_at c.loop-item.takes) c.loop-item.sequences c.carry.new.sequences j (i.settles was) c.carry.ensures)));
    }
