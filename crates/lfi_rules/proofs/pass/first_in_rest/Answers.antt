use Rattle.std.proofs.Common.{◌≡◌, ℕ, ◌≤◌, ◌∙◌, List, length, sym, subst, arith}
use Rattle.lfi_rules.specs.inner.Passing.{AreFine}
use Rattle.lfi_rules.proofs.Fine.{joined_fine, none_of_all}
use Rattle.lfi_rules.proofs.Marked.{by_none, found_of_some}
use Rattle.lfi_rules.proofs.pass.first_in_rest.Goals as goal

pub loop-start-preserved : goal.loop-start-preserved
loop-start-preserved g c =
    let ws : List ℕ = g.W.Words.words c.args.region.words.now in
    let start : ℕ = c.loop-start.start in
    let more : AreFine c.args.region.profile ws c.args.region.first c.args.region.n c.loop-start.start c.min-stop.result =
    by_none c.first_untold-fault.result _ (sym c.is_some.ensures ∙ c.if-is_some.false) (c.first_untold-fault.ensures.none start c.min-stop.result c.mark_untold_rest-marked.ensures.marked) in
    record {
      within = omega arith;
      fine = joined_fine c.args.region.profile ws c.args.region.first c.args.region.n 0 c.loop-start.start c.min-stop.result c.loop-start.invariant.fine more;
    }

pub returns : goal.returns
returns g c =
    let ws : List ℕ = g.W.Words.words c.args.region.words.now in
    let whole : c.loop-start.start ≡ length ws = omega arith in
    none_of_all c.args.region.profile ws c.args.region.first c.args.region.n (subst (λ i. AreFine c.args.region.profile ws c.args.region.first c.args.region.n 0 i) whole c.loop-start.invariant.fine)

pub first_untold-fault-requires-clause-marked : goal.first_untold-fault-requires-clause-marked
first_untold-fault-requires-clause-marked g c =
    (c.loop-start.start, c.min-stop.result, omega arith, c.mark_untold_rest-marked.ensures.marked)

pub returns-then-is_some : goal.returns-then-is_some
returns-then-is_some g c =
    let ws : List ℕ = g.W.Words.words c.args.region.words.now in
    let end : c.min-stop.result ≤ length ws = omega arith in
    found_of_some c.args.region.profile ws c.args.region.first c.args.region.n c.loop-start.start c.first_untold-fault.result c.loop-start.invariant.fine (sym c.is_some.ensures ∙ c.if-is_some.true)
    (c.first_untold-fault.ensures.some c.loop-start.start c.min-stop.result end c.mark_untold_rest-marked.ensures.marked)
