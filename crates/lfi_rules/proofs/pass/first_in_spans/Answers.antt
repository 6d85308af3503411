use Rattle.std.proofs.Common.{ℕ, ◌+◌, ◌∙◌, List, sym, arith}
use Rattle.lfi_rules.specs.inner.Passing.{AreFine}
use Rattle.lfi_rules.proofs.Fine.{joined_fine}
use Rattle.lfi_rules.proofs.Marked.{by_none}
use Rattle.lfi_rules.proofs.pass.first_in_spans.Goals as goal

pub loop-start-preserved : goal.loop-start-preserved
loop-start-preserved g c =
    let ws : List ℕ = g.W.Words.words c.args.region.words.now in
    let start : ℕ = c.loop-start.start in
    let more : AreFine c.args.region.profile ws c.args.region.first c.args.region.n start (start + 1024) =
    by_none c.first_in_span-fault.result _ (sym c.is_some.ensures ∙ c.if-is_some.false) c.first_in_span-fault.ensures.none in
    record {
      within = omega arith;
      fine = joined_fine c.args.region.profile ws c.args.region.first c.args.region.n 0 start (start + 1024) c.loop-start.invariant.fine more;
    }
