use Rattle.std.proofs.Common.{◌∙◌, ◌≤◌, suc, Bor, List, ℕ, sym, ap, subst, arith}
use Rattle.lfi_command_line.proofs.Counts.{counted_after, plus_one, plus_one_most}
use Rattle.lfi_command_line.proofs.flaw.input_count.Goals as goal

pub loop-index-preserved : goal.loop-index-preserved
loop-index-preserved c =
    let before = c.loop-index.invariant in
    let next = counted_after {X = Bor (List ℕ)} (λ s. s.now) c.args.paths.now c.loop-index.index _ c.loop-index-test.true in
    let most = plus_one_most _ c.loop-index.count in
    let bound = subst (λ n. n ≤ suc c.loop-index.count) (sym c.count_with-count.ensures) most in
    (c.count_with-count.ensures ∙ ap (plus_one _) before.0 ∙ sym next, omega (bound, before.1, arith))
