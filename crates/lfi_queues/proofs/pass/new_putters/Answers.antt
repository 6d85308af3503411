-- The maker gives out the next number.
use Rattle.std.proofs.Common.{arith, ◌≡◌, ◌∙◌, ◌++◌, ◌∷◌, [], ◌+◌, suc, ap}
use Rattle.lfi_queues.specs.Passes.{new_pass, new_passes}
use Rattle.lfi_queues.specs.inner.Delivery.{log, next_putter, one_more_putter}
use Rattle.lfi_queues.specs.inner.Ports.{queue_id}
use Rattle.lfi_queues.proofs.pass.new_putters.Goals as goal

pub loop-number-preserved : goal.loop-number-preserved
loop-number-preserved g c =
    let i = c.loop-number.invariant in
    let e = c.new_putter.ensures in
    let n = c.loop-number._number in
    let q = queue_id c.args.queue.now.table.shared.table_id c.args.counts.now in
    let pass = e.pass ∙ ap (λ u. new_pass q (next_putter u.made)) i.1 in (
      (e.maker.0.0 ∙ i.0.0, e.maker.0.1 ∙ i.0.1, e.maker.0.2 ∙ i.0.2),
      e.maker.1 ∙ ap (λ u. log u.puts u.takes (one_more_putter u.made)) i.1,
      c.in_ok-push.ensures.items ∙ (λ j. i.2 j ++ pass j ∷ []) ∙ ap (new_passes q) (let next : suc n ≡ n + 1 = omega arith in next),
    )
