use Rattle.lfi_thread_loops.proofs.Hears.{as_before_on}
use Rattle.lfi_thread_loops.proofs.notices.SeenRefused.look.Goals as goal

pub loop-number-preserved : goal.loop-number-preserved
loop-number-preserved g c =
    let i = c.loop-number.invariant in
    record {
      is = c.look_at.ensures.is;
      before = as_before_on c.args.receiver.now c.loop-number.receiver c.look_at.new.receiver i.before c.look_at.ensures.before;
      finished = λ f. c.look_at.ensures.finished (i.finished f);
    }
