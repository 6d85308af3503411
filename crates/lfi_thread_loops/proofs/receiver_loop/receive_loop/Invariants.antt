use Rattle.lfi_stage_model.specs.Parts.{IsReceiver}
use Rattle.lfi_receive.specs.Inputs.{left_of}
use Rattle.lfi_thread_loops.specs.inner.Hearing.{IsHearing}
use Rattle.lfi_thread_loops.proofs.receiver_loop.receive_loop.Given as goal

abbrev pub invariant-loop : goal.invariant-loop
invariant-loop g l = record {
  can_next : (goal.iterator-loop g).can_next l.iterator';
  is_finite : (goal.iterator-loop g).is_finite l.iterator';
  is : IsReceiver l.part.shared.now l.part.number l.receiver;
  hearing : IsHearing g.R.Read.remaining (left_of g.R.Read.remaining l.fn.input) l.receiver l.input;
}
