use Rattle.lfi_receive.specs.Receivers.{IsFinished}
use Rattle.lfi_stage_model.specs.Parts.{IsReceiver}
use Rattle.lfi_thread_loops.specs.inner.Hearing.{IsAsBefore}
use Rattle.lfi_thread_loops.proofs.notices.SeenRefused.look.Given as goal

abbrev pub invariant-loop-number : goal.invariant-loop-number
invariant-loop-number g l = record {
  is : IsReceiver l.part.shared.now l.part.number l.receiver;
  before : IsAsBefore l.fn.receiver l.receiver;
  finished : IsFinished l.fn.receiver → IsFinished l.receiver;
}
