use Rattle.lfi_thread_loops.specs.inner.Workers.{IsSequencerOf, TookSome}
use Rattle.lfi_thread_loops.proofs.sequencer_loop.empty_lane.Given as goal

abbrev pub invariant-loop-turn : goal.invariant-loop-turn
invariant-loop-turn g l = record {
  is : IsSequencerOf l.shared l.«module» l.sequencer;
  took : TookSome l.fn.sequencer l.sequencer;
}
