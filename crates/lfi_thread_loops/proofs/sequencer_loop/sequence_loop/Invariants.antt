use Rattle.lfi_thread_loops.specs.inner.Workers.{AreSequencersOf}
use Rattle.lfi_thread_loops.proofs.sequencer_loop.sequence_loop.Given as goal

abbrev pub invariant-loop : goal.invariant-loop
invariant-loop g l = record {
  can_next : (goal.iterator-loop g).can_next l.iterator';
  is_finite : (goal.iterator-loop g).is_finite l.iterator';
  are : AreSequencersOf l.shared l.sequencers.items;
}
