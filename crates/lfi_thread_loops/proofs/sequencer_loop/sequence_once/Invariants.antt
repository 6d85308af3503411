use Rattle.std.proofs.Common.{◌≡◌, ◌<◌, ◌≤◌, ℕ, Bool, false, Some, slice_get}
use Rattle.std.specs.Prelude.{IsTrue}
use Rattle.lfi_sequence.specs.declared.sequencer.Sequencer.{Sequencer}
use Rattle.lfi_sync.specs.LaneSets.{has_lane}
use Rattle.lfi_thread_loops.specs.inner.Workers.{AreSequencersOf, HasLooked}
use Rattle.lfi_thread_loops.proofs.Placed.{Took, NoneTook}
use Rattle.lfi_thread_loops.proofs.sequencer_loop.sequence_once.Given as goal

abbrev pub invariant-loop-number : goal.invariant-loop-number
invariant-loop-number g l = record {
  are : AreSequencersOf l.shared l.sequencers.items;
  left : (m : ℕ) → l.number ≤ m → slice_get l.sequencers.items m ≡ slice_get l.fn.sequencers.items m;
  each : (m : ℕ) (s t : Sequencer) → m < l.number → slice_get l.fn.sequencers.items m ≡ Some s → slice_get l.sequencers.items m ≡ Some t → (took : Bool) × HasLooked (has_lane l.filled m) took s t;
  some : IsTrue l.worked → Took l.fn.sequencers.items l.sequencers.items l.number;
  none : l.worked ≡ false → NoneTook (has_lane l.filled) l.fn.sequencers.items l.sequencers.items l.number;
}
