use Rattle.std.proofs.Common.{◌≡◌, ℕ, ◌<◌, ◌≤◌, length, take, Some, None, get_or, slice_get}
use Rattle.lfi_sequence.specs.declared.sequence.Sequence.{Sequence}
use Rattle.lfi_sequence.specs.declared.sequencer.Sequencer.{Sequencer}
use Rattle.lfi_module.specs.Numbers.{module_count}
use Rattle.lfi_stage.specs.inner.Rows.{row_of, lane_items, DrainedTo}
use Rattle.lfi_stage.proofs.drain.drain_lanes.Given as goal

abbrev pub invariant-loop-sequencer : goal.invariant-loop-sequencer
invariant-loop-sequencer g l = record {
  long : length l.sequences ≡ module_count;
  within : length l.sequencers.items ≤ module_count;
  left : (k : ℕ) → row_of l.rows k ≡ take (length l.sequencers.items) (row_of l.fn.rows k);
  same : (m : ℕ) → m < length l.sequencers.items → slice_get l.sequencers.items m ≡ slice_get l.fn.sequencers.items m;
  done : (m : ℕ) (s : Sequencer) → length l.sequencers.items ≤ m → slice_get l.fn.sequencers.items m ≡ Some s → (after : Sequence) × (get_or l.sequences m None ≡ Some after) × DrainedTo (lane_items l.fn.rows m) s after;
}

abbrev pub decreases-loop-sequencer : goal.decreases-loop-sequencer
decreases-loop-sequencer g l = goal.left-loop-sequencer g l
