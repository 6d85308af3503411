use Rattle.std.proofs.Common.{◌≡◌, ◌-◌, ℕ, ◌<◌}
use Rattle.lfi_queues.specs.Passes.{AreAllPasses, items_at, pass_at}
use Rattle.lfi_queues.proofs.Rest.{item_count}
use Rattle.lfi_sequence.specs.Sequenced.{Sequenced, module_number_of}
use Rattle.lfi_stage.proofs.drain.drain_lane.Given as goal

abbrev pub invariant-loop-item : goal.invariant-loop-item
invariant-loop-item g l = record {
  puts : l.puts ≡ l.fn.puts;
  takes : AreAllPasses l.lane l.lane.takers l.takes;
  others : (k : ℕ) → 0 < k → pass_at l.takes k ≡ pass_at l.fn.takes k;
  tie : Sequenced l.fn.sequence (items_at l.fn.takes 0) → Sequenced l.sequence (items_at l.takes 0);
  same : module_number_of l.sequence ≡ module_number_of l.fn.sequence;
}

abbrev pub decreases-loop-item : goal.decreases-loop-item
decreases-loop-item g l = item_count l.puts - item_count l.takes
