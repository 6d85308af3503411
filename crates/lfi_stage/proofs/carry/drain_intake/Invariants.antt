use Rattle.std.proofs.Common.{◌≡◌, ◌-◌}
use Rattle.lfi_queues.specs.Passes.{AreAllPasses, items_at}
use Rattle.lfi_queues.proofs.Rest.{item_count}
use Rattle.lfi_stage.specs.Settled.{Settles}
use Rattle.lfi_stage.proofs.carry.drain_intake.Given as goal

abbrev pub invariant-loop-item : goal.invariant-loop-item
invariant-loop-item l = record {
  puts : l.puts ≡ l.fn.puts;
  takes : AreAllPasses l.intake l.intake.takers l.takes;
  settles : Settles (items_at l.fn.takes) l.fn.sequences → Settles (items_at l.takes) l.sequences;
}

abbrev pub decreases-loop-item : goal.decreases-loop-item
decreases-loop-item l = item_count l.puts - item_count l.takes
