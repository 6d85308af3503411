use Rattle.lfi_queues.specs.Passes.{AreAllPasses}
use Rattle.tests_shared.proofs.queue_rows.is_rest.Given as goal

abbrev pub invariant-loop-number : goal.invariant-loop-number
invariant-loop-number g l = AreAllPasses l.queue 3 l.puts × AreAllPasses l.queue 2 l.takes
