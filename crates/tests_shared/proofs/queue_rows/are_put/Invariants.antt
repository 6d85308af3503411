use Rattle.lfi_queues.specs.Passes.{AreAllPasses}
use Rattle.tests_shared.proofs.queue_rows.are_put.Given as goal

abbrev pub invariant-loop-at : goal.invariant-loop-at
invariant-loop-at g l = AreAllPasses l.queue 3 l.puts
