use Rattle.std.proofs.Common.{◌≡◌}
use Rattle.lfi_queues.specs.Passes.{AreAllPasses}
use Rattle.tests_shared.proofs.workers.drain.Given as goal

abbrev pub invariant-loop : goal.invariant-loop
invariant-loop g l =
    (goal.iterator-loop g).can_next l.iterator' × (goal.iterator-loop g).is_finite l.iterator'
    × (l.puts ≡ l.fn.puts) × AreAllPasses l.queue l.queue.takers l.takes
