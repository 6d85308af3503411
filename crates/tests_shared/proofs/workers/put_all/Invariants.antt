use Rattle.std.proofs.Common.{◌≤◌}
use Rattle.lfi_queues.specs.Passes.{IsSamePass}
use Rattle.tests_shared.proofs.workers.put_all.Given as goal

abbrev pub invariant-loop : goal.invariant-loop
invariant-loop g l =
    (goal.iterator-loop g).can_next l.iterator' × (goal.iterator-loop g).is_finite l.iterator'
    × IsSamePass l.fn.pass l.pass × (l.next ≤ l.end) × (l.end ≤ 1000000)
