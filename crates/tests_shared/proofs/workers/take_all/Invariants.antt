use Rattle.lfi_queues.specs.Passes.{IsSamePass}
use Rattle.tests_shared.proofs.workers.take_all.Given as goal

abbrev pub invariant-loop : goal.invariant-loop
invariant-loop g l =
    (goal.iterator-loop g).can_next l.iterator' × (goal.iterator-loop g).is_finite l.iterator'
    × IsSamePass l.fn.taker.pass l.taker.pass
