use Rattle.lfi_queues.specs.Passes.{IsSamePass}
use Rattle.tests_shared.proofs.intake_rows.take_some.Given as goal

abbrev pub invariant-loop : goal.invariant-loop
invariant-loop l = IsSamePass l.fn.pass l.pass
