use Rattle.lfi_queues.specs.Passes.{IsSamePass}
use Rattle.tests_shared.proofs.intake_rows.fill.Given as goal

abbrev pub invariant-loop-number : goal.invariant-loop-number
invariant-loop-number l = IsSamePass l.fn.pass l.pass
