use Rattle.lfi_queues.specs.Passes.{AreAllPasses}
use Rattle.tests_shared.proofs.intake_rows.rest_from.Given as goal

abbrev pub invariant-loop-next : goal.invariant-loop-next
invariant-loop-next l = AreAllPasses l.intake 1 l.puts × AreAllPasses l.intake 1 l.takes
