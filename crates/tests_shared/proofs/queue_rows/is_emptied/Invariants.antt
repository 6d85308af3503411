use Rattle.std.proofs.Common.{◌≡◌}
use Rattle.tests_shared.proofs.queue_rows.is_emptied.Given as goal

abbrev pub invariant-loop-number : goal.invariant-loop-number
invariant-loop-number g l = l.pass.queue ≡ l.queue
