use Rattle.std.proofs.Common.{◌≡◌}
use Rattle.tests_machine.proofs.whole_slot.FillerRuntime.call.Given as goal

abbrev pub invariant-loop-number : goal.invariant-loop-number
invariant-loop-number l = l.slot.image ≡ l.initial.slot.image
