use Rattle.tests_load.specs.Pairs.{IsPair}
use Rattle.tests_load.proofs.reports.turned.place_all.Given as goal

abbrev pub invariant-loop-number : goal.invariant-loop-number
invariant-loop-number g l = IsPair l.stage
