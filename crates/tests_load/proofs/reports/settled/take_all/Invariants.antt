use Rattle.tests_load.specs.Pairs.{IsPair}
use Rattle.tests_load.proofs.reports.settled.take_all.Given as goal

abbrev pub invariant-loop-step : goal.invariant-loop-step
invariant-loop-step g l = IsPair l.stage
