use Rattle.tests_load.specs.Pairs.{IsPair}
use Rattle.tests_load.proofs.reports.turned.go_on.Given as goal

abbrev pub invariant-loop : goal.invariant-loop
invariant-loop g l = IsPair l.stage
