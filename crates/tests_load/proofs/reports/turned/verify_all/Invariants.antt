use Rattle.tests_load.specs.Pairs.{IsPair}
use Rattle.tests_load.proofs.reports.turned.verify_all.Given as goal

abbrev pub invariant-loop-worked : goal.invariant-loop-worked
invariant-loop-worked g l = IsPair l.stage
