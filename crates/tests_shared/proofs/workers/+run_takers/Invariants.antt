use Rattle.std.specs.Prelude.{vec_len}
use Rattle.tests_shared.proofs.workers.+run_takers.Given as goal

abbrev pub decreases-run_takers : goal.decreases-run_takers
decreases-run_takers g l = vec_len l.takes
