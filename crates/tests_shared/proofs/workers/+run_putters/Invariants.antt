use Rattle.std.specs.Prelude.{vec_len}
use Rattle.tests_shared.proofs.workers.+run_putters.Given as goal

abbrev pub decreases-run_putters : goal.decreases-run_putters
decreases-run_putters g l = vec_len l.puts
