use Rattle.std.specs.Prelude.{vec_len}
use Rattle.tests_shared.proofs.passes.+row_of_puts.Given as goal

abbrev pub decreases-row_of_puts : goal.decreases-row_of_puts
decreases-row_of_puts l = vec_len l.passes
