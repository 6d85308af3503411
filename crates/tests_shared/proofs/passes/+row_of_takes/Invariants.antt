use Rattle.std.specs.Prelude.{vec_len}
use Rattle.tests_shared.proofs.passes.+row_of_takes.Given as goal

abbrev pub decreases-row_of_takes : goal.decreases-row_of_takes
decreases-row_of_takes l = vec_len l.passes
