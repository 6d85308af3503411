use Rattle.std.proofs.Common.{length}
use Rattle.tests_shared.proofs.board_rows.+count_claims.Given as goal

abbrev pub decreases-count_claims : goal.decreases-count_claims
decreases-count_claims g l = length l.seats.now
