use Rattle.std.proofs.Common.{◌≡◌}
use Rattle.bench.proofs.image.page.Given as goal

abbrev pub invariant-loop : goal.invariant-loop
invariant-loop l = l.page.size ≡ l.fn.size
