use Rattle.std.proofs.Common.{◌≡◌, take}
use Rattle.lfi_board.specs.inner.Gathered.{claims_by}
use Rattle.lfi_board.proofs.holds.place_of.Given as goal

abbrev pub invariant-loop-i : goal.invariant-loop-i
invariant-loop-i l = claims_by l.fn.number (take l.i l.seats) ≡ 0
