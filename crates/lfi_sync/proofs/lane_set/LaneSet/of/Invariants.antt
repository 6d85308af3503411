use Rattle.std.proofs.Common.{◌≡◌, ℕ, ◌<◌, false, get_or, length}
use Rattle.lfi_sync.specs.LaneSets.{is_told}
use Rattle.lfi_sync.proofs.lane_set.LaneSet.of.Given as goal

abbrev pub invariant-loop-number : goal.invariant-loop-number
invariant-loop-number l = record {
  long : length l.has ≡ 16;
  done : (m : ℕ) → m < l.number → get_or l.has m false ≡ is_told l.bits m;
}
