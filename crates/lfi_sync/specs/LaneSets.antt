-- Sets of lanes.
use Rattle.std.specs.Prelude.{ℕ, ◌/◌, ◌%◌, ◌^◌, ◌==◌, Bool, false, get_or}
use Rattle.lfi_sync.specs.declared.lane_set.LaneSet.{LaneSet}

-- the lane of module m is one of the set
abbrev pub has_lane : LaneSet → ℕ → Bool
has_lane set m = get_or set.has m false

-- bit m of a word is set, by which it is told that the lane of module m has items
abbrev pub is_told : (bits m : ℕ) → Bool
is_told bits m = bits / 2 ^ m % 2 == 1
