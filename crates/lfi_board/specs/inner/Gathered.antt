-- What the seats of a row know and did, all together.
use Rattle.std.specs.Prelude.{ℕ, ◌+◌, [], ◌∷◌, Some, None}
use Rattle.lfi_board.specs.Knowledge.{times}
use Rattle.lfi_board.specs.Known.{known_by}
use Rattle.lfi_board.specs.Rows.{Row}
use Rattle.lfi_board.specs.inner.Rule.{View}

-- what the seats know, the last first, before what the view has
abbrev pub gathered : Row → View → View
gathered [] v = v
gathered (None ∷ ss) v = gathered ss v
gathered (Some s ∷ ss) v = gathered ss (known_by s ∷ v)

-- how often all seats together were answered `Mine` for the module
abbrev pub claims_by : ℕ → Row → ℕ
claims_by m [] = 0
claims_by m (None ∷ ss) = claims_by m ss
claims_by m (Some s ∷ ss) = times m (known_by s).claimed + claims_by m ss
