-- What the answer of each call says of the seat before and after.
use Rattle.std.specs.Prelude.{◌≡◌, ℕ, ◌<◌, ◌≤◌}
use Rattle.lfi_board.specs.declared.knowledge.Knowledge.{Knowledge}
use Rattle.lfi_board.specs.declared.seats.Claim.{Claim}
use Rattle.lfi_board.specs.declared.seats.Claim.TheVariants.{Mine, Taken}
use Rattle.lfi_board.specs.declared.seats.Change.{Change}
use Rattle.lfi_board.specs.declared.seats.Change.TheVariants.{Made, WasFree, WasEnded}
use Rattle.lfi_board.specs.declared.seats.Phase.{Phase}
use Rattle.lfi_board.specs.declared.seats.Phase.TheVariants.{Free, Open, Refused, Done}
use Rattle.lfi_board.specs.Knowledge.{sees, claims, Follows}

-- the number that stands for a phase
abbrev pub number_of : Phase → ℕ
number_of = elim [ Free ↦ 0 | Open ↦ 1 | Refused ↦ 2 | Done ↦ 3 ]

-- `Mine` exactly where the word was free: the module is then the seat's own. After `Taken` the seat has seen that it isn't free
abbrev pub Claimed : Knowledge → Knowledge → ℕ → Claim → Type 0
Claimed h h' m Mine = Follows h.seen m 0 × (h' ≡ claims m h)
Claimed h h' m Taken = (phase : ℕ) × (0 < phase) × (phase < 4) × Follows h.seen m phase × (h' ≡ sees m phase h)

-- `Made` exactly where the word was open: it is then `to`
abbrev pub Changed : Knowledge → Knowledge → ℕ → ℕ → Change → Type 0
Changed h h' m to Made = Follows h.seen m 1 × (h' ≡ sees m to h)
Changed h h' m to WasFree = Follows h.seen m 0 × (h' ≡ sees m 0 h)
Changed h h' m to WasEnded = (phase : ℕ) × (2 ≤ phase) × (phase < 4) × Follows h.seen m phase × (h' ≡ sees m phase h)

-- the word held the number, which may follow all that the seat had seen of it
abbrev pub Saw : Knowledge → Knowledge → ℕ → ℕ → Type 0
Saw h h' word number = Follows h.seen word number × (h' ≡ sees word number h)
