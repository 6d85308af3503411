-- The seats of a board, taken together. A row has a place for each receiver that a board can have.
use Rattle.std.specs.Prelude.{◌≡◌, ℕ, zero, suc, ◌+◌, ◌<◌, ◌≢◌, List, [], ◌∷◌, Option, Some, None, slice_index_or}
use Rattle.atomic_table.specs.Seated.{TableId}
use Rattle.lfi_board.specs.declared.board.Board.{Board}
use Rattle.lfi_board.specs.declared.seats.ReceiverSeat.{ReceiverSeat}
use Rattle.lfi_board.specs.declared.seats.SequencerSeat.{SequencerSeat}
use Rattle.lfi_board.specs.declared.seats.WatchSeat.{WatchSeat}
use Rattle.lfi_board.specs.Knowledge.{Follows, times, receiver_knowledge, onlooker}
use Rattle.lfi_board.specs.Known.{board_id, board_receivers, board_of, known_by, sequencer_board, known_by_sequencer, module_of, watcher_board, known_by_watcher}

-- the receivers' seats by their numbers
abbrev pub Row : Type 0
Row = List (Option ReceiverSeat)

-- a seat of the board z with n receivers that has done nothing yet
abbrev pub IsNewReceiver : TableId → ℕ → ReceiverSeat → Type 0
IsNewReceiver z n s = (board_of s ≡ z) × (known_by s ≡ receiver_knowledge n)

-- the first k places have such a seat each, and the others none
abbrev pub NewReceivers : TableId → ℕ → ℕ → Row → Type 0
NewReceivers z n zero [] = Unit {0}
NewReceivers z n zero (None ∷ ss) = NewReceivers z n zero ss
NewReceivers z n (suc k) (Some s ∷ ss) = IsNewReceiver z n s × NewReceivers z n k ss
NewReceivers z n _ _ = ⊥

-- one a module, in order from i on
abbrev pub NewSequencers : TableId → ℕ → ℕ → List SequencerSeat → Type 0
NewSequencers z n i [] = Unit {0}
NewSequencers z n i (s ∷ ss) = ((sequencer_board s ≡ z) × (module_of s ≡ i) × (known_by_sequencer s ≡ onlooker n)) × NewSequencers z n (suc i) ss

-- a seat of this board that has seen nothing
abbrev pub IsNewWatcher : TableId → ℕ → WatchSeat → Type 0
IsNewWatcher z n s = (watcher_board s ≡ z) × (known_by_watcher s ≡ onlooker n)

-- how many seats are there
abbrev pub present : Row → ℕ
present [] = 0
present (None ∷ ss) = present ss
present (Some s ∷ ss) = 1 + present ss

-- the seats that are there are of the board z
abbrev pub AllOn : TableId → Row → Type 0
AllOn z [] = Unit {0}
AllOn z (None ∷ ss) = AllOn z ss
AllOn z (Some s ∷ ss) = (board_of s ≡ z) × AllOn z ss

-- the seats of all receivers of the board
abbrev pub AllReceivers : Board → Row → Type 0
AllReceivers b ss = AllOn (board_id b) ss × (present ss ≡ board_receivers b)

-- the same places have seats, each of the same board and with the same knowledge
abbrev pub AreSame : Row → Row → Type 0
AreSame [] [] = Unit {0}
AreSame (None ∷ ss) (None ∷ ts) = AreSame ss ts
AreSame (Some s ∷ ss) (Some t ∷ ts) = ((board_of t ≡ board_of s) × (known_by t ≡ known_by s)) × AreSame ss ts
AreSame _ _ = ⊥

-- the phase may follow what each seat has seen of the module
abbrev pub MayFollow : ℕ → ℕ → Row → Type 0
MayFollow m phase [] = Unit {0}
MayFollow m phase (None ∷ ss) = MayFollow m phase ss
MayFollow m phase (Some s ∷ ss) = Follows (known_by s).seen m phase × MayFollow m phase ss

-- how often a place's seat was answered `Mine` for the module; never where none is there
abbrev pub claims_in : ℕ → Option ReceiverSeat → ℕ
claims_in m None = 0
claims_in m (Some s) = times m (known_by s).claimed

-- how often the seat at a place was answered `Mine` for module m
abbrev pub claims_at : ℕ → Row → ℕ → ℕ
claims_at m ss i = claims_in m (slice_index_or ss i None)

-- the seat at i was answered `Mine` for the module once, and no seat at another place was
abbrev pub OnlyAt : ℕ → Row → ℕ → Type 0
OnlyAt m ss i = (claims_at m ss i ≡ 1) × ((j : ℕ) → j ≢ i → claims_at m ss j ≡ 0)

-- the module's one holder, where its phase isn't free; where it is free, no seat was answered `Mine` for it
abbrev pub IsHolder : ℕ → Row → Option ℕ → Type 0
IsHolder m ss None = MayFollow m 0 ss × ((j : ℕ) → claims_at m ss j ≡ 0)
IsHolder m ss (Some i) = OnlyAt m ss i × ((phase : ℕ) × (0 < phase) × (phase < 4) × MayFollow m phase ss)
