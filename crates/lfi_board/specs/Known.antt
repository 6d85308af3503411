-- What a clause sees of a board and of its seats.
use Rattle.std.specs.Prelude.{ℕ}
use Rattle.atomic_table.specs.Seated.{TableId}
use Rattle.lfi_board.specs.declared.board.Board.{Board}
use Rattle.lfi_board.specs.declared.knowledge.Knowledge.{Knowledge}
use Rattle.lfi_board.specs.declared.seats.ReceiverSeat.{ReceiverSeat}
use Rattle.lfi_board.specs.declared.seats.SequencerSeat.{SequencerSeat}
use Rattle.lfi_board.specs.declared.seats.WatchSeat.{WatchSeat}
use Rattle.lfi_board.specs.Knowledge.{knowledge_of}

-- which board it is
abbrev pub board_id : Board → TableId
board_id b = b.table.shared.table_id

-- how many receivers it has
abbrev pub board_receivers : Board → ℕ
board_receivers b = b.table.shared.key

-- which board's a receiver's seat is, and what it knows
abbrev pub board_of : ReceiverSeat → TableId
board_of s = s.seat.table_id

-- what a receiver's seat knows
abbrev pub known_by : ReceiverSeat → Knowledge
known_by s = knowledge_of s.seat.me.0

-- the same of a sequencer's seat, and its module
abbrev pub sequencer_board : SequencerSeat → TableId
sequencer_board s = s.seat.table_id

-- what a sequencer's seat knows
abbrev pub known_by_sequencer : SequencerSeat → Knowledge
known_by_sequencer s = knowledge_of s.seat.me.0

-- the module of a sequencer's seat
abbrev pub module_of : SequencerSeat → ℕ
module_of s = s.of

-- the same of a watcher's
abbrev pub watcher_board : WatchSeat → TableId
watcher_board s = s.seat.table_id

-- what a verifier's seat knows
abbrev pub known_by_watcher : WatchSeat → Knowledge
known_by_watcher s = knowledge_of s.seat.me.0
