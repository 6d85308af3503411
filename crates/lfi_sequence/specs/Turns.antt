-- What the turns of sequencers and verifiers do.
use Rattle.std.specs.Prelude.{◌≡◌, ℕ}
use Rattle.page_buf.specs.Members.{MemberView}
use Rattle.lfi_model.specs.Item.{ItemView}
use Rattle.lfi_queues.specs.Passes.{PassView, AddsItem, AddsNone}
use Rattle.lfi_board.specs.declared.seats.SequencerSeat.{SequencerSeat}
use Rattle.lfi_board.specs.declared.seats.Change.{Change}
use Rattle.lfi_board.specs.declared.seats.Phase.TheVariants as phase
use Rattle.lfi_board.specs.Known.{known_by_sequencer, module_of}
use Rattle.lfi_board.specs.Calls.{Changed, number_of}
use Rattle.lfi_sequence.specs.declared.sequence.BoardNotice.{BoardNotice}
use Rattle.lfi_sequence.specs.declared.sequence.BoardNotice.TheVariants as told
use Rattle.lfi_sequence.specs.declared.sequence.Sequence.{Sequence}
use Rattle.lfi_sequence.specs.declared.sequencer.Sequencer.{Sequencer}
use Rattle.lfi_sequence.specs.declared.sequencer.SequencerTurn.{SequencerTurn}
use Rattle.lfi_sequence.specs.declared.sequencer.SequencerTurn.TheVariants as sequencer_turn
use Rattle.lfi_sequence.specs.Sequenced.{Sequenced, board_seat_of, pool_seat_of, told_in}

-- a sequencer's pass of its lane, its seat, what it holds, and what there is to tell the board of that
abbrev pub lane_pass_of : Sequencer → PassView ItemView
lane_pass_of s = s.pass

-- a sequencer's seat
abbrev pub seat_of : Sequencer → SequencerSeat
seat_of s = board_seat_of s.sequence

-- its seat at the pool of pages, to which it gives those that it doesn't place
abbrev pub member_of : Sequencer → MemberView
member_of s = pool_seat_of s.sequence

-- the module of its seat
abbrev pub seat_module_of : Sequencer → ℕ
seat_module_of s = module_of (seat_of s)

-- a sequencer's sequence
abbrev pub sequence_of : Sequencer → Sequence
sequence_of s = s.sequence

-- what it has to tell the board
abbrev pub told_of_sequencer : Sequencer → BoardNotice
told_of_sequencer s = told_in s.sequence

-- Of what it took from its lane it has placed all that has come without a gap.
abbrev pub IsSequenced : Sequencer → Type 0
IsSequenced s = Sequenced s.sequence s.pass.items

-- What a sequencer's turn did: one take, that gave an item or none.
abbrev pub LaneTaken : SequencerTurn → (old new : PassView ItemView) → Type 0
LaneTaken sequencer_turn.Worked old new = AddsItem old new
LaneTaken sequencer_turn.Idle old new = AddsNone old new

-- What was told to the board: where something is told for the first time, one call of `refuse`, or of `finish`; else none.
abbrev pub TellsBoard : (before after : BoardNotice) → (old new : SequencerSeat) → Type 0
TellsBoard told.Nothing told.Refused old new = (answer : Change) × Changed (known_by_sequencer old) (known_by_sequencer new) (module_of old) (number_of phase.Refused) answer
TellsBoard told.Nothing told.Finished old new = (answer : Change) × Changed (known_by_sequencer old) (known_by_sequencer new) (module_of old) (number_of phase.Done) answer
TellsBoard before after old new = new ≡ old
