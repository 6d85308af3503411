-- What contracts see of the parts that all share.
use Rattle.std.specs.Prelude.{List}
use Rattle.lfi_board.specs.declared.board.Board.{Board}
use Rattle.lfi_queues.specs.Passes.{QueueId}
use Rattle.lfi_stage_model.specs.declared.shared.Shared.{Shared}

-- the intake
abbrev pub intake_of : Shared → QueueId
intake_of shared = shared.intake

-- the board
abbrev pub board_at : Shared → Board
board_at shared = shared.board

-- the lanes, by the modules' numbers
abbrev pub lanes_of : Shared → List QueueId
lanes_of shared = shared.lanes.items
