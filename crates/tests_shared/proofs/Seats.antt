-- The seats of a new board are of this board.
use Rattle.std.proofs.Common.{ℕ, zero, suc, List, [], ◌∷◌}
use Rattle.std.specs.Prelude.{Option, Some, None}
use Rattle.atomic_table.specs.Seated.{TableId}
use Rattle.lfi_board.specs.declared.seats.ReceiverSeat.{ReceiverSeat}
use Rattle.lfi_board.specs.Rows.{NewReceivers, AllOn}

pub new_on : (z : TableId) (n k : ℕ) (seats : List (Option ReceiverSeat)) → NewReceivers z n k seats → AllOn z seats
new_on z n zero [] h = tt
new_on z n (suc k) [] h = tt
new_on z n zero (None ∷ seats) h = new_on z n zero seats h
new_on z n (suc k) (None ∷ seats) h = absurd h
new_on z n zero (Some seat ∷ seats) h = absurd h
new_on z n (suc k) (Some seat ∷ seats) h = (h.0.0, new_on z n k seats h.1)
