use Rattle.std.proofs.Common.{ap, sym, ◌∙◌}
use Rattle.std.specs.Option.{option_map_or}
use Rattle.lfi_sequence.proofs.Rows.{new_row_of_lanes}
use Rattle.lfi_sequence.proofs.laws.rows_of_lanes.Goals as goal

pub returns : goal.returns
returns c = λ verifiers k made row are below at. new_row_of_lanes made.lanes.items k row are.lanes (ap (λ o. option_map_or (λ r. r) o row) (sym (are.puts.each k below) ∙ at))
