-- What is told of a report, put together.
use Rattle.std.proofs.Common.{◌≡◌, ℕ, Bool, true, false, List, ◌++◌, Option, Some, slice_get, refl, sym}
use Rattle.std.specs.Prelude.{slice_index}
use Rattle.lfi_frame.specs.declared.fault.FrameFault.{FrameFault}
use Rattle.lfi_receive.specs.declared.start.MessageStart.{MessageStart}
use Rattle.lfi_stage.specs.declared.settlement.Report.{Report}
use Rattle.lfi_file_commands.specs.Refused.{TellRefused}
use Rattle.lfi_commands.specs.Explained.{connection_lines, fault_lines, strays_line, holder_lines, all_connection_lines, TellsExplained}

-- all is told where it is asked for
pub all_told : (explain : Bool) (report : Report) (paths : List (List ℕ)) (refused : List ℕ) → explain ≡ true → TellRefused report.modules refused
    → TellsExplained explain report paths (refused ++ (holder_lines report.holders ++ all_connection_lines report.faults report.starts report.connection_strays paths))
all_told true report paths refused asked told = (refused, told, refl)
all_told false report paths refused asked told = absurd cc

-- what is told of one connection
pub lines_of : (starts : List MessageStart) (strays : List ℕ) (paths : List (List ℕ)) (n : ℕ) (fault : Option FrameFault) (start : MessageStart) (path : Option (List ℕ)) → slice_get starts n ≡ Some start → slice_get paths n ≡ path
    → fault_lines n fault (Some start) path ++ strays_line n (slice_index strays n) ≡ connection_lines starts strays paths n fault
lines_of starts strays paths n fault start path at is = sym (λ i. fault_lines n fault (at i) (is i) ++ strays_line n (slice_index strays n))
