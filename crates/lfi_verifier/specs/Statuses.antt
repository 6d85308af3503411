-- The numbers of statuses: LFI_LAWFUL and the others of include/lfi_verifier.h.
use Rattle.std.specs.Prelude.{ℕ}
use Rattle.lfi_verifier.specs.declared.status.Status.{Status}
use Rattle.lfi_verifier.specs.declared.status.Status.TheVariants.{Lawful, Refused, BadLength, Incomplete, BadState, UnknownProfile, UnknownModule, NoRoom}

-- the number of a status, as the header has it
abbrev pub status_number : Status → ℕ
status_number Lawful = 0
status_number Refused = 1
status_number BadLength = 2
status_number Incomplete = 3
status_number BadState = 4
status_number UnknownProfile = 5
status_number UnknownModule = 6
status_number NoRoom = 7
