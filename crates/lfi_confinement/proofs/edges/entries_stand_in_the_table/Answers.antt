use Rattle.std.proofs.Common.{refl}
use Rattle.lfi_confinement.specs.Slots.{base}
use Rattle.lfi_confinement.proofs.Places.{loaded_entry, entry_is}
use Rattle.lfi_confinement.proofs.edges.entries_stand_in_the_table.Goals as goal
use Rattle.std.specs.Prelude.{◌+◌, ◌*◌}

pub returns-clause-held : goal.returns-clause-held
returns-clause-held c = λ code data_at j h. loaded_entry code data_at j (base code + 8 * j) h refl

pub returns-clause-called : goal.returns-clause-called
returns-clause-called c = entry_is
