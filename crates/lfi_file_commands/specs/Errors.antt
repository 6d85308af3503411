-- Where failures are told. Source: this project's profile, docs/COMMANDS.md.
use Rattle.std.specs.Prelude.{Bool}
use Rattle.lfi_file_commands.specs.declared.errors.Errors.{Errors}

-- what they are written to
abbrev pub writer_of : {W : Type 0} → Errors W → W
writer_of errors = errors.writer

-- whether something could not be written there
abbrev pub is_lost_of : {W : Type 0} → Errors W → Bool
is_lost_of errors = errors.is_lost
