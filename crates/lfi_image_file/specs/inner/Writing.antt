-- What the steps of writing a file do.
use Rattle.std.specs.Prelude.{◌≡◌, ℕ, List, Option, Result, Ok, Err}
use Rattle.std.specs.Io.KnownBytes.{Appends}
use Rattle.lfi_image_file.specs.declared.fault.ImageFault.{ImageFault}
use Rattle.lfi_image_file.specs.declared.fault.ImageFault.TheVariants.{Device}
use Rattle.exact_io.specs.Beginnings.{AppendsBeginning}

-- The bytes were written, or a part of them, where the writer failed.
abbrev pub Writes : (old new : Option (List ℕ)) → List ℕ → Result (Unit {0}) ImageFault → Type 0
Writes old new bytes (Ok _) = Appends old new bytes
Writes old new bytes (Err fault) = (fault ≡ Device) × AppendsBeginning old new bytes
