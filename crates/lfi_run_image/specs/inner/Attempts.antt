-- What comes of a try to write a byte.
use Rattle.std.specs.Prelude.{ℕ, List, [], ◌∷◌, Option}
use Rattle.std.specs.Io.KnownBytes.{Appends, Keeps}
use Rattle.lfi_run_image.specs.declared.console.Attempt.{Attempt}
use Rattle.lfi_run_image.specs.declared.console.Attempt.TheVariants.{Written, Interrupted, Refused}

-- The byte was added to what an output holds, or nothing was.
abbrev pub Tries : (old : Option (List ℕ)) → (byte : ℕ) → Attempt → (new : Option (List ℕ)) → Type 0
Tries old byte Written new = Appends old new (byte ∷ [])
Tries old byte Interrupted new = Keeps old new
Tries old byte Refused new = Keeps old new
