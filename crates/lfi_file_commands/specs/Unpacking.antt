-- What `lfiload unpack` writes. Source: this project's profile, docs/COMMANDS.md.
use Rattle.std.specs.Prelude.{◌≡◌, ◌⊎◌, ℕ, List, ◌++◌, Option, IfSome, codes}
use Rattle.std.specs.Io.KnownBytes.{Appends}
use Rattle.lfi_image.specs.Image.{Image, IsImage}
use Rattle.lfi_image_file.specs.declared.fault.ImageFault.{ImageFault}
use Rattle.lfi_image_file.specs.Files.{FileOf, code_of}
use Rattle.lfi_image_file.specs.Reading.{IsFault}
use Rattle.lfi_run_image.specs.declared.image_run.ImageRun.TheVariants.{Refused}
use Rattle.lfi_run_image.specs.Texts.{run_text}
use Rattle.lfi_file_commands.specs.declared.ending.Ending.{Ending}
use Rattle.lfi_file_commands.specs.declared.ending.Ending.TheVariants.{Well}
use Rattle.lfi_file_commands.specs.Failures.{Told}
use Rattle.lfi_file_commands.specs.Left.{Left, TellsNothing}
use Rattle.lfi_file_commands.specs.Running.{EndsRun}

-- The bytes are those of an image's file, whose code was written, and nothing else.
abbrev pub WritesCode : (bytes : Option (List ℕ)) → (old new : Left) → Ending → Type 0
WritesCode bytes old new ending =
    (image : Image) × IsImage image × IfSome bytes (λ xs. FileOf image xs) × Appends old.out new.out (code_of image.words) × (new.put ≡ old.put) × TellsNothing old new × (ending ≡ Well)

-- They have a fault, which was told as that of a run, unless it is lost, and nothing was written.
abbrev pub TellsNoImage : (bytes : Option (List ℕ)) → (old new : Left) → Ending → Type 0
TellsNoImage bytes old new ending =
    (fault : ImageFault) × IfSome bytes (λ xs. IsFault xs fault) × (new.out ≡ old.out) × (new.put ≡ old.put) × Told new.is_lost old.errors new.errors (run_text (Refused fault) ++ codes "\n")
    × EndsRun new.is_lost (Refused fault) ending

-- What `lfiload unpack IMAGE` did with a file that has these bytes, as far as they are known.
abbrev pub HasUnpacked : (bytes : Option (List ℕ)) → (old new : Left) → Ending → Type 0
HasUnpacked bytes old new ending = WritesCode bytes old new ending ⊎ TellsNoImage bytes old new ending
