-- What comes of an image file that is run. Source: this project's profile, docs/COMMANDS.md.
use Rattle.std.specs.Prelude.{◌≡◌, ◌↔◌, ◌≤◌, ℕ, List, Option, IfSome}
use Rattle.sparse_memory.specs.Kept.{byte_at}
use Rattle.lfi_image.specs.Image.{Image, IsImage}
use Rattle.lfi_image_file.specs.Files.{FileOf}
use Rattle.lfi_image_file.specs.Reading.{IsFault}
use Rattle.lfi_machine.specs.declared.halt.Halt.{Halt}
use Rattle.lfi_machine.specs.declared.halt.Halt.TheVariants.{StepsUsed}
use Rattle.lfi_machine.specs.Starts.{start_of}
use Rattle.lfi_machine.specs.Runs.{Config, IsConfined, RanThenHalts}
use Rattle.lfi_run_image.specs.declared.image_run.ImageRun.{ImageRun}
use Rattle.lfi_run_image.specs.declared.image_run.ImageRun.TheVariants.{Refused, Ended}
use Rattle.lfi_run_image.specs.Serving.{serves}

-- A machine was made of the image, at the registers of its start and with no byte written, from which no run escapes. It ran for
-- `count` steps with the program's runtime, which wrote what is printed to the output, and then halted.
pub record RunsImage (image : Image) (steps : ℕ) (old new : Option (List ℕ)) (halt : Halt) (count : ℕ) : Type 0 where
  pub start : Config
  pub registers : start.registers ≡ start_of image
  pub placed : start.owned.image ≡ image
  pub unwritten : (offset : ℕ) → byte_at start.owned.kept offset ≡ 0
  pub confined : IsConfined start
  pub last : Config
  pub ran : RanThenHalts serves start old halt count last new
  pub within : count ≤ steps
  pub used : (halt ≡ StepsUsed) ↔ (count ≡ steps)

-- Of a file with these bytes, where they are known: it has a fault, and nothing is printed; or it is an image's, which runs.
abbrev pub CameOf : (bytes : Option (List ℕ)) → (steps : ℕ) → (old new : Option (List ℕ)) → ImageRun → Type 0
CameOf bytes steps old new (Refused fault) = IfSome bytes (λ xs. IsFault xs fault) × (new ≡ old)
CameOf bytes steps old new (Ended halt count) =
    (image : Image) × IsImage image × IfSome bytes (λ xs. FileOf image xs) × RunsImage image steps old new halt count
