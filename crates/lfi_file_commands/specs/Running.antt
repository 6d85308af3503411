-- What `lfiload run` finds, writes and tells. Source: this project's profile, docs/COMMANDS.md.
use Rattle.std.specs.Prelude.{◌≡◌, ℕ, Bool, true, false, List, ◌++◌, Option, codes}
use Rattle.lfi_command_line.specs.declared.options.Format.{Format}
use Rattle.lfi_command_line.specs.declared.options.Format.TheVariants.{Text, Json}
use Rattle.lfi_run_image.specs.declared.image_run.ImageRun.{ImageRun}
use Rattle.lfi_run_image.specs.Runs.{CameOf}
use Rattle.lfi_run_image.specs.Texts.{run_text}
use Rattle.lfi_file_commands.specs.declared.ending.Ending.{Ending}
use Rattle.lfi_file_commands.specs.declared.ending.Ending.TheVariants.{Failed}
use Rattle.lfi_file_commands.specs.Endings.{ending_of_run}
use Rattle.lfi_file_commands.specs.Failures.{Told}
use Rattle.lfi_file_commands.specs.Json.{run_object}
use Rattle.lfi_file_commands.specs.Left.{Left}

-- what is told of a run: a line, or two; or an object
abbrev pub told_of_run : Format → ImageRun → List ℕ
told_of_run Text run = run_text run ++ codes "\n"
told_of_run Json run = run_object run ++ codes "\n"

-- the ending of a run of an image: by what came of it, where that was told
abbrev pub EndsRun : (is_lost : Bool) → ImageRun → Ending → Type 0
EndsRun true run ending = ending ≡ Failed
EndsRun false run ending = ending ≡ ending_of_run run

-- What `lfiload run` did with a file that has these bytes, as far as they are known: it ran it as an image for at most `steps` steps,
-- told what came of it in this form, put no file, and ended by it.
pub record HasRun (bytes : Option (List ℕ)) (steps : ℕ) (format : Format) (old new : Left) (ending : Ending) : Type 0 where
  pub run : ImageRun
  -- with what its code printed
  pub came : CameOf bytes steps old.out new.out run
  pub put : new.put ≡ old.put
  pub told : Told new.is_lost old.errors new.errors (told_of_run format run)
  pub ends : EndsRun new.is_lost run ending
