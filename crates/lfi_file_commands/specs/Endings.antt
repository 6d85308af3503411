-- How a run ends, by what it found. Source: this project's profile, docs/COMMANDS.md.
use Rattle.std.specs.Prelude.{◌≡◌, ℕ, Bool, true, false}
use Rattle.lfi_image_file.specs.declared.fault.ImageFault.TheVariants as image_fault
use Rattle.lfi_confinement.specs.declared.cause.StopCause.{StopCause}
use Rattle.lfi_confinement.specs.declared.cause.StopCause.TheVariants as causes
use Rattle.lfi_machine.specs.declared.halt.Halt.{Halt}
use Rattle.lfi_machine.specs.declared.halt.Halt.TheVariants as halts
use Rattle.lfi_run_image.specs.declared.image_run.ImageRun.{ImageRun}
use Rattle.lfi_run_image.specs.declared.image_run.ImageRun.TheVariants as image_run
use Rattle.lfi_file_commands.specs.declared.ending.Ending.{Ending}
use Rattle.lfi_file_commands.specs.declared.ending.Ending.TheVariants.{Well, NotWell, WrongWords, Failed}

-- the exit status
abbrev pub number_of : Ending → ℕ
number_of = elim [ Well ↦ 0 | NotWell ↦ 1 | WrongWords ↦ 2 | Failed ↦ 3 ]

-- by why the machine of an image stops
abbrev pub ending_of_cause : StopCause → Ending
ending_of_cause (causes.NoAccess address) = NotWell
ending_of_cause (causes.NoFetch pc) = NotWell
ending_of_cause (causes.Breakpoint pc) = Well
ending_of_cause (causes.Ended status) = Well
ending_of_cause causes.UnlawfulAnswer = NotWell

-- by why the run of an image ended
abbrev pub ending_of_halt : Halt → Ending
ending_of_halt (halts.Stopped cause) = ending_of_cause cause
ending_of_halt halts.StepsUsed = Well
ending_of_halt halts.NoMemory = Failed

-- by what came of an image's file
abbrev pub ending_of_run : ImageRun → Ending
ending_of_run (image_run.Refused image_fault.NoMemory) = Failed
ending_of_run (image_run.Refused image_fault.Device) = Failed
ending_of_run (image_run.Refused fault) = NotWell
ending_of_run (image_run.Ended halt steps) = ending_of_halt halt

-- the ending of a run of which something was told: this one, unless it is lost
abbrev pub EndsUnlessLost : (is_lost : Bool) → (told : Ending) → Ending → Type 0
EndsUnlessLost true told ending = ending ≡ Failed
EndsUnlessLost false told ending = ending ≡ told
