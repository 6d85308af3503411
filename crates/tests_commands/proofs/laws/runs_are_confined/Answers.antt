use Rattle.std.proofs.Common.{◌∙◌, Some, subst}
use Rattle.lfi_run_image.specs.Runs.{CameOf}
use Rattle.tests_commands.proofs.Kept.{image_stays}
use Rattle.tests_commands.proofs.Told.{told_now}
use Rattle.lfi_file_commands.specs.Running.{told_of_run}
use Rattle.tests_commands.proofs.laws.runs_are_confined.Goals as goal

pub returns-clause-confined : goal.returns-clause-confined
returns-clause-confined a bytes steps format old new ending is halt count ended =
    let came = subst (CameOf (Some bytes) steps old.out new.out) ended is.came in
    let runs = came.3 in
    (came.0, came.2, runs.start, runs.registers, runs.placed, runs.unwritten, runs.confined)

pub returns-clause-ran : goal.returns-clause-ran
returns-clause-ran a bytes steps format old new ending is halt count ended =
    let came = subst (CameOf (Some bytes) steps old.out new.out) ended is.came in
    let runs = came.3 in (
      came.0,
      came.2,
      runs.start,
      runs.last,
      runs.registers,
      runs.ran,
      image_stays halt count runs.start runs.last old.out new.out runs.ran ∙ runs.placed,
      runs.within,
      runs.used,
    )

pub returns-clause-refused : goal.returns-clause-refused
returns-clause-refused a bytes steps format old new ending is fault refused = subst (CameOf (Some bytes) steps old.out new.out) refused is.came

pub returns-clause-told : goal.returns-clause-told
returns-clause-told a bytes steps format old new ending is kept = (told_now new.is_lost old.errors new.errors (told_of_run format is.run) kept is.told, is.put)
