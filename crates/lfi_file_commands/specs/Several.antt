-- What is done for several files, one after another. Source: this project's profile, docs/COMMANDS.md.
use Rattle.std.specs.Prelude.{◌≡◌, ◌⊎◌, ℕ, zero, suc, List, length, slice_get, Some}
use Rattle.lfi_file_commands.specs.declared.device_cause.DeviceCause.{DeviceCause}
use Rattle.lfi_file_commands.specs.declared.ending.Ending.{Ending}
use Rattle.lfi_file_commands.specs.declared.ending.Ending.TheVariants.{Well, Failed}
use Rattle.lfi_file_commands.specs.declared.failure.Failure.{Failure}
use Rattle.lfi_file_commands.specs.declared.failure.Failure.TheVariants.{CannotWrite}
use Rattle.lfi_file_commands.specs.declared.failure.Target.TheVariants.{StandardOutput}
use Rattle.lfi_file_commands.specs.Checking.{worst}
use Rattle.lfi_file_commands.specs.Endings.{EndsUnlessLost}
use Rattle.lfi_file_commands.specs.Failures.{Told, failure_line}
use Rattle.lfi_file_commands.specs.Left.{Left}

-- what came of the first `count` of these paths, one after another, of each by how many stand before it; the ending is the worst of theirs
abbrev pub AreDone : (One : ℕ → List ℕ → Left → Left → Ending → Type 0) → (paths : List (List ℕ)) → (count : ℕ) → (old new : Left) → Ending → Type 0
AreDone One paths zero old new ending = (new ≡ old) × (ending ≡ Well)
AreDone One paths (suc k) old new ending =
    (mid : Left) × (before here : Ending) × (path : List ℕ) × AreDone One paths k old mid before × (slice_get paths k ≡ Some path) × One k path mid new here
    × (ending ≡ worst before here)

-- all of them were done
abbrev pub DoesAll : (One : ℕ → List ℕ → Left → Left → Ending → Type 0) → (paths : List (List ℕ)) → (old new : Left) → Ending → Type 0
DoesAll One paths old new ending = (all : Ending) × AreDone One paths (length paths) old new all × EndsUnlessLost new.is_lost all ending

-- those before one were, at which the run failed for this; that was told, unless it is lost
abbrev pub StopsBy : Failure → (One : ℕ → List ℕ → Left → Left → Ending → Type 0) → (paths : List (List ℕ)) → (old new : Left) → Ending → Type 0
StopsBy failure One paths old new ending =
    (k : ℕ) × (mid : Left) × (before : Ending) × AreDone One paths k old mid before × Told new.is_lost mid.errors new.errors (failure_line failure) × (new.put ≡ mid.put) × (ending ≡ Failed)

-- the output failed
abbrev pub StopsAtOutput : (One : ℕ → List ℕ → Left → Left → Ending → Type 0) → (paths : List (List ℕ)) → (old new : Left) → Ending → Type 0
StopsAtOutput One paths old new ending = (cause : DeviceCause) × StopsBy (CannotWrite StandardOutput cause) One paths old new ending

-- all were done, or all before one
abbrev pub DoesEach : (One : ℕ → List ℕ → Left → Left → Ending → Type 0) → (paths : List (List ℕ)) → (old new : Left) → Ending → Type 0
DoesEach One paths old new ending = DoesAll One paths old new ending ⊎ StopsAtOutput One paths old new ending
