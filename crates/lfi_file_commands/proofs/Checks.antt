-- What is done for several files, one after another.
use Rattle.std.proofs.Common.{add-one, ◌≡◌, ℕ, ◌+◌, List, Some, slice_get}
use Rattle.lfi_file_commands.specs.declared.ending.Ending.{Ending}
use Rattle.lfi_file_commands.specs.Checking.{worst}
use Rattle.lfi_file_commands.specs.Left.{Left}
use Rattle.lfi_file_commands.specs.Several.{AreDone}

-- one file more
pub done_more : (One : ℕ → List ℕ → Left → Left → Ending → Type 0) (paths : List (List ℕ)) (k : ℕ) (old mid new : Left) (before here : Ending) (path : List ℕ) (after : Ending)
    → AreDone One paths k old mid before → slice_get paths k ≡ Some path → One k path mid new here → after ≡ worst before here → AreDone One paths (k + 1) old new after
done_more One paths k old mid new before here path after done at one is = rw add-one (mid, before, here, path, done, at, one, is)
