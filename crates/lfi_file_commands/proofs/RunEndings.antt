-- How a run of an image ends, and one that packs code files.
use Rattle.std.proofs.Common.{◌≡◌, inl, inr, ℕ, List, Bool, true, false, Option, refl, subst, sym}
use Rattle.lfi_command_line.specs.declared.options.PackOptions.{PackOptions}
use Rattle.lfi_run_image.specs.declared.image_run.ImageRun.{ImageRun}
use Rattle.lfi_file_commands.specs.declared.ending.Ending.{Ending}
use Rattle.lfi_file_commands.specs.declared.ending.Ending.TheVariants.{NotWell, Well}
use Rattle.lfi_file_commands.specs.Endings.{ending_of_run, EndsUnlessLost}
use Rattle.lfi_file_commands.specs.Left.{Left}
use Rattle.lfi_file_commands.specs.Packing.{FindsPacked, PacksModules, TellsNoModule}
use Rattle.lfi_file_commands.specs.Running.{EndsRun}

-- the ending of a run of an image, which is told
pub ends_run : (is_lost : Bool) (run : ImageRun) (ending : Ending) → EndsUnlessLost is_lost (ending_of_run run) ending → EndsRun is_lost run ending
ends_run true run ending ends = ends
ends_run false run ending ends = ends

-- code files that were packed
pub packs_all : (asked : PackOptions) (file_at : List ℕ → Option (List ℕ)) (old new : Left) (ending : Ending) → PacksModules asked file_at old new → EndsUnlessLost new.is_lost Well ending
    → FindsPacked asked file_at old new ending
packs_all asked file_at old new ending packs ends = go new.is_lost refl ends
  where
    go : (lost : Bool) → new.is_lost ≡ lost → EndsUnlessLost lost Well ending → FindsPacked asked file_at old new ending
    go true is ends = subst (FindsPacked asked file_at old new) (sym ends) (inl packs, is)
    go false is ends = subst (FindsPacked asked file_at old new) (sym ends) (packs, is)

-- code files of which one is no module, which is told
pub packs_none : (asked : PackOptions) (file_at : List ℕ → Option (List ℕ)) (old new : Left) (ending : Ending) → TellsNoModule asked file_at old new → EndsUnlessLost new.is_lost NotWell ending
    → FindsPacked asked file_at old new ending
packs_none asked file_at old new ending tells ends = go new.is_lost refl ends
  where
    go : (lost : Bool) → new.is_lost ≡ lost → EndsUnlessLost lost NotWell ending → FindsPacked asked file_at old new ending
    go true is ends = subst (FindsPacked asked file_at old new) (sym ends) (inr tells, is)
    go false is ends = subst (FindsPacked asked file_at old new) (sym ends) (tells, is)
