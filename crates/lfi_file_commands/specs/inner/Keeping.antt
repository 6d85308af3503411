-- What is kept of images as they are put, one after another. Only private clauses and proofs use it.
use Rattle.std.specs.Prelude.{ℕ, Bool, List, ◌++◌}
use Rattle.lfi_image.specs.Image.{Image}
use Rattle.lfi_file_commands.specs.declared.image_items.ImageItems.{ImageItems}
use Rattle.lfi_file_commands.specs.Images.{Fate, WritesImages}
use Rattle.lfi_file_commands.specs.Items.{AreItemsOf}
use Rattle.lfi_file_commands.specs.Left.{Left}

-- these images were put, or failures came and were told, and their items are kept behind those that were
abbrev pub KeepsImages : (folder : List ℕ) → List Image → (old new : Left) → (all : Bool) → (before after : ImageItems) → Type 0
KeepsImages folder images old new all before after =
    (written : WritesImages folder images old new all) × ((fates : List Fate) → AreItemsOf folder fates before → AreItemsOf folder (fates ++ written.fates) after)
