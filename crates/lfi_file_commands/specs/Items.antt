-- What is kept of images as they are put, where an object is to tell of them. Source: this project's profile, docs/COMMANDS.md.
use Rattle.std.specs.Prelude.{◌≡◌, ℕ, Bool, if◌then◌else◌, List, Option, Some, None, IfSome, string_bytes}
use Rattle.lfi_image.specs.Image.{Image}
use Rattle.lfi_model.specs.Texts.{lines_from}
use Rattle.lfi_file_commands.specs.declared.image_items.ImageItems.{ImageItems}
use Rattle.lfi_file_commands.specs.Images.{Fate, WritesImages}
use Rattle.lfi_file_commands.specs.Json.{image_item}
use Rattle.lfi_file_commands.specs.Left.{Left}

-- the items, as far as they are kept: none are, where they aren't asked for, or there was no memory for one
abbrev pub kept_of : ImageItems → Option (List ℕ)
kept_of items = if items.is_kept then Some (string_bytes items.text) else None

-- the items that are kept, if they are, are those of images that were to be put into a folder and of which this came
abbrev pub AreItemsOf : (folder : List ℕ) → List Fate → ImageItems → Type 0
AreItemsOf folder fates items = IfSome (kept_of items) (λ text. text ≡ lines_from (image_item folder) 0 fates)

-- These images were put into the folder, or failures came and were told, and the items are theirs.
abbrev pub PutsImages : (folder : List ℕ) → List Image → (old new : Left) → (all : Bool) → ImageItems → Type 0
PutsImages folder images old new all items = (written : WritesImages folder images old new all) × AreItemsOf folder written.fates items
