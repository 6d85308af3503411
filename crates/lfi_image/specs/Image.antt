-- Modules that are put together, and images.
use Rattle.std.specs.Prelude.{ℕ, ◌<◌, List, length}
use Rattle.lfi_module.specs.Numbers.{module_count}
use Rattle.lfi_module.specs.declared.profile.Profile.{Profile}
use Rattle.lfi_module.specs.Extents.{ExtentView}
use Rattle.lfi_rules.specs.Faults.{Lawful}

-- a module with this extent, for a slot, of which the first words have been placed
pub record Module : Type 0 where
  pub extent : ExtentView
  pub slot : ℕ
  pub placed : List ℕ

-- a whole module
pub record Image : Type 0 where
  pub profile : Profile
  pub entry : ℕ
  pub slot : ℕ
  pub words : List ℕ

-- Its words are lawful by its profile, its entry is one of them, and it is for one of the 16 slots.
pub record IsImage (image : Image) : Type 0 where
  pub lawful : Lawful image.profile image.words
  pub entry : image.entry < length image.words
  pub slot : image.slot < module_count
