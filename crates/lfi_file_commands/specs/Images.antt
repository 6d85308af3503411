-- Where `lfiload load --out` writes the images, and what comes of each. Source: this project's profile,
-- docs/COMMANDS.md.
use Rattle.std.specs.Prelude.{◌≡◌, ℕ, Bool, true, false, List, [], ◌∷◌, ◌++◌, map, Option, Some, None, ⊤, codes, decimal, if◌then◌else◌, nat_lt}
use Rattle.std.specs.List.{AllByRecursion, filter_map, flat_map}
use Rattle.lfi_image.specs.Image.{Image}
use Rattle.lfi_image_file.specs.Files.{file_of}
use Rattle.lfi_sequence.specs.declared.report.ImageState.{ImageState}
use Rattle.lfi_sequence.specs.declared.report.ImageState.TheVariants.{Absent, Part, Whole}
use Rattle.lfi_sequence.specs.declared.report.ModuleReport.{ModuleReport}
use Rattle.lfi_file_commands.specs.declared.failure.Failure.{Failure}
use Rattle.lfi_file_commands.specs.Failures.{failure_lines, IsOfWriting, Told}
use Rattle.lfi_file_commands.specs.Left.{Left}

-- a number in decimal digits, two at the least
abbrev pub two_digits : ℕ → List ℕ
two_digits n = if nat_lt n 10 then 48 ∷ decimal n else decimal n

-- the path of an image of this slot in a folder
abbrev pub image_path_of : List ℕ → ℕ → List ℕ
image_path_of folder slot = folder ++ codes "/module-" ++ two_digits slot ++ codes ".img"

-- a file by its path and bytes: that of an image in a folder
abbrev pub image_file : List ℕ → Image → List ℕ × List ℕ
image_file folder image = (image_path_of folder image.slot, file_of image)

-- these files, by their paths and bytes, were put after those that were there, where these are known
abbrev pub Puts : (old new : Option (List (List ℕ × List ℕ))) → List (List ℕ × List ℕ) → Type 0
Puts None new files = ⊤
Puts (Some there) None files = ⊥
Puts (Some there) (Some all) files = all ≡ there ++ files

-- the whole images of modules, in order
abbrev pub image_in : ImageState → List Image
image_in Absent = []
image_in (Part builder) = []
image_in (Whole image) = image ∷ []

-- the whole images of modules, in order
abbrev pub images_in : List ModuleReport → List Image
images_in modules = flat_map (λ told. image_in told.image) modules

-- the images that are asked for: all whole ones where a folder is named
abbrev pub asked_images : Option (List ℕ) → List ModuleReport → List Image
asked_images None modules = []
asked_images (Some folder) modules = images_in modules

-- the folder that is named; without one, an empty name
abbrev pub folder_or_none : Option (List ℕ) → List ℕ
folder_or_none None = []
folder_or_none (Some folder) = folder

-- what came of an image: it was written, or this failure came
pub record Fate : Type 0 where
  pub image : Image
  pub failure : Option Failure

-- the files that were written, in order
abbrev pub file_written : List ℕ → Image → Option Failure → List (List ℕ × List ℕ)
file_written folder image None = image_file folder image ∷ []
file_written folder image (Some failure) = []

-- the files that were written in a folder: of each image that had no failure its path and its bytes
abbrev pub files_written : List ℕ → List Fate → List (List ℕ × List ℕ)
files_written folder fates = flat_map (λ fate. file_written folder fate.image fate.failure) fates

-- the failures that came, in order
abbrev pub failures_in : List Fate → List Failure
failures_in fates = filter_map (λ fate. fate.failure) fates

-- none came
abbrev pub is_none_of : List Failure → Bool
is_none_of [] = true
is_none_of (failure ∷ rest) = false

-- a failure names the path of its own image
abbrev pub NamesPath : List ℕ → Image → Option Failure → Type 0
NamesPath folder image None = ⊤
NamesPath folder image (Some failure) = IsOfWriting (image_path_of folder image.slot) failure

-- Of these images each was put into the folder at the path of its own slot, or a failure came and was told.
pub record WritesImages (folder : List ℕ) (images : List Image) (old new : Left) (all : Bool) : Type 0 where
  pub fates : List Fate
  pub each : map (λ fate. fate.image) fates ≡ images
  pub puts : Puts old.put new.put (files_written folder fates)
  pub names : AllByRecursion (λ fate. NamesPath folder fate.image fate.failure) fates
  pub told : Told new.is_lost old.errors new.errors (failure_lines (failures_in fates))
  -- whether all were put
  pub all_put : all ≡ is_none_of (failures_in fates)
