-- The files of images. Their format is this project's own. Source: this project's format, docs/PROFILE.md.
use Rattle.std.specs.Prelude.{◌≡◌, ℕ, List, [], ◌∷◌, ◌++◌, length, flat_map}
use Rattle.byteorder.specs.Endian.{little_bytes}
use Rattle.lfi_module.specs.Numbers.{base_of}
use Rattle.lfi_module.specs.Profiles.{profile_number}
use Rattle.lfi_module.specs.declared.profile.Profile.{Profile}
use Rattle.lfi_image.specs.Image.{Image}

-- `LFI1`
abbrev pub magic : List ℕ
magic = 0x4C ∷ 0x46 ∷ 0x49 ∷ 0x31 ∷ []

-- what stands before the code, 24 bytes; all numbers are little-endian
abbrev pub header_of : (count entry : ℕ) → Profile → (slot : ℕ) → List ℕ
header_of count entry profile slot =
    magic ++ little_bytes 4 count ++ little_bytes 4 entry ++ little_bytes 4 (profile_number profile) ++ little_bytes 8 (base_of slot)

-- words as bytes, the lowest first
abbrev pub code_of : List ℕ → List ℕ
code_of words = flat_map (little_bytes 4) words

-- the file of an image: its header and its code
abbrev pub file_of : Image → List ℕ
file_of image = header_of (length image.words) image.entry image.profile image.slot ++ code_of image.words

-- The bytes are those of the image's file.
abbrev pub FileOf : Image → List ℕ → Type 0
FileOf image bytes = bytes ≡ file_of image
