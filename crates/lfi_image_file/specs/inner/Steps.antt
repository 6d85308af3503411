-- What the steps of reading a file do.
use Rattle.std.specs.Prelude.{◌≡◌, ℕ, ◌*◌, ◌<◌, ◌≤◌, List, ◌++◌, length, Option, Some, None, IfSome, ⊤}
use Rattle.std.specs.Io.KnownBytes.{Consumes}
use Rattle.lfi_module.specs.Numbers.{small_page}
use Rattle.lfi_module.specs.declared.profile.Profile.{Profile}
use Rattle.a64_word.specs.Words.{words_of}
use Rattle.lfi_rules.specs.declared.fault.Fault.{Fault}
use Rattle.lfi_rules.specs.Faults.{FirstFault}
use Rattle.lfi_image_file.specs.declared.fault.ImageFault.{ImageFault}
use Rattle.lfi_image_file.specs.declared.fault.ImageFault.TheVariants.{Truncated, Unlawful, NoMemory, Device}
use Rattle.lfi_image.specs.Image.{Module}
use Rattle.lfi_image_file.specs.Files.{code_of}
use Rattle.lfi_image.specs.Built.{due, with_placed}

-- Fewer bytes than that are left, or the reader failed.
abbrev pub IsShort : Option (List ℕ) → ℕ → ImageFault → Type 0
IsShort known len Truncated = IfSome known (λ xs. length xs < len)
IsShort known len Device = ⊤
IsShort known len _ = ⊥

-- There is no page of this length: its bytes aren't all there, or memory ran out, or the reader failed.
abbrev pub IsNoPage : Option (List ℕ) → ℕ → ImageFault → Type 0
IsNoPage known len Truncated = IfSome known (λ xs. length xs < len)
IsNoPage known len NoMemory = ⊤
IsNoPage known len Device = ⊤
IsNoPage known len _ = ⊥

-- The module after a page: it was read, and its words were placed.
pub record ReadsPage (old new : Option (List ℕ)) (m after : Module) : Type 0 where
  pub page : List ℕ
  pub consumed : Consumes old new page
  pub size : length page ≡ 4 * due m
  pub back : code_of (words_of page) ≡ page
  pub placed : after ≡ with_placed m (words_of page)
  pub faultless : FirstFault m.extent.profile (m.placed ++ words_of page) m.extent.words None

-- A page was read that brings this fault.
pub record ReadsFault (old new : Option (List ℕ)) (m : Module) (fault : Fault) : Type 0 where
  pub page : List ℕ
  pub consumed : Consumes old new page
  pub size : length page ≡ 4 * due m
  pub first : FirstFault m.extent.profile (m.placed ++ words_of page) m.extent.words (Some fault)

-- why no page was placed
abbrev pub IsPageFault : (old new : Option (List ℕ)) → Module → ImageFault → Type 0
IsPageFault old new m (Unlawful fault) = ReadsFault old new m fault
IsPageFault old new m Truncated = IfSome old (λ xs. length xs < 4 * due m)
IsPageFault old new m NoMemory = ⊤
IsPageFault old new m Device = ⊤
IsPageFault old new m _ = ⊥

-- It is the same module, whatever is placed.
pub record IsSameModule (old new : Module) : Type 0 where
  pub extent : new.extent ≡ old.extent
  pub slot : new.slot ≡ old.slot

-- Of a module of `count` words, which goes by a profile, these have been read.
pub record IsRead (profile : Profile) (old new : Option (List ℕ)) (count : ℕ) (words : List ℕ) : Type 0 where
  pub code : List ℕ
  pub consumed : Consumes old new code
  pub spelled : words_of code ≡ words
  pub back : code_of words ≡ code
  pub size : length code ≡ 4 * length words
  pub within : length words ≤ count
  pub pages : ℕ
  pub whole : length words < count → length words ≡ small_page * pages
  pub faultless : FirstFault profile words count None
