-- What the type of a builder keeps.
use Rattle.std.specs.Prelude.{◌≡◌, ℕ, ◌<◌, ◌≤◌, List, [], ◌∷◌, length, None, ⊤}
use Rattle.lfi_module.specs.declared.profile.Profile.{Profile}
use Rattle.lfi_module.specs.Numbers.{module_count, most_words}
use Rattle.lfi_module.specs.Pages.{IsPageSize}
use Rattle.a64_word.specs.Words.{words_of}
use Rattle.page_buf.specs.Page.{PageView}
use Rattle.lfi_rules.specs.declared.needs.Need.{Need}
use Rattle.lfi_rules.specs.Faults.{FirstFault}
use Rattle.lfi_rules.specs.Verdicts.{LeavesOpen}
use Rattle.lfi_image.specs.Built.{words_in}

abbrev pub IsFull : (size : ℕ) → PageView → Type 0
IsFull size page = length (words_of page.bytes) ≡ size

abbrev pub AllFull : (size : ℕ) → List PageView → Type 0
AllFull size [] = ⊤
AllFull size (page ∷ pages) = IsFull size page × AllFull size pages

-- Each page but the last is full, and the last holds no more.
abbrev pub AreFull : (size : ℕ) → List PageView → Type 0
AreFull size [] = ⊤
AreFull size (page ∷ []) = length (words_of page.bytes) ≤ size
AreFull size (page ∷ next ∷ pages) = IsFull size page × AreFull size (next ∷ pages)

-- These pages of a size are placed, with `placed` words, and these leave a need open.
pub record IsBuilt (profile : Profile) (size words entry slot placed : ℕ) (open_need : Need) (pages : List PageView) : Type 0 where
  pub sized : IsPageSize size
  pub some : 1 ≤ words
  pub most : words ≤ most_words
  pub entry_in : entry < words
  pub slot_in : slot < module_count
  pub all : placed ≡ length (words_in pages)
  pub within : placed ≤ words
  pub whole : placed < words → AllFull size pages
  pub full : AreFull size pages
  pub faultless : FirstFault profile (words_in pages) words None
  pub leaves : LeavesOpen profile (words_in pages) open_need
