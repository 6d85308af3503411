-- How large a module is, where it is entered, by which profile it goes, and how large its pages are. Source: this project's profile, docs/PROFILE.md.
use Rattle.std.specs.Prelude.{ℕ, ◌<◌, ◌≤◌}
use Rattle.lfi_module.specs.Numbers.{most_words}
use Rattle.lfi_module.specs.Pages.{HasPages}
use Rattle.lfi_module.specs.declared.profile.Profile.{Profile}

-- how many words a module has, the word at which it is entered, its profile, and the words of its full pages
pub record ExtentView : Type 0 where
  pub words : ℕ
  pub entry : ℕ
  pub profile : Profile
  pub pages : ℕ

-- a module's words are within their range, its entry is one of them, and its profile has such pages
pub record IsExtent (extent : ExtentView) : Type 0 where
  pub some : 1 ≤ extent.words
  pub most : extent.words ≤ most_words
  pub entry : extent.entry < extent.words
  pub pages : HasPages extent.profile extent.pages
