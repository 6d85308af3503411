-- Pages with their verdicts.
use Rattle.std.specs.Prelude.{◌≡◌, ℕ, length}
use Rattle.lfi_module.specs.Extents.{ExtentView}
use Rattle.lfi_module.specs.Pages.{words_due}
use Rattle.a64_word.specs.Words.{words_of}
use Rattle.page_buf.specs.Page.{PageView}
use Rattle.lfi_rules.specs.declared.verdict.PageVerdict.{PageVerdict}
use Rattle.lfi_rules.specs.Verdicts.{Judges}

-- a judged page: the page, the place of its first word in its module, and the module's extent
pub record JudgedView : Type 0 where
  pub page : PageView
  pub first : ℕ
  pub extent : ExtentView

-- The page has its module's size and the words due at its place, and the verdict is the judge's on them there.
pub record IsJudged (extent : ExtentView) (page : PageView) (verdict : PageVerdict) : Type 0 where
  pub sized : page.size ≡ extent.pages
  pub due : length (words_of page.bytes) ≡ words_due extent.pages extent.words verdict.first
  pub judged : Judges extent.profile (words_of page.bytes) verdict.first extent.words verdict
