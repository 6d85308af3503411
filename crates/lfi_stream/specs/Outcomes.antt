-- What becomes of a module, by the first fault of its whole pages and by its end. Source: docs/PROFILE.md, "Streams".
use Rattle.std.specs.Prelude.{◌≡◌, ℕ, ◌*◌, min, List, [], length, flat_map, Option, Some, None}
use Rattle.a64_word.specs.Words.{words_of}
use Rattle.lfi_module.specs.Extents.{ExtentView}
use Rattle.lfi_rules.specs.declared.fault.Fault.{Fault}
use Rattle.lfi_model.specs.Item.{ItemView, KindView}
use Rattle.lfi_rules.specs.Verdicts.{all_words}
use Rattle.lfi_model.specs.Outcomes.{pages_of, end_of, by_end}
use Rattle.lfi_model.specs.declared.item.ItemKind.TheVariants.{Page}
use Rattle.lfi_model.specs.declared.item.Reason.{Reason}
use Rattle.lfi_model.specs.declared.outcome.Outcome.{Outcome}
use Rattle.lfi_model.specs.declared.outcome.Outcome.TheVariants.{Refused}

-- the bytes of a page
abbrev pub bytes_at : KindView → List ℕ
bytes_at (Page bytes) = bytes
bytes_at kind = []

-- the code of the whole pages that came of a module
abbrev pub code_of : List ItemView → List ℕ
code_of items = flat_map (λ item. bytes_at item.kind) items

-- refused with its first fault; or what its end tells, where there is none
abbrev pub outcome_by : ExtentView → List ItemView → Option Fault → Reason → Outcome
outcome_by extent items (Some fault) reason = Refused fault
outcome_by extent items None reason = by_end extent items reason

-- The items of an open module of which `pages` pages came: these pages, whole, each one's words after those of the one before; and no End.
pub record HasWholePages (extent : ExtentView) (pages : ℕ) (items : List ItemView) : Type 0 where
  pub count : length (pages_of items) ≡ pages
  pub size : length (code_of items) ≡ 4 * min (extent.pages * pages) extent.words
  pub words : words_of (code_of items) ≡ all_words (pages_of items)
  pub going : end_of items ≡ None
