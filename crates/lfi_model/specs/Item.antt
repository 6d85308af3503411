-- What contracts see of an item, and what its type keeps.
use Rattle.std.specs.Prelude.{◌≡◌, ℕ, ◌+◌, ◌-◌, ◌<◌, ◌≤◌, List, length}
use Rattle.lfi_module.specs.Numbers.{module_count, most_words, small_page}
use Rattle.lfi_module.specs.Extents.{ExtentView}
use Rattle.lfi_module.specs.Pages.{HasPages, page_count, words_in_page, bytes_in_page}
use Rattle.lfi_model.specs.declared.item.ItemKind.{ItemKind}
use Rattle.lfi_model.specs.declared.item.ItemKind.TheVariants.{Open, Page, End}

-- what an item brings, its page as bytes
abbrev pub KindView : Type 0
KindView = ItemKind (List ℕ)

-- one of the numbered items of a module: which one, its extent, and what it brings
pub record ItemView : Type 0 where
  pub «module» : ℕ
  pub ordinal : ℕ
  pub extent : ExtentView
  pub kind : KindView

-- The Open has ordinal 0, and it alone; a page has the words due, at least one.
abbrev pub KindFits : (size words ordinal : ℕ) → KindView → Type 0
KindFits size words ordinal Open = ordinal ≡ 0
KindFits size words ordinal (Page bytes) = (0 < ordinal) × (length bytes ≡ bytes_in_page size words (ordinal - 1)) × (0 < words_in_page size words (ordinal - 1))
KindFits size words ordinal (End reason) = 0 < ordinal

-- what every item keeps; there are no more ordinals than for a module of small pages
pub record IsItem (item : ItemView) : Type 0 where
  pub module_in_range : item.«module» < module_count
  pub some_words : 0 < item.extent.words
  pub words_in_range : item.extent.words ≤ most_words
  pub entry_in_range : item.extent.entry < item.extent.words
  pub pages_in_range : HasPages item.extent.profile item.extent.pages
  pub ordinal_in_range : item.ordinal ≤ page_count small_page most_words + 1
  pub kind_fits : KindFits item.extent.pages item.extent.words item.ordinal item.kind

-- What an item brings, by the bytes of its page; and a fact of that page, where it brings one.
module _ {P : Type 0} where
  abbrev pub kind_seen : (P → List ℕ) → ItemKind P → KindView
  kind_seen bytes Open = Open
  kind_seen bytes (Page page) = Page (bytes page)
  kind_seen bytes (End reason) = End reason

  -- it holds of the page, where the item is one
  abbrev pub IfPage : (P → Type 0) → ItemKind P → Type 0
  IfPage is (Page page) = is page
  IfPage is kind = Unit {0}

-- what the type of an item keeps, with what its page is
pub record KeepsItem {P : Type 0} (bytes : P → List ℕ) (IsAtPlace : (ordinal : ℕ) → ExtentView → P → Type 0) (m ordinal : ℕ) (extent : ExtentView) (kind : ItemKind P) : Type 0 where
  pub item : IsItem (record { «module» = m; ordinal = ordinal; extent = extent; kind = kind_seen bytes kind })
  pub page : IfPage (IsAtPlace ordinal extent) kind
