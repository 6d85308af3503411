-- What the reference implementation reports of several streams.
use Rattle.std.specs.Prelude.{◌≡◌, ℕ, ◌+◌, ◌≤◌, List, [], ◌∷◌, length, Option, Some, None, position, slice_get}
use Rattle.lfi_module.specs.Numbers.{module_count, most_words, small_page}
use Rattle.lfi_module.specs.Extents.{ExtentView}
use Rattle.lfi_module.specs.declared.profile.Profile.TheVariants.{One}
use Rattle.lfi_model.specs.Item.{ItemView}
use Rattle.lfi_rules.specs.Verdicts.{all_words}
use Rattle.lfi_model.specs.declared.outcome.Outcome.TheVariants as outcome
use Rattle.lfi_model.specs.Items.{ItemsOf}
use Rattle.lfi_model.specs.Outcomes.{pages_of, Load, Placed}
use Rattle.lfi_reference.specs.declared.connection.Connection.{Connection}
use Rattle.lfi_reference.specs.declared.load.Loaded.{Loaded}
use Rattle.lfi_reference.specs.declared.report.PlainStream.{PlainStream}
use Rattle.lfi_reference.specs.Shares.{items_at}
use Rattle.lfi_reference.specs.Connections.{claims}
use Rattle.lfi_reference.specs.Pages.{pages_by}

-- the extent of the module with these items; where there are none, that of no words
abbrev pub extent_of : List ItemView → ExtentView
extent_of [] = record { words = 0; entry = 0; profile = One; pages = small_page }
extent_of (item ∷ items) = item.extent

-- no more words than the module has, and no more than a module may have
pub record IsSized (items : List ItemView) : Type 0 where
  pub most : (extent_of items).words ≤ most_words
  pub room : length (all_words (pages_of items)) ≤ (extent_of items).words
  pub pages : length (pages_of items) ≤ most_words

-- a connection is what a stream makes
pub record IsMade (stream : PlainStream) (made : Connection) : Type 0 where
  pub all : length made.items.items ≡ module_count
  pub items : ItemsOf stream.bytes.items stream.cause (claims stream.claimed) (items_at made.items.items) made.fault made.strays

-- each connection is what its stream makes
abbrev pub AreMade : List PlainStream → List Connection → Type 0
AreMade [] [] = Unit {0}
AreMade (stream ∷ streams) (connection ∷ made) = IsMade stream connection × AreMade streams made
AreMade streams made = ⊥

-- the first stream for which module m is claimed
abbrev pub owner_of : List PlainStream → ℕ → Option ℕ
owner_of streams m = position (λ stream. claims stream.claimed m) streams

-- what became of a module with these items, and its longest beginning of pages without a fault
pub record IsLoaded (items : List ItemView) (loaded : Loaded) : Type 0 where
  pub outcome : Load (extent_of items) items loaded.outcome
  pub placed : Placed (extent_of items) (pages_of items) (pages_by loaded.placed.items)

-- what is told of module m by the connection that claimed it, or by none
abbrev pub IsReportedBy : Option ℕ → List Connection → ℕ → Loaded → Type 0
IsReportedBy None made m loaded = (loaded.outcome ≡ outcome.Unused) × (loaded.placed.items ≡ [])
IsReportedBy (Some place) made m loaded = (owner : Connection) × (slice_get made place ≡ Some owner) × IsLoaded (items_at owner.items.items m) loaded

-- what became of module m: that of its owner's items, where it has an owner
abbrev pub IsReported : List PlainStream → List Connection → ℕ → Loaded → Type 0
IsReported streams made m loaded = IsReportedBy (owner_of streams m) made m loaded

-- what became of the modules from m on, in order
abbrev pub AreReported : List PlainStream → List Connection → ℕ → List Loaded → Type 0
AreReported streams made m [] = Unit {0}
AreReported streams made m (loaded ∷ rest) = IsReported streams made m loaded × AreReported streams made (m + 1) rest
