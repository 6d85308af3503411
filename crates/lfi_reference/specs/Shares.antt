-- What the reference implementation's items and shares stand for. Source: this project's format, docs/PROFILE.md.
use Rattle.std.specs.Prelude.{ℕ, List, [], map, slice_index_or}
use Rattle.std.specs.Global.{Vec}
use Rattle.lfi_model.specs.Item.{ItemView, KindView}
use Rattle.lfi_model.specs.declared.item.ItemKind.TheVariants as kind
use Rattle.lfi_model.specs.Items.{Share}
use Rattle.lfi_reference.specs.declared.share.PlainKind.{PlainKind}
use Rattle.lfi_reference.specs.declared.share.PlainKind.TheVariants.{Open, Page, End}
use Rattle.lfi_model.specs.declared.connection.Progress.{Progress}
use Rattle.lfi_model.specs.declared.connection.Progress.TheVariants as progress
use Rattle.lfi_reference.specs.declared.share.PlainProgress.{PlainProgress}
use Rattle.lfi_reference.specs.declared.share.PlainProgress.TheVariants.{Unclaimed, Going, Ended}
use Rattle.lfi_reference.specs.Messages.{extent_by}
use Rattle.lfi_reference.specs.declared.share.PlainItem.{PlainItem}
use Rattle.lfi_reference.specs.declared.share.PlainShare.{PlainShare}

-- what an item of the reference implementation is
abbrev pub kind_by : PlainKind → KindView
kind_by Open = kind.Open
kind_by (Page bytes) = kind.Page bytes.items
kind_by (End reason) = kind.End reason

-- an item of the reference implementation
abbrev pub item_by : PlainItem → ItemView
item_by item = record { «module» = item.«module»; ordinal = item.ordinal; extent = extent_by item.extent; kind = kind_by item.kind }

-- its items
abbrev pub items_by : List PlainItem → List ItemView
items_by items = map item_by items

-- how far a module is
abbrev pub progress_by : PlainProgress → Progress
progress_by Unclaimed = progress.Unclaimed
progress_by (Going extent pages) = progress.Going (extent_by extent) pages
progress_by Ended = progress.Ended

-- a module's share of a text
abbrev pub share_by : PlainShare → Share
share_by share = record { items = items_by share.items.items; strays = share.strays; progress = progress_by share.progress }

-- the items of all modules
abbrev pub lists_by : List (Vec PlainItem) → List (List ItemView)
lists_by lists = map (λ items. items_by items.items) lists

-- the items of module m
abbrev pub items_at : List (Vec PlainItem) → ℕ → List ItemView
items_at lists m = slice_index_or (lists_by lists) m []
