-- What becomes of a module, by one plain pass over its items. Source: this project's format, docs/PROFILE.md.
use Rattle.std.specs.Prelude.{◌≡◌, ℕ, ◌≤◌, ◌==◌, if◌then◌else◌, List, [], ◌∷◌, ◌++◌, length, Bool, true, false, Option, Some, None, flat_map}
use Rattle.lfi_model.specs.Item.{ItemView, KindView}
use Rattle.lfi_model.specs.declared.item.ItemKind.TheVariants.{Page, End}
use Rattle.lfi_model.specs.declared.item.Reason.{Reason}
use Rattle.lfi_model.specs.declared.item.Reason.TheVariants.{Close, Lost, PageFault, NoMemory}
use Rattle.lfi_module.specs.Extents.{ExtentView}
use Rattle.lfi_rules.specs.declared.fault.Fault.{Fault}
use Rattle.lfi_rules.specs.Faults.{FirstFault}
use Rattle.lfi_rules.specs.Verdicts.{all_words}
use Rattle.a64_word.specs.Words.{words_of}
use Rattle.lfi_model.specs.declared.outcome.Outcome.{Outcome}
use Rattle.lfi_model.specs.declared.outcome.Outcome.TheVariants as outcome
use Rattle.lfi_module.specs.Pages.{page_count}

-- the pages of a module's items, each as its words
abbrev pub page_of : KindView → List (List ℕ)
page_of (Page bytes) = words_of bytes ∷ []
page_of kind = []

-- the words of each page
abbrev pub pages_of : List ItemView → List (List ℕ)
pages_of items = flat_map (λ item. page_of item.kind) items

-- why it ended, where it has
abbrev pub reason_at : KindView → Option Reason → Option Reason
reason_at (End reason) later = Some reason
reason_at kind later = later

-- why the module ended, by its first End
abbrev pub end_of : List ItemView → Option Reason
end_of [] = None
end_of (item ∷ items) = reason_at item.kind (end_of items)

-- the outcome of a module of this extent, by its End, where there is no fault in its words
abbrev pub by_end : ExtentView → List ItemView → Reason → Outcome
by_end extent items Close =
    if length (all_words (pages_of items)) == extent.words then outcome.Complete extent.words else outcome.Incomplete (length (pages_of items)) (page_count extent.pages extent.words)
by_end extent items (Lost fault) = outcome.Lost fault
by_end extent items (PageFault index) = outcome.PageFault index
by_end extent items NoMemory = outcome.NoMemory

-- by the first fault of the pages, else by the module's end
abbrev pub IsOutcome : ExtentView → List ItemView → Option Fault → Outcome → Type 0
IsOutcome extent items (Some fault) result = result ≡ outcome.Refused fault
IsOutcome extent items None result = (reason : Reason) × (end_of items ≡ Some reason) × (result ≡ by_end extent items reason)

-- The outcome of a module of this extent with these items.
abbrev pub Load : ExtentView → List ItemView → Outcome → Type 0
Load extent [] result = result ≡ outcome.Unused
Load extent (item ∷ items) result =
    (fault : Option Fault) × FirstFault extent.profile (all_words (pages_of (item ∷ items))) extent.words fault × IsOutcome extent (item ∷ items) fault result

-- the one list is the beginning of the other
abbrev pub Begins : {A : Type 0} → List A → List A → Type 0
Begins {A} us xs = (rest : List A) × (xs ≡ us ++ rest)

-- us is the longest beginning of these pages, of a module of this extent, that has no fault.
pub record Placed (extent : ExtentView) (pages us : List (List ℕ)) : Type 0 where
  pub beginning : Begins us pages
  pub lawful : FirstFault extent.profile (all_words us) extent.words None
  pub longest : (vs : List (List ℕ)) → Begins vs pages → FirstFault extent.profile (all_words vs) extent.words None → length vs ≤ length us

-- the module is complete, or was not claimed
abbrev pub is_well : Outcome → Bool
is_well outcome.Unused = true
is_well (outcome.Complete n) = true
is_well result = false
