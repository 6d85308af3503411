-- What the reference implementation's pages stand for.
use Rattle.std.specs.Prelude.{ℕ, List, [], ◌∷◌, map, ◌==◌, if◌then◌else◌, Option, Some, None, IsSome}
use Rattle.std.specs.Global.{Vec}
use Rattle.lfi_model.specs.Item.{ItemView}
use Rattle.lfi_model.specs.declared.item.Reason.{Reason}
use Rattle.lfi_model.specs.declared.item.Reason.TheVariants.{Close, Lost, PageFault, NoMemory}
use Rattle.lfi_rules.specs.declared.fault.Fault.{Fault}
use Rattle.lfi_model.specs.declared.outcome.Outcome.{Outcome}
use Rattle.lfi_model.specs.declared.outcome.Outcome.TheVariants as outcome
use Rattle.lfi_module.specs.Pages.{page_count}
use Rattle.lfi_model.specs.Outcomes.{end_of}

-- pages as their words
abbrev pub pages_by : List (Vec ℕ) → List (List ℕ)
pages_by pages = map (λ page. page.items) pages

-- there is nothing, or it has an End
abbrev pub IsEnded : List ItemView → Type 0
IsEnded [] = Unit {0}
IsEnded (item ∷ items) = IsSome (end_of (item ∷ items))

-- the outcome of a module of n words, in pages of `size`, by its End, where `words` words and `pages` pages came and have no fault
abbrev pub outcome_by : (size n words pages : ℕ) → Reason → Outcome
outcome_by size n words pages Close = if words == n then outcome.Complete n else outcome.Incomplete pages (page_count size n)
outcome_by size n words pages (Lost fault) = outcome.Lost fault
outcome_by size n words pages (PageFault index) = outcome.PageFault index
outcome_by size n words pages NoMemory = outcome.NoMemory

-- the same, by their first fault and why it ended, where it has
abbrev pub told_by : (size n : ℕ) → Option Fault → Option Reason → (words pages : ℕ) → Outcome
told_by size n (Some fault) end words pages = outcome.Refused fault
told_by size n None (Some reason) words pages = outcome_by size n words pages reason
told_by size n None None words pages = outcome.Unused
