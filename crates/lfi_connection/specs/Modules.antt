-- How far a connection is with one module.
use Rattle.std.specs.Prelude.{◌≤◌}
use Rattle.lfi_model.specs.declared.connection.Progress.{Progress}
use Rattle.lfi_model.specs.declared.connection.Progress.TheVariants.{Unclaimed, Going, Ended}
use Rattle.lfi_module.specs.Pages.{page_count}

-- no more pages of a module have come than it has
abbrev pub IsPossible : Progress → Type 0
IsPossible (Going extent pages) = pages ≤ page_count extent.pages extent.words
IsPossible progress = Unit {0}

-- no page of this module is due: it isn't open, or has ended at this very page's header
abbrev pub IsOver : Progress → Type 0
IsOver Unclaimed = Unit {0}
IsOver (Going extent pages) = ⊥
IsOver Ended = Unit {0}
