-- The modules that a fault loses. Source: docs/PROFILE.md, "Streams".
use Rattle.std.specs.Prelude.{◌≡◌, ℕ, ◌<◌, ◌==◌, if◌then◌else◌, false}
use Rattle.lfi_module.specs.Extents.{ExtentView}
use Rattle.lfi_module.specs.Numbers.{module_count}
use Rattle.lfi_frame.specs.declared.fault.FrameFault.{FrameFault}
use Rattle.lfi_model.specs.declared.connection.Progress.{Progress}
use Rattle.lfi_model.specs.declared.connection.Progress.TheVariants.{Going, Ended}
use Rattle.lfi_model.specs.Items.{is_going, reason_of}
use Rattle.lfi_connection.specs.declared.event.Event.{Event}
use Rattle.lfi_connection.specs.declared.event.Event.TheVariants.{Nothing, End}
use Rattle.lfi_connection.specs.Modules.{IsPossible}

-- Module k was open, with this extent and after `pages` pages, and none of a lesser number was; it has ended, and no other is otherwise than it was.
pub record IsLost (old new : ℕ → Progress) (k : ℕ) (extent : ExtentView) (pages : ℕ) : Type 0 where
  pub was : old k ≡ Going extent pages
  pub possible : IsPossible (Going extent pages)
  pub least : (m : ℕ) → m < k → is_going (old m) ≡ false
  pub at : (m : ℕ) → new m ≡ (if m == k then Ended else old m)

-- At a fault the open module of the least number is lost by it, which the event tells; or none is open.
abbrev pub Loses : FrameFault → (old new : ℕ → Progress) → Event → Type 0
Loses fault old new (End k extent pages reason) = IsLost old new k extent pages × (reason ≡ reason_of fault)
Loses fault old new Nothing = (m : ℕ) → m < module_count → is_going (old m) ≡ false
Loses fault old new event = ⊥
