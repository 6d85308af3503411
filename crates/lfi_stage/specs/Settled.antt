-- What has come to the modules' sequences.
use Rattle.std.specs.Prelude.{◌≡◌, ℕ, ◌<◌, List, Option, Some, None, get_or, slice_get}
use Rattle.lfi_module.specs.Numbers.{module_count}
use Rattle.lfi_model.specs.Item.{ItemView}
use Rattle.lfi_sequence.specs.Come.{Come}
use Rattle.lfi_sequence.specs.Delivers.{Carries}
use Rattle.lfi_sequence.specs.declared.sequence.Sequence.{Sequence}
use Rattle.lfi_sequence.specs.declared.report.ModuleReport.{ModuleReport}
use Rattle.lfi_sequence.specs.Sequenced.{Sequenced, module_number_of}
use Rattle.lfi_sequence.specs.Tells.{Tells, HasEnd}

-- The sequence at place m is that of module m, and it has placed all of these items that have come.
pub record HasHandled (sequences : List (Option Sequence)) (m : ℕ) (taken : List ItemView) : Type 0 where
  pub sequence : Sequence
  pub at : get_or sequences m None ≡ Some sequence
  pub numbered : module_number_of sequence ≡ m
  pub sequenced : Sequenced sequence taken

-- each module's sequence has the items of its list
abbrev pub HaveHandled : List (Option Sequence) → (ℕ → List ItemView) → Type 0
HaveHandled sequences taken = (m : ℕ) → m < module_count → HasHandled sequences m (taken m)

-- Verifier v took `takes v` and holds `held v`: all else that they took has come to the modules' sequences, through lanes that are empty.
pub record SettlesBut (takes : ℕ → List ItemView) (held : ℕ → Option ItemView) (sequences : List (Option Sequence)) : Type 0 where
  pub lane_puts : ℕ → ℕ → List ItemView
  pub lane_takes : ℕ → ℕ → List ItemView
  pub carries : Carries takes lane_puts lane_takes held
  pub handled : HaveHandled sequences (λ m. lane_takes m 0)

-- and no verifier holds an item
abbrev pub Settles : (takes : ℕ → List ItemView) (sequences : List (Option Sequence)) → Type 0
Settles takes sequences = SettlesBut takes (λ v. None) sequences

-- each report tells what has come to the sequence of its module
abbrev pub AreReportsOf : List (Option Sequence) → List ModuleReport → Type 0
AreReportsOf sequences reports = (m : ℕ) → m < module_count → (told : ModuleReport) × (slice_get reports m ≡ Some told) × ((taken items : List ItemView) → HasHandled sequences m taken → Come taken items → HasEnd items → Tells m told items)
