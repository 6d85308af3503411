-- What is told of the modules, once all is settled.
use Rattle.std.proofs.Common.{◌≡◌, ℕ, zero, suc, ◌+◌, ◌<◌, ◌≤◌, Bool, true, false, List, [], ◌∷◌, Option, Some, refl, sym, subst, inl, inr, arith}
use Rattle.std.specs.Prelude.{slice_get}
use Rattle.std.proofs.lemmas.Bool.Decides.{eqb_tells}
use Rattle.std.proofs.lemmas.Option.{none-some}
use Rattle.lfi_module.specs.Numbers.{module_count}
use Rattle.lfi_frame.specs.declared.fault.FrameFault.{FrameFault}
use Rattle.lfi_model.specs.Item.{ItemView}
use Rattle.lfi_model.specs.Items.{ItemsOf, modules}
use Rattle.lfi_model.specs.Modules.{Member}
use Rattle.lfi_model.specs.declared.connection.EndCause.{EndCause}
use Rattle.lfi_model.proofs.Numbered.{items_end, nothing_before}
use Rattle.lfi_queues.specs.Kept.{Kept}
use Rattle.lfi_sequence.specs.Come.{Come}
use Rattle.lfi_sequence.specs.Delivers.{Delivers, AreApart, Makes}
use Rattle.lfi_sequence.proofs.Made.{made_come, nothing_made}
use Rattle.lfi_sequence.specs.declared.sequence.Sequence.{Sequence}
use Rattle.lfi_sequence.specs.declared.report.ModuleReport.{ModuleReport}
use Rattle.lfi_sequence.specs.Tells.{Tells, HasEnd}
use Rattle.lfi_stage.specs.Settled.{HasHandled, Settles, AreReportsOf}

from : ℕ → ℕ → List ℕ
from k zero = []
from k (suc n) = k ∷ from (suc k) n

in_from : (k n m : ℕ) → k ≤ m → m < k + n → Member (from k n) m
unfolding from
in_from k zero m past below = absurd (omega arith)
in_from k (suc n) m past below = elim (eqb_tells k m) [
  | inl e ↦ inl e.1
  | inr other ↦ inr (in_from (suc k) n m (let apart = other.1 in omega arith) (omega arith))
]

in_modules : (m : ℕ) → m < module_count → Member modules m
unfolding from
in_modules m in_range = in_from 0 16 m (omega arith) (omega arith)

none_come : Come [] []
none_come = record { each = λ before after x e. absurd (nothing_before before after x e); stops = λ x comes. none-some x comes.first }

module _ (count : ℕ) (puts takes : ℕ → List ItemView) (sequences : List (Option Sequence)) (texts : ℕ → List ℕ) (causes : ℕ → EndCause) (claimed : ℕ → ℕ → Bool) (items : ℕ → ℕ → List ItemView) (faults : ℕ → Option FrameFault) (strays : ℕ → ℕ) (kept : Kept puts takes []) (settles : Settles takes sequences)
    (makes : Makes count puts texts causes claimed items faults strays) (m : ℕ) (in_range : m < module_count) where
  all : Delivers puts takes settles.lane_puts settles.lane_takes
  all = record { intake = kept; carried = settles.carries }

  pub claimed_come : (c : ℕ) → AreApart count claimed → c < count → claimed c m ≡ true → (taken : List ItemView) × HasHandled sequences m taken × Come taken (items c m)
  claimed_come c apart within mine = (settles.lane_takes m 0, settles.handled m in_range, made_come count puts takes settles.lane_puts settles.lane_takes texts causes claimed items faults strays all makes m in_range c apart within mine)

  pub nothing_come : ((c : ℕ) → c < count → claimed c m ≡ false) → HasHandled sequences m []
  nothing_come none = subst (λ (l : List ItemView). HasHandled sequences m l) (nothing_made count puts takes settles.lane_puts settles.lane_takes texts causes claimed items faults strays all makes m in_range none) (settles.handled m in_range)

  has_end : (c : ℕ) → c < count → HasEnd (items c m)
  has_end c within =
      let i : ItemsOf (texts c) (causes c) (claimed c) (items c) (faults c) (strays c) = makes.made c within in
      subst (λ (l : List ItemView). HasEnd l) (sym (i.items_are m in_range)) (items_end i.messages i.rest (causes c) (claimed c) m (in_modules m in_range))

  module _ (reports : List ModuleReport) (are : AreReportsOf sequences reports) where
    pub claimed_told : (c : ℕ) → AreApart count claimed → c < count → claimed c m ≡ true → (told : ModuleReport) × (slice_get reports m ≡ Some told) × Tells m told (items c m)
    claimed_told c apart within mine =
        let come = claimed_come c apart within mine in
        let report = are m in_range in
        (report.0, report.1, report.2 come.0 (items c m) come.1 come.2 (has_end c within))

    pub nothing_told : ((c : ℕ) → c < count → claimed c m ≡ false) → (told : ModuleReport) × (slice_get reports m ≡ Some told) × Tells m told []
    nothing_told none =
        let report = are m in_range in
        (report.0, report.1, report.2 [] [] (nothing_come none) none_come (inl refl))
