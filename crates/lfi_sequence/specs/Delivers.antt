-- Receivers put to the intake, verifiers take from it and put to the lanes, and a module's sequencer takes from its lane.
use Rattle.std.specs.Prelude.{◌≡◌, ◌≢◌, ℕ, ◌<◌, ◌≤◌, ◌==◌, if◌then◌else◌, Bool, true, List, [], Option, None}
use Rattle.lfi_frame.specs.declared.fault.FrameFault.{FrameFault}
use Rattle.lfi_model.specs.Item.{ItemView}
use Rattle.lfi_module.specs.Numbers.{module_count}
use Rattle.lfi_queues.specs.Kept.{Kept, with_last}
use Rattle.lfi_model.specs.declared.connection.EndCause.{EndCause}
use Rattle.lfi_model.specs.Items.{ItemsOf}
use Rattle.lfi_model.specs.Modules.{of}
use Rattle.lfi_sequence.specs.Hands.{Hands}

-- All lanes are empty. `takes v` is what verifier v took and `held v` the item that it holds; `lane_puts m v` is what verifier v put in lane m, and `lane_takes m 0` what the lane's one taker took.
pub record Carries (takes : ℕ → List ItemView) (lane_puts lane_takes : ℕ → ℕ → List ItemView) (held : ℕ → Option ItemView) : Type 0 where
  pub verifiers : (v : ℕ) → Hands (takes v) (λ m. lane_puts m v) (held v)
  pub lanes : (m : ℕ) → m < module_count → Kept (lane_puts m) (lane_takes m) []
  pub one_taker : (m t : ℕ) → t ≢ 0 → lane_takes m t ≡ []

-- The intake is empty too, and so are all hands. `puts c` is what receiver c put.
pub record Delivers (puts takes : ℕ → List ItemView) (lane_puts lane_takes : ℕ → ℕ → List ItemView) : Type 0 where
  pub intake : Kept puts takes []
  pub carried : Carries takes lane_puts lane_takes (λ v. None)

-- the lists of lane m, with one more item at the end of list k
abbrev pub with_last_in : {X : Type 0} → (ℕ → ℕ → List X) → (m k : ℕ) → X → ℕ → ℕ → List X
with_last_in lists m k x n j = if m == n then with_last (lists n) k x j else lists n j

-- verifier v holds this
abbrev pub with_held : (ℕ → Option ItemView) → ℕ → Option ItemView → ℕ → Option ItemView
with_held held v o w = if v == w then o else held w

-- No module is claimed by two of the connections.
abbrev pub AreApart : (count : ℕ) (claimed : ℕ → ℕ → Bool) → Type 0
AreApart count claimed = (c d m : ℕ) → c < count → d < count → m < module_count → claimed c m ≡ true → claimed d m ≡ true → c ≡ d

-- What each of the receivers put is what its text makes, with its cause and the modules that it claimed.
pub record Makes (count : ℕ) (puts : ℕ → List ItemView) (texts : ℕ → List ℕ) (causes : ℕ → EndCause) (claimed : ℕ → ℕ → Bool) (items : ℕ → ℕ → List ItemView) (faults : ℕ → Option FrameFault) (strays : ℕ → ℕ) : Type 0 where
  pub made : (c : ℕ) → c < count → ItemsOf (texts c) (causes c) (claimed c) (items c) (faults c) (strays c)
  pub put : (c : ℕ) → c < count → (m : ℕ) → m < module_count → of m (puts c) ≡ items c m
  pub none : (c : ℕ) → count ≤ c → puts c ≡ []
