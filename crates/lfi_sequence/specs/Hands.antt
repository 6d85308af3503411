-- What a verifier hands on.
use Rattle.std.specs.Prelude.{◌≡◌, ℕ, ◌<◌, ◌==◌, if◌then◌else◌, List, [], ◌∷◌, ◌++◌, Option, option_to_list}
use Rattle.lfi_module.specs.Numbers.{module_count}
use Rattle.lfi_model.specs.Item.{ItemView}
use Rattle.lfi_model.specs.Modules.{of}

-- For each module, what it took of it, in order, is what it put in the module's lane and then the item that it holds, where that is of the module.
abbrev pub Hands : (took : List ItemView) (lanes : ℕ → List ItemView) (held : Option ItemView) → Type 0
Hands took lanes held = (m : ℕ) → m < module_count → of m took ≡ (lanes m) ++ of m (option_to_list held)

-- with one more item in the lane of its module
abbrev pub with_item : (lanes : ℕ → List ItemView) → ItemView → ℕ → List ItemView
with_item lanes j m = if j.«module» == m then lanes m ++ j ∷ [] else lanes m
