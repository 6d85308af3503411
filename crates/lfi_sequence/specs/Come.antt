-- What has come of one module's items, taken in any order.
use Rattle.std.specs.Prelude.{◌≡◌, ℕ, ◌==◌, List, ◌∷◌, ◌++◌, length, Option, Some, find}
use Rattle.lfi_model.specs.Item.{ItemView}
use Rattle.lfi_model.specs.Modules.{FitsAfter}

-- the first item of an ordinal
abbrev pub first_of : List ItemView → ℕ → Option ItemView
first_of taken ordinal = find (λ item. item.ordinal == ordinal) taken

-- After those before it x comes next: it is the first of its ordinal, it has the Open's extent, and no End stands before it.
pub record Comes (taken before : List ItemView) (x : ItemView) : Type 0 where
  pub first : first_of taken (length before) ≡ Some x
  pub fits : FitsAfter before x

-- each of xs comes next after those before it
abbrev pub Coming : (taken xs : List ItemView) → Type 0
Coming taken xs = (before after : List ItemView) (x : ItemView) → xs ≡ before ++ x ∷ after → Comes taken before x

-- Of the items taken, xs have come without a gap: each next after those before it, and none is next after all.
pub record Come (taken xs : List ItemView) : Type 0 where
  pub each : Coming taken xs
  pub stops : (x : ItemView) → Comes taken xs x → ⊥
