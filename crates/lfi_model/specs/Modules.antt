-- How the items of one module follow each other.
use Rattle.std.specs.Prelude.{◌≡◌, ℕ, ◌==◌, List, [], ◌∷◌, ◌++◌, length, filter, None, ◌⊎◌}
use Rattle.lfi_model.specs.Item.{ItemView, KindView}
use Rattle.lfi_model.specs.declared.item.ItemKind.TheVariants.{Open}
use Rattle.lfi_model.specs.Outcomes.{end_of}

-- x stands in the list
abbrev pub Member : {A : Type 0} → List A → A → Type 0
Member [] x = ⊥
Member (y ∷ ys) x = (y ≡ x) ⊎ Member ys x

-- x has the extent of the Open, which is the first of the items before it, and none of these is an End
abbrev pub FitsAfter : List ItemView → ItemView → Type 0
FitsAfter [] x = Unit {0}
FitsAfter (first ∷ before) x = (x.extent ≡ first.extent) × (end_of (first ∷ before) ≡ None)

-- the first item is the Open, and no other is one
abbrev pub OpensFirst : List ItemView → KindView → Type 0
OpensFirst [] Open = Unit {0}
OpensFirst [] kind = ⊥
OpensFirst (first ∷ before) Open = ⊥
OpensFirst (first ∷ before) kind = Unit {0}

-- x is numbered by its place, and fits after those before it
pub record IsNext (before : List ItemView) (x : ItemView) : Type 0 where
  pub ordinal : x.ordinal ≡ length before
  pub opens : OpensFirst before x.kind
  pub fits : FitsAfter before x

-- The items of one module as its connection makes them: numbered in order, of one extent, and nothing after an End.
abbrev pub IsModule : List ItemView → Type 0
IsModule items = (before after : List ItemView) (x : ItemView) → items ≡ before ++ x ∷ after → IsNext before x

-- the items of module m among others, in their order
abbrev pub of : ℕ → List ItemView → List ItemView
of m items = filter (λ item. item.«module» == m) items
