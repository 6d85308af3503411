-- What is placed of a module, by its items.
use Rattle.std.specs.Prelude.{◌≡◌, ℕ, ◌*◌, min, List, [], ◌∷◌, length, Option, Some, None}
use Rattle.std.specs.Option.{option_map}
use Rattle.lfi_module.specs.Numbers.{small_page}
use Rattle.lfi_model.specs.Item.{ItemView}
use Rattle.lfi_module.specs.declared.profile.Profile.TheVariants.{One}
use Rattle.lfi_module.specs.Extents.{ExtentView}
use Rattle.lfi_rules.specs.declared.fault.Fault.{Fault}
use Rattle.lfi_rules.specs.Faults.{FirstFault}
use Rattle.lfi_rules.specs.Verdicts.{all_words}
use Rattle.lfi_image.specs.Image.{Module}
use Rattle.lfi_model.specs.Outcomes.{pages_of, end_of, Placed}
use Rattle.lfi_sequence.specs.declared.placing.Placing.{Placing}
use Rattle.lfi_sequence.specs.declared.placing.Ended.{Ended}
use Rattle.lfi_sequence.specs.Refused.{IsRefusedFor, judged_words}

-- the extent of a module, by its Open; where there is none, that of no words, in small pages
abbrev pub extent_at : List ItemView → ExtentView
extent_at [] = record { words = 0; entry = 0; profile = One; pages = small_page }
extent_at (first ∷ items) = first.extent

-- a builder of module m with this extent, in which these words are placed
abbrev pub builder_with : ℕ → ExtentView → List ℕ → Module
builder_with m extent placed = record { extent = extent; slot = m; placed = placed }

-- The builder of module m has its slot, the Open's extent, and these pages.
abbrev pub builder_of : ℕ → List ItemView → List (List ℕ) → Module
builder_of m taken us = builder_with m (extent_at taken) (all_words us)

-- the first fault of what is placed
abbrev pub fault_of : Placing → Option Fault
fault_of p = option_map (λ refusal. refusal.fault) p.refusal

-- It has placed the longest lawful beginning of the pages, and knows their first fault with the words near it.
pub record HasPlaced (m : ℕ) (p : Placing) (b : Module) (taken : List ItemView) : Type 0 where
  pub us : List (List ℕ)
  pub placed : Placed (extent_at taken) (pages_of taken) us
  pub builder : b ≡ builder_of m taken us
  pub fault : FirstFault (extent_at taken).profile (all_words (pages_of taken)) (extent_at taken).words (fault_of p)
  pub refused : IsRefusedFor (judged_words us (pages_of taken)) p.refusal
  pub whole : p.refusal ≡ None → length b.placed ≡ min (extent_at taken).words ((extent_at taken).pages * length (pages_of taken))

-- Of module m these items were taken.
pub record IsPlacing (m : ℕ) (p : Placing) (taken : List ItemView) : Type 0 where
  pub first : ItemView
  pub rest : List ItemView
  pub opened : taken ≡ first ∷ rest
  pub extent : p.builder.extent ≡ first.extent
  pub built : HasPlaced m p p.builder taken
  pub reason : option_map (λ e. e.reason) p.ended ≡ end_of taken
  pub pages : (e : _) → p.ended ≡ Some e → e.pages ≡ length (pages_of taken)

-- what is placed of module m is made of these items
abbrev pub HandledBy : ℕ → Option Placing → List ItemView → Type 0
HandledBy m None taken = taken ≡ []
HandledBy m (Some p) taken = IsPlacing m p taken

-- Module m has ended like this, its words have no fault, and all of them are placed.
pub record HasEnded (m : ℕ) (b : Module) (e : Ended) (items : List ItemView) : Type 0 where
  pub first : ItemView
  pub rest : List ItemView
  pub opened : items ≡ first ∷ rest
  pub reason : end_of items ≡ Some e.reason
  pub pages : e.pages ≡ length (pages_of items)
  pub builder : b ≡ builder_of m items (pages_of items)
  pub lawful : FirstFault (extent_at items).profile (all_words (pages_of items)) (extent_at items).words None
