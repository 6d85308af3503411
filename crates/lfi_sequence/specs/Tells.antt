-- What a report says of a module.
use Rattle.std.specs.Prelude.{◌≡◌, ◌≢◌, ℕ, List, [], Option, Some, None, ◌⊎◌}
use Rattle.lfi_module.specs.Extents.{ExtentView}
use Rattle.lfi_model.specs.Item.{ItemView}
use Rattle.lfi_rules.specs.declared.fault.Fault.{Fault}
use Rattle.lfi_rules.specs.Verdicts.{all_words}
use Rattle.lfi_image.specs.Image.{Image}
use Rattle.lfi_model.specs.declared.outcome.Outcome.{Outcome}
use Rattle.lfi_model.specs.declared.outcome.Outcome.TheVariants as outcome_kind
use Rattle.lfi_model.specs.Outcomes.{Load, pages_of, end_of, Placed}
use Rattle.lfi_model.specs.declared.item.Reason.{Reason}
use Rattle.lfi_sequence.specs.declared.report.ImageState.{ImageState}
use Rattle.lfi_sequence.specs.declared.report.ImageState.TheVariants as image_kind
use Rattle.lfi_sequence.specs.declared.report.ModuleReport.{ModuleReport}
use Rattle.lfi_sequence.specs.declared.refused.RefusedModule.{RefusedModule}
use Rattle.lfi_sequence.specs.declared.refused.NearbyWords.{NearbyWords}
use Rattle.lfi_sequence.specs.Refused.{AreNear, judged_words}
use Rattle.lfi_sequence.specs.Placed.{extent_at, builder_of}

-- the image of module m has its slot, the Open's entry and profile, and these pages
abbrev pub image_of : ℕ → List ItemView → List (List ℕ) → Image
image_of m items us = record { profile = (extent_at items).profile; entry = (extent_at items).entry; slot = m; words = all_words us }

-- The image holds these pages; it is whole exactly where the outcome is Complete, and absent where the module wasn't opened.
abbrev pub IsImageOf : ℕ → List ItemView → List (List ℕ) → Outcome → ImageState → Type 0
IsImageOf m items us outcome image_kind.Absent = items ≡ []
IsImageOf m items us outcome (image_kind.Part b) = (b ≡ builder_of m items us) × ((n : ℕ) → outcome ≢ outcome_kind.Complete n)
IsImageOf m items us outcome (image_kind.Whole i) = (i ≡ image_of m items us) × (outcome ≡ outcome_kind.Complete (extent_at items).words)

-- module m with this extent, refused for this fault, and the words near its place
abbrev pub refused_module : ℕ → ExtentView → Fault → NearbyWords → RefusedModule
refused_module m extent fault near = record { slot = m; extent = extent; refusal = record { fault = fault; near = near } }

-- where the outcome of module m, of which these words were judged, is Refused, that module with the fault and the words near it, and else none
abbrev pub IsRefusedAt : ℕ → ExtentView → List ℕ → Outcome → Option RefusedModule → Type 0
IsRefusedAt m extent ws (outcome_kind.Refused fault) refused = (near : NearbyWords) × (refused ≡ Some (refused_module m extent fault near)) × AreNear ws fault.word near
IsRefusedAt m extent ws outcome refused = refused ≡ None

-- What the report says of module m is one plain pass over these items, the image holds the longest lawful beginning of their pages, and of a refused module all
-- that explains it is told: its extent, the first fault, and the words near its place.
pub record Tells (m : ℕ) (told : ModuleReport) (items : List ItemView) : Type 0 where
  pub outcome : Load (extent_at items) items told.outcome
  pub us : List (List ℕ)
  pub placed : Placed (extent_at items) (pages_of items) us
  pub image : IsImageOf m items us told.outcome told.image
  pub refused : IsRefusedAt m (extent_at items) (judged_words us (pages_of items)) told.outcome told.refused

-- where a module has items, it has an End
abbrev pub HasEnd : List ItemView → Type 0
HasEnd items = (items ≡ []) ⊎ ((reason : Reason) × (end_of items ≡ Some reason))
