-- The outcome of a module, by its first fault and its End.
use Rattle.std.proofs.Common.{◌≡◌, ℕ, ◌<◌, List, [], ◌∷◌, length, refl, ◌∙◌, arith, Option, Some, None}
use Rattle.std.specs.Prelude.{IsSome}
use Rattle.lfi_model.specs.Item.{ItemView}
use Rattle.lfi_model.specs.declared.item.Reason.{Reason}
use Rattle.lfi_model.specs.declared.item.Reason.TheVariants.{Close, Lost, PageFault, NoMemory}
use Rattle.lfi_module.specs.Extents.{ExtentView}
use Rattle.lfi_rules.specs.declared.fault.Fault.{Fault}
use Rattle.lfi_rules.specs.Faults.{FirstFault}
use Rattle.lfi_rules.specs.Verdicts.{all_words}
use Rattle.lfi_model.specs.declared.outcome.Outcome.{Outcome}
use Rattle.lfi_model.specs.Outcomes.{Load, IsOutcome, by_end, end_of, pages_of}
use Rattle.lfi_rules.proofs.Following.{breaks_within}
use Rattle.lfi_reference.specs.Pages.{IsEnded, told_by, outcome_by}

abbrev words_in : List ItemView → ℕ
words_in items = length (all_words (pages_of items))

abbrev pages_in : List ItemView → ℕ
pages_in items = length (pages_of items)

same_end : (n : ExtentView) (items : List ItemView) (reason : Reason) → outcome_by n.pages n.words (words_in items) (pages_in items) reason ≡ by_end n items reason
same_end n items Close = refl
same_end n items (Lost fault) = refl
same_end n items (PageFault index) = refl
same_end n items NoMemory = refl

ended : (n : ExtentView) (items : List ItemView) (result : Outcome) (o : Option Reason) → end_of items ≡ o → IsSome o → result ≡ told_by n.pages n.words None o (words_in items) (pages_in items) → IsOutcome n items None result
ended n items result (Some reason) is some so = (reason, is, so ∙ same_end n items reason)
ended n items result None is some so = absurd (cc)

pub load_is : (n : ExtentView) (items : List ItemView) (fault : Option Fault) (result : Outcome) → FirstFault n.profile (all_words (pages_of items)) n.words fault → IsEnded items →
    result ≡ told_by n.pages n.words fault (end_of items) (words_in items) (pages_in items) → Load n items result
load_is n [] (Some fault) result first is so = let w : fault.word < 0 = breaks_within n.profile [] n.words fault.word fault.rule first.breaks in absurd (omega arith)
load_is n [] None result first is so = so
load_is n (item ∷ items) (Some fault) result first is so = (Some fault, first, so)
load_is n (item ∷ items) None result first is so = (None, first, ended n (item ∷ items) result (end_of (item ∷ items)) refl is so)
