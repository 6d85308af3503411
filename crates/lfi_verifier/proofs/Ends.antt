-- What becomes of a module that has ended.
use Rattle.std.proofs.Common.{◌≡◌, ℕ, ◌+◌, ◌==◌, List, [], ◌∷◌, ◌++◌, length, Option, Some, None, refl, sym, ap, subst, ◌∙◌, Bool, true, false, if◌then◌else◌}
use Rattle.std.proofs.lemmas.Grind.{flat_map-append}
use Rattle.std.proofs.lemmas.List.{append-nil}
use Rattle.a64_word.specs.Words.{words_of}
use Rattle.lfi_module.specs.Extents.{ExtentView}
use Rattle.lfi_rules.specs.Faults.{FirstFault}
use Rattle.lfi_rules.specs.Verdicts.{all_words}
use Rattle.lfi_rules.specs.declared.fault.Fault.{Fault}
use Rattle.lfi_check.specs.declared.beginning.Beginning.{Beginning}
use Rattle.lfi_check.proofs.Begun.{words_so_far}
use Rattle.lfi_model.specs.Item.{ItemView}
use Rattle.lfi_model.specs.Items.{item_of}
use Rattle.lfi_model.specs.Outcomes.{page_of, pages_of, end_of, by_end, Load, IsOutcome}
use Rattle.lfi_model.specs.declared.item.ItemKind.TheVariants.{End}
use Rattle.lfi_model.specs.declared.item.Reason.{Reason}
use Rattle.lfi_model.specs.declared.item.Reason.TheVariants.{Close, Lost, PageFault, NoMemory}
use Rattle.lfi_model.specs.declared.outcome.Outcome.{Outcome}
use Rattle.lfi_model.specs.declared.outcome.Outcome.TheVariants.{Complete, Incomplete}
use Rattle.lfi_module.specs.Pages.{page_count}
use Rattle.lfi_model.proofs.Numbered.{end_snoc}
use Rattle.lfi_stream.specs.Outcomes.{code_of, outcome_by}
use Rattle.lfi_verifier.specs.declared.state.LfiState.{LfiState}
use Rattle.lfi_verifier.specs.States.{Keeps}
use Rattle.lfi_verifier.specs.StreamVerdicts.{IsJudged, FindsOutcome, finding_of}
use Rattle.lfi_verifier.specs.inner.Judging.{finding_by}
use Rattle.lfi_verifier.proofs.Kept.{begun, count, judged_by}

-- an End is no page
end_pages : (items : List ItemView) (m ordinal : ℕ) (extent : ExtentView) (reason : Reason) → pages_of (items ++ item_of m ordinal extent (End reason) ∷ []) ≡ pages_of items
end_pages items m ordinal extent reason = flat_map-append (λ i. page_of i.kind) items (item_of m ordinal extent (End reason) ∷ []) ∙ append-nil (pages_of items)

is_outcome : (extent : ExtentView) (items : List ItemView) (fault : Option Fault) (reason : Reason) → end_of items ≡ Some reason → IsOutcome extent items fault (outcome_by extent items fault reason)
is_outcome extent items (Some fault) reason e = refl
is_outcome extent items None reason e = (reason, e, refl)

-- a module with an item has this outcome
load_by : (extent : ExtentView) (items : List ItemView) (last : ItemView) (fault : Option Fault) (result : Outcome) → let all = items ++ last ∷ [] in
    FirstFault extent.profile (all_words (pages_of all)) extent.words fault → IsOutcome extent all fault result → Load extent all result
load_by extent [] last fault result first is = (fault, first, is)
load_by extent (item ∷ items) last fault result first is = (fault, first, is)

closed_by : (words pages count : ℕ) (all : Bool) → finding_by None Close all ≡ finding_of (if all then Complete words else Incomplete pages count)
closed_by words pages count true = refl
closed_by words pages count false = refl

closed : (extent : ExtentView) (items : List ItemView) (all : Bool) → (length (all_words (pages_of items)) == extent.words) ≡ all → finding_by None Close all ≡ finding_of (by_end extent items Close)
closed extent items all e =
    subst (λ b. finding_by None Close b ≡ finding_of (by_end extent items Close)) e
    (closed_by extent.words (length (pages_of items)) (page_count extent.pages extent.words) (length (all_words (pages_of items)) == extent.words))

is_told : (extent : ExtentView) (items : List ItemView) (fault : Option Fault) (reason : Reason) (all : Bool) → (length (all_words (pages_of items)) == extent.words) ≡ all
    → finding_by fault reason all ≡ finding_of (outcome_by extent items fault reason)
is_told extent items (Some fault) reason all e = refl
is_told extent items None Close all e = closed extent items all e
is_told extent items None (Lost fault) all e = refl
is_told extent items None (PageFault index) all e = refl
is_told extent items None NoMemory all e = refl

-- what is told of a module is its outcome
pub found : (s : LfiState) (extent : ExtentView) (pages : ℕ) (items : List ItemView) (b : Beginning) (m : ℕ) (reason : Reason) → Keeps s b → IsJudged s extent pages items
    → FindsOutcome extent (items ++ item_of m (pages + 1) extent (End reason) ∷ []) (finding_by b.fault reason (b.judged == b.words))
found s extent pages items b m reason keeps h =
    let last : ItemView = item_of m (pages + 1) extent (End reason) in
    let all : List ItemView = items ++ last ∷ [] in
    let begins = begun s extent.profile extent.words (code_of items) b keeps h.stands in
    let words : words_of (code_of items) ≡ all_words (pages_of all) = h.whole.words ∙ ap all_words (sym (end_pages items m (pages + 1) extent reason)) in
    let same_words : b.words ≡ extent.words = count s extent.profile extent.words (code_of items) b keeps h.stands in
    let same_profile = judged_by s extent.profile extent.words (code_of items) b keeps h.stands in
    let size : length (all_words (pages_of all)) ≡ b.judged = ap length (sym words) ∙ words_so_far (code_of items) b.judged begins.whole in
    let first : FirstFault extent.profile (all_words (pages_of all)) extent.words b.fault =
    subst (λ ws. FirstFault extent.profile ws extent.words b.fault) words (subst (λ n. FirstFault extent.profile (words_of (code_of items)) n b.fault) same_words
    (subst (λ p. FirstFault p (words_of (code_of items)) b.words b.fault) same_profile begins.first)) in
    record {
      outcome = outcome_by extent all b.fault reason;
      loads = load_by extent items last b.fault (outcome_by extent all b.fault reason) first (is_outcome extent all b.fault reason (end_snoc items last h.whole.going));
      is = is_told extent all b.fault reason (b.judged == b.words) (λ i. size i == sym same_words i);
    }
