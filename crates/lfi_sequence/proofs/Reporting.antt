-- What has been placed of all items is what the report tells.
use Rattle.std.proofs.Common.{◌≡◌, ℕ, ◌<◌, ◌==◌, List, [], ◌∷◌, length, Some, None, refl, sym, ◌∙◌, ap, subst, inl, inr, arith, false, if◌then◌else◌, eq-eqb}
use Rattle.std.specs.Option.{option_map}
use Rattle.std.proofs.lemmas.Bool.Decides.{eqb_tells}
use Rattle.lfi_model.specs.Item.{ItemView}
use Rattle.lfi_model.specs.declared.item.Reason.{Reason}
use Rattle.lfi_model.specs.declared.item.Reason.TheVariants.{Close}
use Rattle.lfi_rules.specs.Faults.{FirstFault}
use Rattle.lfi_rules.specs.Verdicts.{all_words}
use Rattle.lfi_image.specs.Image.{Module, Image}
use Rattle.lfi_model.specs.declared.outcome.Outcome.{Outcome}
use Rattle.lfi_model.specs.declared.outcome.Outcome.TheVariants as outcome_kind
use Rattle.lfi_module.specs.Pages.{page_count}
use Rattle.lfi_model.specs.Outcomes.{Load, by_end, pages_of, end_of, Placed}
use Rattle.lfi_model.proofs.Faults.{placed_whole}
use Rattle.lfi_sequence.specs.declared.placing.Placing.{Placing}
use Rattle.lfi_sequence.specs.declared.placing.Ended.{Ended}
use Rattle.lfi_sequence.specs.declared.report.ImageState.{ImageState}
use Rattle.lfi_sequence.specs.declared.report.ImageState.TheVariants.{Absent, Part, Whole}
use Rattle.lfi_sequence.specs.declared.report.ModuleReport.{ModuleReport}
use Rattle.lfi_sequence.specs.Placed.{extent_at, builder_of, HasPlaced, HasEnded, IsPlacing}
use Rattle.lfi_sequence.specs.Refused.{judged_words, IsRefusedFor}
use Rattle.lfi_sequence.specs.declared.refused.Refusal.{Refusal}
use Rattle.lfi_sequence.specs.Tells.{IsImageOf, IsRefusedAt, Tells, HasEnd}
use Rattle.lfi_sequence.proofs.Placings.{placed_all, no_break}

-- a module whose words have no fault, by its End
pub told_by : (m : ℕ) (b : Module) (e : Ended) (items : List ItemView) (outcome : Outcome) (image : ImageState) → HasEnded m b e items → outcome ≡ by_end (extent_at items) items e.reason
    → IsImageOf m items (pages_of items) outcome image → IsRefusedAt m (extent_at items) (judged_words (pages_of items) (pages_of items)) outcome None → Tells m (record { outcome = outcome; image = image; refused = None }) items
told_by m b e items outcome image ended is holds unrefused = record {
  outcome = loads items ended.opened;
  us = pages_of items;
  placed = placed_whole (extent_at items) (pages_of items) ended.lawful;
  image = holds;
  refused = unrefused;
}
  where
    loads : (l : List ItemView) → l ≡ ended.first ∷ ended.rest → Load (extent_at items) items outcome
    loads l same = subst (λ z. Load (extent_at items) z outcome) (sym ended.opened) (
      None,
      subst (λ z. FirstFault (extent_at items).profile (all_words (pages_of z)) (extent_at items).words None) ended.opened ended.lawful,
      (e.reason, ap end_of (sym ended.opened) ∙ ended.reason, is ∙ ap (λ z. by_end (extent_at items) z e.reason) ended.opened),
    )

-- how many words there are
module _ (m : ℕ) (b : Module) (e : Ended) (items : List ItemView) (ended : HasEnded m b e items) where
  pub count_is : b.extent.words ≡ (extent_at items).words
  count_is = ap (λ z. z.extent.words) ended.builder

  words_is : b.placed ≡ all_words (pages_of items)
  words_is = ap (λ z. z.placed) ended.builder

  pub complete : e.reason ≡ Close → length b.placed ≡ b.extent.words → outcome_kind.Complete b.extent.words ≡ by_end (extent_at items) items e.reason
  complete close all =
      let full : length (all_words (pages_of items)) ≡ (extent_at items).words = sym (ap length words_is) ∙ all ∙ count_is in
      ap (λ z. outcome_kind.Complete z) count_is
      ∙ sym (ap (λ r. by_end (extent_at items) items r) close
      ∙ ap (λ t. if t then outcome_kind.Complete (extent_at items).words else outcome_kind.Incomplete (length (pages_of items)) (page_count (extent_at items).pages (extent_at items).words)) (eq-eqb (length (all_words (pages_of items))) (extent_at items).words full))

  pub incomplete : e.reason ≡ Close → length b.placed < b.extent.words → outcome_kind.Incomplete e.pages (page_count b.extent.pages b.extent.words) ≡ by_end (extent_at items) items e.reason
  incomplete close few =
      let l = ap length words_is in let c = count_is in
      let less : (length (all_words (pages_of items)) == (extent_at items).words) ≡ false = (elim (eqb_tells (length (all_words (pages_of items))) (extent_at items).words) [
        | inl full ↦ let f = full.1 in absurd (omega arith)
        | inr n ↦ n.0
      ]) in
      (λ i. outcome_kind.Incomplete (ended.pages i) (page_count (ended.builder i).extent.pages (ended.builder i).extent.words))
      ∙ sym (ap (λ r. by_end (extent_at items) items r) close
      ∙ ap (λ t. if t then outcome_kind.Complete (extent_at items).words else outcome_kind.Incomplete (length (pages_of items)) (page_count (extent_at items).pages (extent_at items).words)) less)

  pub whole_image : (i : Image) → i ≡ record { profile = b.extent.profile; entry = b.extent.entry; slot = b.slot; words = b.placed } → IsImageOf m items (pages_of items) (outcome_kind.Complete b.extent.words) (Whole i)
  whole_image i is = (is ∙ (λ j. record { profile = (ended.builder j).extent.profile; entry = (ended.builder j).extent.entry; slot = (ended.builder j).slot; words = words_is j }), ap (λ z. outcome_kind.Complete z) count_is)

-- where there is no fault, all pages are placed
pub ended_by : (m : ℕ) (p : Placing) (b : Module) (e : Ended) (items : List ItemView) (reason : Reason) → IsPlacing m p items → end_of items ≡ Some reason → p.builder ≡ b → p.refusal ≡ None → p.ended ≡ Some e → HasEnded m b e items
ended_by m p b e items reason was ended built none some =
    let h : HasPlaced m p b items = subst (λ o. HasPlaced m p o items) built was.built in
    let lawful : FirstFault (extent_at items).profile (all_words (pages_of items)) (extent_at items).words None = subst (λ o. FirstFault (extent_at items).profile (all_words (pages_of items)) (extent_at items).words (option_map (λ z. z.fault) o)) none h.fault in
    let all = placed_all (extent_at items) (pages_of items) h.us h.placed lawful in
    record {
      first = was.first;
      rest = was.rest;
      opened = was.opened;
      reason = sym was.reason ∙ ap (λ o. option_map (λ z. z.reason) o) some;
      pages = was.pages e some;
      builder = h.builder ∙ ap (λ us. builder_of m items us) all;
      lawful = lawful;
    }

-- a module that wasn't opened
pub told_nothing : (m : ℕ) (items : List ItemView) → items ≡ [] → Tells m (record { outcome = outcome_kind.Unused; image = Absent; refused = None }) items
told_nothing m items none = record {
  outcome = subst (λ l. Load (extent_at l) l outcome_kind.Unused) (sym none) refl;
  us = [];
  placed = subst (λ l. Placed (extent_at l) (pages_of l) []) (sym none) (placed_whole (extent_at []) [] (λ k r h. no_break (extent_at []) k r h));
  image = none;
  refused = refl;
}

-- what became of a module that was
pub told_some : (m : ℕ) (p : Placing) (told : ModuleReport) (items : List ItemView) → IsPlacing m p items → HasEnd items → ((reason : Reason) → end_of items ≡ Some reason → Tells m told items) → Tells m told items
told_some m p told items was (inl none) tells = absurd (let is = was.opened in cc)
told_some m p told items was (inr e) tells = tells e.0 e.1

-- what became of a module that was refused
pub told_refused : (m : ℕ) (p : Placing) (refusal : Refusal) (items : List ItemView) → IsPlacing m p items → p.refusal ≡ Some refusal
    → Tells m (record { outcome = outcome_kind.Refused refusal.fault; image = Part p.builder; refused = Some (record { slot = p.builder.slot; extent = p.builder.extent; refusal = refusal }) }) items
told_refused m p refusal items was found =
    let h = was.built in
    let first : FirstFault (extent_at items).profile (all_words (pages_of items)) (extent_at items).words (Some refusal.fault) =
    subst (λ o. FirstFault (extent_at items).profile (all_words (pages_of items)) (extent_at items).words (option_map (λ z. z.fault) o)) found h.fault in
    record {
      outcome = subst (λ z. Load (extent_at items) z (outcome_kind.Refused refusal.fault)) (sym was.opened) (
        Some refusal.fault,
        subst (λ z. FirstFault (extent_at items).profile (all_words (pages_of z)) (extent_at items).words (Some refusal.fault)) was.opened first,
        refl,
      );
      us = h.us;
      placed = h.placed;
      image = (h.builder, λ n e. absurd (cc));
      refused = (
        refusal.near,
        (λ i. Some (record { slot = (h.builder i).slot; extent = (h.builder i).extent; refusal = refusal })),
        subst (λ o. IsRefusedFor (judged_words h.us (pages_of items)) o) found h.refused,
      );
    }
