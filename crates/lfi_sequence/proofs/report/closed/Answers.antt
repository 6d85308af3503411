use Rattle.std.proofs.Common.{◌≡◌, None, ◌∙◌, refl, ap, sym, subst, length}
use Rattle.lfi_model.specs.declared.outcome.Outcome.TheVariants as outcome_kind
use Rattle.lfi_module.specs.Pages.{page_count}
use Rattle.lfi_sequence.specs.declared.report.ImageState.TheVariants.{Part, Whole}
use Rattle.lfi_sequence.specs.Tells.{Tells}
use Rattle.lfi_sequence.proofs.Reporting.{told_by, complete, incomplete, whole_image}
use Rattle.lfi_sequence.proofs.report.closed.Goals as goal

pub returns-in-Ok : goal.returns-in-Ok
returns-in-Ok c = λ m items ended.
    let b = c.args.builder in
    let long : c.number.result ≡ b.extent.words = c.number.ensures.value ∙ c.words.ensures.count ∙ ap (λ z. length z.words) c.in-Ok.ensures.1 ∙ c.in-Ok.ensures.0 in
    subst (λ n. Tells m (record { outcome = outcome_kind.Complete n; image = Whole c.in-Ok.image; refused = None }) items) (sym long)
    (told_by m b c.args.ended items (outcome_kind.Complete b.extent.words) (Whole c.in-Ok.image) ended
    (complete m b c.args.ended items ended c.requires c.in-Ok.ensures.0)
    (whole_image m b c.args.ended items ended c.in-Ok.image c.in-Ok.ensures.1) refl)

pub returns-in-Err : goal.returns-in-Err
returns-in-Err c = λ m items ended.
    let b = c.args.builder in
    let same : c.extent-extent.result ≡ b.extent = c.extent-extent.ensures ∙ ap (λ z. z.extent) c.in-Err.ensures.1 in
    let count = c.pages-in-Err.ensures ∙ (λ i. page_count ((c.pages.ensures.value ∙ ap (λ z. z.pages) same) i) ((c.words-in-Err.ensures ∙ ap (λ z. z.words) same) i)) in
    let told = told_by m b c.args.ended items (outcome_kind.Incomplete c.args.ended.pages (page_count b.extent.pages b.extent.words)) (Part c.in-Err.builder) ended
    (incomplete m b c.args.ended items ended c.requires c.in-Err.ensures.0)
    (c.in-Err.ensures.1 ∙ ended.builder, λ n e. absurd (cc)) refl in
    subst (λ r. Tells m r items) (sym (c.part.ensures ∙ ap (λ z. record { outcome = outcome_kind.Incomplete c.args.ended.pages z; image = Part c.in-Err.builder; refused = None }) count)) told
