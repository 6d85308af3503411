use Rattle.std.proofs.Common.{◌<◌, ◌++◌, ap, sym, ◌∙◌, length, take, arith}
use Rattle.lfi_rules.specs.Verdicts.{all_words}
use Rattle.lfi_reference.specs.Pages.{pages_by}
use Rattle.lfi_reference.proofs.Pages.{words_more}
use Rattle.lfi_reference.proofs.words.all_words.Goals as goal

pub loop-page-preserved : goal.loop-page-preserved
loop-page-preserved c =
    let below : c.loop-page.page-index < length c.args.pages.now = omega arith in
    c.in_ok-extend_from_slice.ensures.items
    ∙ ap (λ l. l ++ c.as_slice.result.now) c.loop-page.invariant
    ∙ ap (λ l. all_words (pages_by (take c.loop-page.page-index c.args.pages.now)) ++ l) c.as_slice.ensures.value
    ∙ sym (words_more c.args.pages.now c.loop-page.page-index c.page-item.result below c.page-item.is)
