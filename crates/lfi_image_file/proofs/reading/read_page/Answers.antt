use Rattle.std.proofs.Common.{rules, ◌≡◌, ◌*◌, length, ◌∙◌, ap, sym}
use Rattle.lfi_module.specs.Pages.{words_due}
use Rattle.lfi_image_file.proofs.Pieces.{word_count}
use Rattle.lfi_image_file.proofs.reading.read_page.Goals as goal

pub judge-page-requires : goal.judge-page-requires
judge-page-requires g c =
    let size : length c.in_ok-page.page.bytes ≡ 4 * c.due.result = search rules in
    let sized : c.in_ok-page.page.size ≡ c.args.builder.now.extent.pages = c.in_ok-page.ensures.size ∙ sym c.requires.pages in
    record {
      sized = sized ∙ ap (λ z. z.pages) (sym c.extent.ensures);
      due = word_count c.in_ok-page.page.bytes c.due.result size ∙ c.due.ensures ∙ (λ i. words_due (sym c.extent.ensures i).pages (sym c.extent.ensures i).words (sym c.placed.ensures.count i));
    }
