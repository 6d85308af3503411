use Rattle.std.proofs.Common.{rules, ◌≡◌, ◌+◌, ◌<◌, List, length, take, drop, get_or, Err, ap, ◌∙◌, subst, arith}
use Rattle.std.proofs.lemmas.Result.{err_from_is_err_and}
use Rattle.std.specs.Io.KnownBytes.{Appends}
use Rattle.std.proofs.KnownBytes.{Appends-trans}
use Rattle.a64_word.specs.Words.{words_of}
use Rattle.page_buf.specs.Page.{PageView}
use Rattle.lfi_image_file.specs.declared.fault.ImageFault.{ImageFault}
use Rattle.lfi_image_file.specs.Files.{code_of}
use Rattle.lfi_image.specs.Built.{words_in}
use Rattle.lfi_image_file.specs.inner.Writing.{Writes}
use Rattle.lfi_image_file.proofs.Written.{writes_after, writes_before, code_taken, code_split}
use Rattle.lfi_image_file.proofs.writing.write_pages.Goals as goal

pub returns-in_err-write_page : goal.returns-in_err-write_page
returns-in_err-write_page g c =
    let at = c.loop-at.at in
    let pages : List PageView = c.args.pages.now in
    let d : PageView = c.index-pages-at.result in
    let page : c.bytes.result.now ≡ (get_or pages at d).bytes = c.bytes.ensures.same ∙ ap (λ (p : PageView). p.bytes) c.index-pages-at.is in
    let within : at < length pages = search rules in
    let fault : ImageFault = c.in_err-write_page.field-0.0 in
    let p = err_from_is_err_and c.from_residual.result c.from_residual.ensures.1 in
    let same : p.0 ≡ fault = p.2 in
    let wrote : Writes (g.W.Write.contents c.args.writer.now) (g.W.Write.contents c.write_page.new.writer) (code_of (words_in (take (at + 1) pages))) c.write_page.result =
    subst (λ l. Writes (g.W.Write.contents c.args.writer.now) (g.W.Write.contents c.write_page.new.writer) l c.write_page.result) (code_taken pages at d within)
    (writes_after (g.W.Write.contents c.args.writer.now) (g.W.Write.contents c.loop-at.writer) (g.W.Write.contents c.write_page.new.writer) (code_of (words_in (take at pages))) (code_of (words_of (get_or pages at d).bytes)) c.write_page.result
    c.loop-at.invariant.1 (subst (λ q. Writes (g.W.Write.contents c.loop-at.writer) (g.W.Write.contents c.write_page.new.writer) (code_of (words_of q)) c.write_page.result) page c.write_page.ensures)) in
    subst (λ l. Writes (g.W.Write.contents c.args.writer.now) (g.W.Write.contents c.write_page.new.writer) l c.from_residual.result) (code_split pages (at + 1))
    (writes_before (g.W.Write.contents c.args.writer.now) (g.W.Write.contents c.write_page.new.writer) (code_of (words_in (take (at + 1) pages))) (code_of (words_in (drop (at + 1) pages)))
    c.write_page.result c.from_residual.result fault c.in_err-write_page.was (p.1 ∙ ap (λ f. Err f) same) wrote)

pub loop-at-preserved : goal.loop-at-preserved
loop-at-preserved g c =
    let at = c.loop-at.at in
    let pages : List PageView = c.args.pages.now in
    let d : PageView = c.index-pages-at.result in
    let page : c.bytes.result.now ≡ (get_or pages at d).bytes = c.bytes.ensures.same ∙ ap (λ (p : PageView). p.bytes) c.index-pages-at.is in
    let within : at < length pages = search rules in
    let more : Appends (g.W.Write.contents c.loop-at.writer) (g.W.Write.contents c.write_page.new.writer) (code_of (words_of (get_or pages at d).bytes)) =
    subst (λ q. Appends (g.W.Write.contents c.loop-at.writer) (g.W.Write.contents c.write_page.new.writer) (code_of (words_of q))) page c.in_ok-write_page.ensures in (
      omega (arith, within),
      subst (λ l. Appends (g.W.Write.contents c.args.writer.now) (g.W.Write.contents c.write_page.new.writer) l) (code_taken pages at d within)
          (Appends-trans (g.W.Write.contents c.args.writer.now) (g.W.Write.contents c.loop-at.writer) (g.W.Write.contents c.write_page.new.writer) (code_of (words_in (take at pages))) (code_of (words_of (get_or pages at d).bytes)) c.loop-at.invariant.1 more),
    )
