use Rattle.std.proofs.Common.{rules, ◌≡◌, ◌<◌, List, length, take, get_or, ap, ◌∙◌, subst}
use Rattle.std.specs.Io.KnownBytes.{Appends}
use Rattle.std.proofs.KnownBytes.{Appends-trans}
use Rattle.a64_word.specs.Words.{words_of}
use Rattle.page_buf.specs.Page.{PageView}
use Rattle.lfi_image_file.specs.Files.{code_of}
use Rattle.lfi_image.specs.Built.{words_in}
use Rattle.lfi_image_file.proofs.Written.{code_taken}
use Rattle.lfi_file_commands.proofs.Joined.{all_taken}
use Rattle.lfi_file_commands.proofs.unpacking.write_pages.Goals as goal

pub loop-at-preserved : goal.loop-at-preserved
loop-at-preserved g c =
    let at = c.loop-at.at in
    let pages : List PageView = c.args.pages.now in
    let d : PageView = c.index-pages-at.result in
    let page : c.bytes.result.now ≡ (get_or pages at d).bytes = c.bytes.ensures.same ∙ ap (λ (p : PageView). p.bytes) c.index-pages-at.is in
    let within : at < length pages = search rules in
    let more : Appends (g.W.Write.contents c.loop-at.writer) (g.W.Write.contents c.write_page.new.writer) (code_of (words_of (get_or pages at d).bytes)) =
    subst (λ q. Appends (g.W.Write.contents c.loop-at.writer) (g.W.Write.contents c.write_page.new.writer) (code_of (words_of q))) page c.in_ok-write_page.ensures in
    subst (λ l. Appends (g.W.Write.contents c.args.writer.now) (g.W.Write.contents c.write_page.new.writer) l) (code_taken pages at d within)
    (Appends-trans (g.W.Write.contents c.args.writer.now) (g.W.Write.contents c.loop-at.writer) (g.W.Write.contents c.write_page.new.writer) (code_of (words_in (take at pages))) (code_of (words_of (get_or pages at d).bytes)) c.loop-at.invariant more)

pub returns : goal.returns
returns g c =
    let pages : List PageView = c.args.pages.now in
    subst (λ l. Appends (g.W.Write.contents c.args.writer.now) (g.W.Write.contents c.loop-at.writer) (code_of (words_in l))) (all_taken pages c.loop-at.at (search rules)) c.loop-at.invariant
