use Rattle.std.proofs.Common.{ℕ, rules, ◌<◌, ◌≡◌, ◌*◌, ◌∙◌, Err, IfErr, ap, sym, subst}
use Rattle.std.proofs.lemmas.Result.{err_from_is_err_and}
use Rattle.lfi_module.specs.Pages.{bytes_in_page, page_count}
use Rattle.lfi_pack.specs.Packs.{joined}
use Rattle.lfi_pack.specs.inner.Copies.{IsPageFault, CopiesPage, BeginsPage, BeginsPages}
use Rattle.lfi_pack.proofs.Pages.{first_more, fault_later, joined_length}
use Rattle.lfi_pack.proofs.Parts.{of_fault, pages_begun}
use Rattle.lfi_pack.proofs.pack.pack_pages.Goals as goal

pub returns-in_err-pack_page-clause-fault : goal.returns-in_err-pack_page-clause-fault
returns-in_err-pack_page-clause-fault g c =
    let i = c.loop-index.invariant in
    let n = c.args.words in
    let p = err_from_is_err_and c.from_residual.result c.from_residual.ensures.1 in
    let len : c.bytes_in_page-len.result ≡ bytes_in_page c.args.size n c.loop-index.index = c.bytes_in_page-len.ensures in
    let fault = c.in_err-pack_page.field-0.0 in
    let is = subst (λ k. IsPageFault (g.R.Read.remaining c.loop-index.reader) k fault) len c.in_err-pack_page.ensures.fault in
    subst (λ r. IfErr r (IsPageFault (g.R.Read.remaining c.args.reader.now) (4 * n))) (sym (p.1 ∙ ap (λ f. Err f) p.2))
    (fault_later c.args.size n c.loop-index.index (g.R.Read.remaining c.args.reader.now) (g.R.Read.remaining c.loop-index.reader) (joined i.pages) fault i.read (joined_length c.args.size n c.loop-index.index i.pages i.first) is)

pub loop-index-preserved : goal.loop-index-preserved
loop-index-preserved g c =
    let n = c.args.words in
    let len : c.bytes_in_page-len.result ≡ bytes_in_page c.args.size n c.loop-index.index = c.bytes_in_page-len.ensures in
    first_more c.args.module c.args.size n c.loop-index.index (g.R.Read.remaining c.args.reader.now) (g.R.Read.remaining c.loop-index.reader) (g.R.Read.remaining c.pack_page.new.reader) (g.W.Write.contents c.args.writer.now) (g.W.Write.contents c.loop-index.writer) (g.W.Write.contents c.pack_page.new.writer) c.loop-index.invariant
    (subst (λ k. CopiesPage c.args.module c.args.size c.loop-index.index k (g.R.Read.remaining c.loop-index.reader) (g.R.Read.remaining c.pack_page.new.reader) (g.W.Write.contents c.loop-index.writer) (g.W.Write.contents c.pack_page.new.writer)) len c.in_ok-pack_page.ensures.copied)

pub returns-in_err-pack_page-clause-part : goal.returns-in_err-pack_page-clause-part
returns-in_err-pack_page-clause-part g c =
    let n = c.args.words in
    let k : ℕ = c.loop-index.index in
    let old = g.W.Write.contents c.args.writer.now in
    let half = g.W.Write.contents c.loop-index.writer in
    let new = g.W.Write.contents c.pack_page.new.writer in
    let len : c.bytes_in_page-len.result ≡ bytes_in_page c.args.size n k = c.bytes_in_page-len.ensures in
    let within : k < page_count c.args.size n = search rules in
    of_fault (BeginsPages c.args.module c.args.size n old new) c.from_residual.result
    (pages_begun c.args.module c.args.size n k (g.R.Read.remaining c.args.reader.now) (g.R.Read.remaining c.loop-index.reader) old half new within c.loop-index.invariant
    (subst (λ j. BeginsPage c.args.module c.args.size k j half new) len c.in_err-pack_page.ensures.part))
