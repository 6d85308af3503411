use Rattle.std.proofs.Common.{◌≡◌, ◌*◌, ◌≤◌, ◌∙◌, Err, IfErr, ap, sym, subst, arith}
use Rattle.std.proofs.lemmas.Result.{err_from_is_err_and}
use Rattle.lfi_module.specs.Numbers.{most_words}
use Rattle.lfi_module.specs.Pages.{page_count}
use Rattle.lfi_pack.specs.Faults.{IsPackFault}
use Rattle.exact_io.specs.Beginnings.{AppendsBeginning}
use Rattle.lfi_pack.specs.Packs.{joined, PacksPart}
use Rattle.lfi_pack.specs.inner.Copies.{CopiesPages, BeginsPages}
use Rattle.lfi_pack.proofs.Pages.{fault_at_end, joined_length, all_long}
use Rattle.lfi_pack.proofs.Whole.{at_size, packs_all, page_size}
use Rattle.lfi_pack.proofs.Parts.{of_fault, follows_of_fault, part_in_open, part_in_pages, part_after_pages, part_in_close}
use Rattle.lfi_pack.proofs.pack.pack_module.Goals as goal

pub returns-in_err-expect_end-clause-fault : goal.returns-in_err-expect_end-clause-fault
returns-in_err-expect_end-clause-fault g c =
    let n = c.args.extent.words in
    let size = c.args.extent.pages in
    let same : c.words.result ≡ n = c.words.ensures in
    let sized : c.pages.result ≡ size = c.pages.ensures.value in
    let copied = at_size (λ j k. CopiesPages c.args.module j k (g.R.Read.remaining c.args.reader.now) (g.R.Read.remaining c.pack_pages.new.reader) (g.W.Write.contents c.write_full.new.writer) (g.W.Write.contents c.pack_pages.new.writer)) sized same c.in_ok-pack_pages.ensures.copied in
    let p = err_from_is_err_and c.from_residual-in_err-expect_end.result c.from_residual-in_err-expect_end.ensures.1 in
    let fault = c.in_err-expect_end.field-0.0 in
    subst (λ r. IfErr r (IsPackFault (g.R.Read.remaining c.args.reader.now) (4 * n))) (sym (p.1 ∙ ap (λ f. Err f) p.2))
    (fault_at_end n (g.R.Read.remaining c.args.reader.now) (g.R.Read.remaining c.pack_pages.new.reader) (joined copied.pages) fault copied.read (joined_length size n (page_count size n) copied.pages copied.first ∙ all_long size n (page_size c.args.extent.profile size c.open_bytes.ensures.message.sizes)) c.in_err-expect_end.ensures.fault)

pub returns-clause-packed : goal.returns-clause-packed
returns-clause-packed g c =
    let n = c.args.extent.words in
    let size = c.args.extent.pages in
    let same : c.words.result ≡ n = c.words.ensures in
    let sized : c.pages.result ≡ size = c.pages.ensures.value in
    let copied = at_size (λ j k. CopiesPages c.args.module j k (g.R.Read.remaining c.args.reader.now) (g.R.Read.remaining c.pack_pages.new.reader) (g.W.Write.contents c.write_full.new.writer) (g.W.Write.contents c.pack_pages.new.writer)) sized same c.in_ok-pack_pages.ensures.copied in
    packs_all c.args.module c.args.extent (g.R.Read.remaining c.args.reader.now) (g.R.Read.remaining c.pack_pages.new.reader) (g.R.Read.remaining c.expect_end.new.reader) (g.W.Write.contents c.args.writer.now) (g.W.Write.contents c.write_full.new.writer) (g.W.Write.contents c.pack_pages.new.writer) (g.W.Write.contents c.write_full-2.new.writer)
    c.open_bytes.result c.close_bytes.result c.write_full-2.result (omega arith) c.open_bytes.ensures.spells c.open_bytes.ensures.message c.in_ok-write_full.ensures.written copied c.in_ok-expect_end.ensures.none c.in_ok-expect_end.ensures.ended c.close_bytes.ensures c.write_full-2.ensures.written

pub returns-in_err-write_full-clause-part : goal.returns-in_err-write_full-clause-part
returns-in_err-write_full-clause-part g c =
    let old = g.W.Write.contents c.args.writer.now in
    let new = g.W.Write.contents c.write_full.new.writer in
    let few : c.args.extent.words ≤ most_words = omega arith in
    of_fault (PacksPart c.args.module c.args.extent old new) c.from_residual.result
    (part_in_open c.args.module c.args.extent few c.open_bytes.ensures.message c.open_bytes.result old new c.open_bytes.ensures.spells c.in_err-write_full.ensures.part)

pub returns-in_err-pack_pages-clause-part : goal.returns-in_err-pack_pages-clause-part
returns-in_err-pack_pages-clause-part g c =
    let old = g.W.Write.contents c.args.writer.now in
    let mid = g.W.Write.contents c.write_full.new.writer in
    let new = g.W.Write.contents c.pack_pages.new.writer in
    let same : c.words.result ≡ c.args.extent.words = c.words.ensures in
    let sized : c.pages.result ≡ c.args.extent.pages = c.pages.ensures.value in
    let few : c.args.extent.words ≤ most_words = omega arith in
    of_fault (PacksPart c.args.module c.args.extent old new) c.from_residual-in_err-pack_pages.result
    (part_in_pages c.args.module c.args.extent few c.open_bytes.ensures.message c.open_bytes.result old mid new c.open_bytes.ensures.spells c.in_ok-write_full.ensures.written
    (at_size (λ j k. BeginsPages c.args.module j k mid new) sized same c.in_err-pack_pages.ensures.part))

pub returns-in_err-expect_end-clause-part : goal.returns-in_err-expect_end-clause-part
returns-in_err-expect_end-clause-part g c =
    let old = g.W.Write.contents c.args.writer.now in
    let mid = g.W.Write.contents c.write_full.new.writer in
    let new = g.W.Write.contents c.pack_pages.new.writer in
    let left = g.R.Read.remaining c.args.reader.now in
    let rest = g.R.Read.remaining c.pack_pages.new.reader in
    let same : c.words.result ≡ c.args.extent.words = c.words.ensures in
    let sized : c.pages.result ≡ c.args.extent.pages = c.pages.ensures.value in
    let few : c.args.extent.words ≤ most_words = omega arith in
    of_fault (PacksPart c.args.module c.args.extent old new) c.from_residual-in_err-expect_end.result
    (part_after_pages c.args.module c.args.extent few c.open_bytes.ensures.message c.open_bytes.result left rest old mid new c.open_bytes.ensures.spells c.in_ok-write_full.ensures.written
    (at_size (λ j k. CopiesPages c.args.module j k left rest mid new) sized same c.in_ok-pack_pages.ensures.copied))

pub returns-clause-part : goal.returns-clause-part
returns-clause-part g c =
    let old = g.W.Write.contents c.args.writer.now in
    let mid = g.W.Write.contents c.write_full.new.writer in
    let half = g.W.Write.contents c.pack_pages.new.writer in
    let new = g.W.Write.contents c.write_full-2.new.writer in
    let left = g.R.Read.remaining c.args.reader.now in
    let rest = g.R.Read.remaining c.pack_pages.new.reader in
    let same : c.words.result ≡ c.args.extent.words = c.words.ensures in
    let sized : c.pages.result ≡ c.args.extent.pages = c.pages.ensures.value in
    let few : c.args.extent.words ≤ most_words = omega arith in
    follows_of_fault (AppendsBeginning half new c.close_bytes.result) (PacksPart c.args.module c.args.extent old new) c.write_full-2.result
    (part_in_close c.args.module c.args.extent few c.open_bytes.ensures.message c.open_bytes.result c.close_bytes.result left rest old mid half new c.open_bytes.ensures.spells c.in_ok-write_full.ensures.written
    (at_size (λ j k. CopiesPages c.args.module j k left rest mid half) sized same c.in_ok-pack_pages.ensures.copied) c.close_bytes.ensures) c.write_full-2.ensures.part
