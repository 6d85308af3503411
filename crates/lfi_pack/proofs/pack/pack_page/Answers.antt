use Rattle.std.proofs.Common.{rules, ◌≡◌, length}
use Rattle.lfi_pack.proofs.Pages.{copied_page}
use Rattle.lfi_pack.specs.inner.Copies.{BeginsPage}
use Rattle.exact_io.specs.Beginnings.{AppendsBeginning}
use Rattle.lfi_pack.proofs.Parts.{of_fault, follows_of_fault, header_begun, page_begun}
use Rattle.lfi_pack.proofs.pack.pack_page.Goals as goal

pub returns-clause-copied : goal.returns-clause-copied
returns-clause-copied g c =
    let long : length c.read_full.new.bytes ≡ c.args.len = search rules in
    copied_page c.args.module c.args.size c.args.index c.args.len (g.R.Read.remaining c.args.reader.now) (g.R.Read.remaining c.read_full.new.reader) (g.W.Write.contents c.args.writer.now) (g.W.Write.contents c.write_full.new.writer) (g.W.Write.contents c.write_full-2.new.writer)
    c.read_full.new.bytes c.page_bytes.result c.write_full-2.result long c.in_ok-read_full.ensures.full c.page_bytes.ensures c.in_ok-write_full.ensures.written c.write_full-2.ensures.written

pub returns-in_err-write_full-clause-part : goal.returns-in_err-write_full-clause-part
returns-in_err-write_full-clause-part g c =
    let old = g.W.Write.contents c.args.writer.now in
    let new = g.W.Write.contents c.write_full.new.writer in
    let long : length c.read_full.new.bytes ≡ c.args.len = search rules in
    of_fault (BeginsPage c.args.module c.args.size c.args.index c.args.len old new) c.from_residual-in_err-write_full.result
    (header_begun c.args.module c.args.size c.args.index c.read_full.new.bytes c.page_bytes.result old new c.args.len long c.page_bytes.ensures c.in_err-write_full.ensures.part)

pub returns-clause-part : goal.returns-clause-part
returns-clause-part g c =
    let old = g.W.Write.contents c.args.writer.now in
    let mid = g.W.Write.contents c.write_full.new.writer in
    let new = g.W.Write.contents c.write_full-2.new.writer in
    let long : length c.read_full.new.bytes ≡ c.args.len = search rules in
    follows_of_fault (AppendsBeginning mid new c.read_full.new.bytes) (BeginsPage c.args.module c.args.size c.args.index c.args.len old new) c.write_full-2.result
    (page_begun c.args.module c.args.size c.args.index c.read_full.new.bytes c.page_bytes.result old mid new c.args.len long c.page_bytes.ensures c.in_ok-write_full.ensures.written) c.write_full-2.ensures.part
