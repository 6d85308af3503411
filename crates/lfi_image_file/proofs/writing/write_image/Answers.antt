use Rattle.std.proofs.Common.{rules, ◌≡◌, ◌++◌, Err, ap, ◌∙◌, subst, length}
use Rattle.std.proofs.lemmas.Result.{err_from_is_err_and}
use Rattle.std.specs.Io.KnownBytes.{Appends}
use Rattle.lfi_image_file.specs.Files.{header_of, code_of}
use Rattle.lfi_image.specs.Built.{words_in}
use Rattle.lfi_image_file.specs.inner.Writing.{Writes}
use Rattle.lfi_image_file.proofs.Written.{writes_after, writes_before, writes_all, writes_fault, writes_part}
use Rattle.lfi_image_file.proofs.writing.write_image.Goals as goal

pub returns-in_err-write_bytes : goal.returns-in_err-write_bytes
returns-in_err-write_bytes g c =
    let image = c.args.image.now in
    let head : c.encode-header.result ≡ header_of (length image.words) image.entry image.profile image.slot = search rules in
    let p = err_from_is_err_and c.from_residual.result c.from_residual.ensures.1 in
    let same : p.0 ≡ c.in_err-write_bytes.field-0.0 = p.2 in
    let wrote : Writes (g.W.Write.contents c.args.writer.now) (g.W.Write.contents c.write_bytes.new.writer) (header_of (length image.words) image.entry image.profile image.slot ++ code_of image.words) c.from_residual.result =
    writes_before (g.W.Write.contents c.args.writer.now) (g.W.Write.contents c.write_bytes.new.writer) (header_of (length image.words) image.entry image.profile image.slot) (code_of image.words)
    c.write_bytes.result c.from_residual.result c.in_err-write_bytes.field-0.0 c.in_err-write_bytes.was (p.1 ∙ ap (λ f. Err f) same)
    (subst (λ l. Writes (g.W.Write.contents c.args.writer.now) (g.W.Write.contents c.write_bytes.new.writer) l c.write_bytes.result) head c.write_bytes.ensures) in
    record {
      written = writes_all _ _ _ c.from_residual.result wrote;
      fault = writes_fault _ _ _ c.from_residual.result wrote;
      part = writes_part _ _ _ c.from_residual.result wrote;
    }

pub returns : goal.returns
returns g c =
    let image = c.args.image.now in
    let words : words_in c.pages.result.now ≡ image.words = c.pages.ensures in
    let head : c.encode-header.result ≡ header_of (length image.words) image.entry image.profile image.slot = search rules in
    let first : Appends (g.W.Write.contents c.args.writer.now) (g.W.Write.contents c.write_bytes.new.writer) c.encode-header.result = c.in_ok-write_bytes.ensures in
    let wrote : Writes (g.W.Write.contents c.args.writer.now) (g.W.Write.contents c.write_pages.new.writer) (header_of (length image.words) image.entry image.profile image.slot ++ code_of image.words) c.write_pages.result =
    subst (λ l. Writes (g.W.Write.contents c.args.writer.now) (g.W.Write.contents c.write_pages.new.writer) (header_of (length image.words) image.entry image.profile image.slot ++ code_of l) c.write_pages.result) words
    (writes_after (g.W.Write.contents c.args.writer.now) (g.W.Write.contents c.write_bytes.new.writer) (g.W.Write.contents c.write_pages.new.writer) (header_of (length image.words) image.entry image.profile image.slot) (code_of (words_in c.pages.result.now)) c.write_pages.result
    (subst (λ l. Appends (g.W.Write.contents c.args.writer.now) (g.W.Write.contents c.write_bytes.new.writer) l) head first) c.write_pages.ensures) in
    record {
      written = writes_all _ _ _ c.write_pages.result wrote;
      fault = writes_fault _ _ _ c.write_pages.result wrote;
      part = writes_part _ _ _ c.write_pages.result wrote;
    }
