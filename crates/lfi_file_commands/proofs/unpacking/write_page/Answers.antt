use Rattle.std.proofs.Common.{ℕ, List, OnOk, arith, sym, subst}
use Rattle.std.specs.Io.KnownBytes.{Appends}
use Rattle.lfi_image_file.proofs.Pieces.{code_of_words}
use Rattle.lfi_file_commands.proofs.unpacking.write_page.Goals as goal

pub returns : goal.returns
returns g c = subst (λ (l : List ℕ). OnOk c.write_bytes.result (Appends (g.W.Write.contents c.args.writer.now) (g.W.Write.contents c.write_bytes.new.writer) l))
    (sym (code_of_words c.args.bytes.now c.requires.1 (λ i. omega (arith, c.type_inv.bytes i)))) c.write_bytes.ensures
