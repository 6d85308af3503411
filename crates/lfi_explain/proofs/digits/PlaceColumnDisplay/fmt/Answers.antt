use Rattle.std.proofs.Common.{ℕ, List, subst}
use Rattle.std.specs.Fmt.{HasWritten}
use Rattle.lfi_explain.proofs.Columns.{spaces}
use Rattle.lfi_explain.proofs.digits.PlaceColumnDisplay.fmt.Goals as goal

pub returns-clause-writes : goal.returns-clause-writes
returns-clause-writes g c = λ plain ok.
    let written = rw c.laid_out.ensures at c.write.ensures.writes in
    subst (λ (text : List ℕ). HasWritten {W = g.row.W.Denot} g.W.Write.write_str_gives c.args.f.now text c.write.new.self)
    (spaces 7 c.args.self.now.0) (written plain ok)
