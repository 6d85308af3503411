use Rattle.std.proofs.Common.{◌≡◌, List, ℕ, ◌++◌, append_assoc, subst}
use Rattle.std.specs.Prelude.{codes, decimal}
use Rattle.std.specs.Fmt.{HasWritten}
use Rattle.lfi_run_image.specs.Texts.{address_text}
use Rattle.lfi_file_commands.proofs.info.HeldDisplay.fmt.Goals as goal

regroup : (a b c d e f g h i j k : List ℕ) → a ++ (b ++ (c ++ (d ++ (e ++ (f ++ (g ++ (h ++ (i ++ (j ++ k))))))))) ≡ a ++ b ++ c ++ d ++ e ++ f ++ g ++ h ++ i ++ j ++ k
regroup a b c d e f g h i j k = simp append_assoc

pub returns-clause-writes : goal.returns-clause-writes
returns-clause-writes g c = λ plain ok.
    let held = c.args.self.now in
    subst (λ (text : List ℕ). HasWritten {W = g.row.W.Denot} g.W.Write.write_str_gives c.args.f.now text c.write.new.self)
    (regroup (codes "image\n  slot ") (decimal held.slot) (codes "\n  base ") (address_text held.base) (codes "\n  words ") (decimal held.words) (codes "\n  entry ") (decimal held.entry)
    (codes "\n  profile ") (decimal held.profile) (codes "\n  lawful\n")) (c.write.ensures.writes plain ok)
