use Rattle.std.proofs.Common.{◌≡◌, ◌∙◌, List, ℕ, ◌++◌, ap, sym, subst, append_assoc}
use Rattle.std.specs.Prelude.{codes, decimal}
use Rattle.std.specs.Fmt.{HasWritten}
use Rattle.lfi_reference.specs.Messages.{size_of}
use Rattle.lfi_file_commands.specs.declared.info.ToldMessage.{ToldMessage}
use Rattle.lfi_file_commands.specs.Info.{opening_text}
use Rattle.lfi_file_commands.specs.inner.Infos.{told_text}
use Rattle.lfi_file_commands.proofs.info.ToldMessageDisplay.fmt.Goals as goal

regroup : (a b c d : List ℕ) → a ++ (b ++ (c ++ d)) ≡ a ++ b ++ c ++ d
regroup a b c d = simp append_assoc

pub returns-in-Open-clause-writes : goal.returns-in-Open-clause-writes
returns-in-Open-clause-writes g c = λ plain ok.
    let o = c.in-Open.opening in
    subst (λ (text : List ℕ). HasWritten {W = g.row.W.Denot} g.W.Write.write_str_gives c.args.f.now text c.write.new.self)
    (regroup (codes "module ") (decimal c.in-Open.«module») (codes " ") (opening_text o.words o.entry o.profile (size_of o.pages.large)) ∙ ap told_text (sym c.in-Open.is)) (c.write.ensures.writes plain ok)

pub returns-in-Page-clause-writes : goal.returns-in-Page-clause-writes
returns-in-Page-clause-writes g c = λ plain ok.
    subst (λ (told : ToldMessage). HasWritten {W = g.row.W.Denot} g.W.Write.write_str_gives c.args.f.now (told_text told) c.write-in-Page.new.self) (sym c.in-Page.is) (simp append_assoc (c.write-in-Page.ensures.writes plain ok))
