use Rattle.std.proofs.Common.{◌≡◌, ◌∙◌, ◌^◌, ℕ, List, [], ◌++◌, false, length, ap, subst, arith}
use Rattle.std.specs.Prelude.{codes, replicate, ◌-◌}
use Rattle.std.specs.Fmt.{HasWritten, char_count, digits, format_spec, padded_integral}
use Rattle.std.proofs.lemmas.List.{append-nil}
use Rattle.lfi_file_commands.proofs.info.BaseDisplay.fmt.Goals as goal

sixteen : (n : ℕ) → padded_integral (format_spec 32 0 4 16 (2 ^ 64 - 1)) false [] (digits 16 false n) ≡ replicate (16 - length (digits 16 false n)) 48 ++ digits 16 false n
unfolding padded_integral char_count
sixteen n =
    let ds = digits 16 false n in
    let none : 16 - length ds - 0 - 0 ≡ 16 - length ds = omega arith in
    ap (λ k. replicate k 48 ++ (ds ++ [])) none ∙ ap (λ l. replicate (16 - length ds) 48 ++ l) (append-nil ds)

pub returns-clause-writes : goal.returns-clause-writes
returns-clause-writes g c = λ plain ok.
    let styled = rw c.laid_out.ensures at c.write.ensures.writes in
    let written = rw c.in_radix.ensures at styled in
    subst (λ (text : List ℕ). HasWritten {W = g.row.W.Denot} g.W.Write.write_str_gives c.args.f.now text c.write.new.self)
    (ap (λ l. codes "0x" ++ l) (sixteen c.args.self.now.0)) (written plain ok)
