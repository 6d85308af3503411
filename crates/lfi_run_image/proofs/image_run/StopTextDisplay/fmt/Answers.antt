use Rattle.std.proofs.Common.{◌≡◌, ◌∙◌, ◌^◌, ℕ, List, [], ◌++◌, false, length, sym, ap, subst, arith}
use Rattle.std.specs.Prelude.{codes, replicate, ◌-◌}
use Rattle.std.specs.Fmt.{HasWritten, char_count, digits, format_spec, padded_integral}
use Rattle.std.proofs.lemmas.List.{append-nil}
use Rattle.lfi_run_image.specs.Texts.{stop_text}
use Rattle.lfi_run_image.proofs.image_run.StopTextDisplay.fmt.Goals as goal

sixteen : (n : ℕ) → padded_integral (format_spec 32 0 4 16 (2 ^ 64 - 1)) false [] (digits 16 false n) ≡ replicate (16 - length (digits 16 false n)) 48 ++ digits 16 false n
unfolding padded_integral char_count
sixteen n =
    let ds = digits 16 false n in
    let none : 16 - length ds - 0 - 0 ≡ 16 - length ds = omega arith in
    ap (λ k. replicate k 48 ++ (ds ++ [])) none ∙ ap (λ l. replicate (16 - length ds) 48 ++ l) (append-nil ds)

pub returns-in-NoAccess-clause-writes : goal.returns-in-NoAccess-clause-writes
returns-in-NoAccess-clause-writes g c = λ plain ok.
    let styled = rw c.laid_out.ensures at c.write.ensures.writes in
    let written = rw c.in_radix.ensures at styled in
    subst (λ (text : List ℕ). HasWritten {W = g.row.W.Denot} g.W.Write.write_str_gives c.args.f.now text c.write.new.self)
    (ap (λ l. codes "halt 2 at 0x" ++ l) (sixteen c.in-NoAccess.address) ∙ ap stop_text (sym c.in-NoAccess.is)) (written plain ok)

pub returns-in-NoFetch-clause-writes : goal.returns-in-NoFetch-clause-writes
returns-in-NoFetch-clause-writes g c = λ plain ok.
    let styled = rw c.laid_out-in-NoFetch.ensures at c.write-in-NoFetch.ensures.writes in
    let written = rw c.in_radix-in-NoFetch.ensures at styled in
    subst (λ (text : List ℕ). HasWritten {W = g.row.W.Denot} g.W.Write.write_str_gives c.args.f.now text c.write-in-NoFetch.new.self)
    (ap (λ l. codes "halt 3 at 0x" ++ l) (sixteen c.in-NoFetch.pc) ∙ ap stop_text (sym c.in-NoFetch.is)) (written plain ok)

pub returns-in-Breakpoint-clause-writes : goal.returns-in-Breakpoint-clause-writes
returns-in-Breakpoint-clause-writes g c = λ plain ok.
    let styled = rw c.laid_out-in-Breakpoint.ensures at c.write-in-Breakpoint.ensures.writes in
    let written = rw c.in_radix-in-Breakpoint.ensures at styled in
    subst (λ (text : List ℕ). HasWritten {W = g.row.W.Denot} g.W.Write.write_str_gives c.args.f.now text c.write-in-Breakpoint.new.self)
    (ap (λ l. codes "halt 4 at 0x" ++ l) (sixteen c.in-Breakpoint.pc) ∙ ap stop_text (sym c.in-Breakpoint.is)) (written plain ok)
