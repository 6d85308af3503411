use Rattle.std.proofs.Common.{rules, ◌++◌, ℕ, List, map}
use Rattle.std.specs.Io.KnownBytes.{Appends}
use Rattle.std.proofs.KnownBytes.{Appends-trans}
use Rattle.std.proofs.lemmas.Result.{IfOk-weaker}
use Rattle.lfi_commands.specs.Explained.{holder_lines, all_connection_lines, TellsExplained}
use Rattle.lfi_commands.proofs.Explaining.{all_told}
use Rattle.lfi_commands.proofs.explained.write_explained.Goals as goal

pub returns : goal.returns
returns g c =
    let told = c.in_ok-write_refused.ensures in
    let report = c.args.report.now in
    let paths = map (λ path. path.now) c.args.paths.now in
    let old = g.W.Write.contents c.args.out.now in
    let half = g.W.Write.contents c.write_refused.new.out in
    let new = g.W.Write.contents c.write_text.new.writer in
    let more = holder_lines report.holders ++ all_connection_lines report.faults report.starts report.connection_strays paths in
    IfOk-weaker c.write_text.result (λ _. Appends half new more) (λ _. (text : List ℕ) × TellsExplained c.args.explain report paths text × Appends old new text)
    (λ _ wrote. (told.0 ++ more, all_told c.args.explain report paths told.0 c.if-not-explain.false told.1, Appends-trans old half new told.0 more told.2 wrote))
    (search rules)
