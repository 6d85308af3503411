use Rattle.std.proofs.Common.{rules, subst}
use Rattle.std.proofs.KnownBytes.{Consumes-whole}
use Rattle.lfi_check.specs.Checking.{Checks}
use Rattle.lfi_file_commands.proofs.pieces.judge_pieces.Goals as goal

pub returns-clause-verdict : goal.returns-clause-verdict
returns-clause-verdict g c =
    let all = c.in-Ok-judge_words.ensures.begins in
    Consumes-whole _ _ all.bytes (λ bytes. Checks c.args.profile bytes c.verdict.result) all.read (search rules) (subst (λ p. Checks p all.bytes c.verdict.result) all.judged_by (c.verdict.ensures all.bytes all.begins))
