use Rattle.std.proofs.Common.{◌++◌, codes, decimal}
use Rattle.std.specs.Prelude.{string_bytes}
use Rattle.std.proofs.lemmas.Result.{on_ok_weaker}
use Rattle.lfi_file_commands.proofs.Pushed.{more}
use Rattle.lfi_file_commands.proofs.members.push_counts.Goals as goal

pub returns : goal.returns
returns c =
    let counts = c.args.counts in
    on_ok_weaker c.push_number-2.result
    (λ last. more (string_bytes c.args.text.now) _ _ (codes "],\"words_refused\":" ++ decimal counts.refused) (codes ",\"words_with_a_mend\":" ++ decimal counts.mended) c.in_ok-push_number.ensures last)
    c.push_number-2.ensures
