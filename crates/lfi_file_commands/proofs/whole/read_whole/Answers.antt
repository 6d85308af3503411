use Rattle.std.proofs.Common.{◌≡◌, IfSome, option_map, subst, take}
use Rattle.std.proofs.lemmas.Result.{IfOk-weaker}
use Rattle.lfi_file_commands.proofs.Explained.{read_to}
use Rattle.lfi_file_commands.proofs.whole.read_whole.Goals as goal

pub returns-clause-read : goal.returns-clause-read
returns-clause-read g c =
    let left = g.R.Read.remaining c.args.reader in
    IfOk-weaker c.read_all.result _ _ (λ bytes is. read_to left bytes.items
    (subst (λ reader. IfSome (option_map (take 16777217) (g.R.Read.remaining reader)) (λ all. bytes.items ≡ all)) c.take.ensures.inner
    (subst (λ most. IfSome (option_map (take most) (g.R.Read.remaining c.take.result.inner)) (λ all. bytes.items ≡ all)) c.take.ensures.limit is)))
    c.read_all.ensures.all
