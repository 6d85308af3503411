use Rattle.std.proofs.Common.{◌≡◌, IfSome, option_map, subst, take}
use Rattle.lfi_file_commands.specs.inner.Whole.{IsFoundOf}
use Rattle.lfi_file_commands.proofs.Explained.{found_left}
use Rattle.lfi_file_commands.proofs.checking.judge_whole.Goals as goal

pub returns-in-Ok-clause-found : goal.returns-in-Ok-clause-found
returns-in-Ok-clause-found g c =
    let left = g.R.Read.remaining c.args.reader in
    let read = c.in-Ok.bytes.items in
    let finding = c.finding_of.result in
    let all = subst (λ reader. IfSome (option_map (take 16777217) (g.R.Read.remaining reader)) (λ all. read ≡ all)) c.take.ensures.inner
    (subst (λ most. IfSome (option_map (take most) (g.R.Read.remaining c.take.result.inner)) (λ all. read ≡ all)) c.take.ensures.limit c.in-Ok.ensures.all) in
    found_left c.args.profile left read finding all (subst (λ bytes. IsFoundOf c.args.profile bytes finding) c.deref.ensures.value c.finding_of.ensures)
