use Rattle.std.proofs.Common.{◌≡◌, ◌*◌, ◌<◌, IfSome, arith, option_map, subst, take}
use Rattle.lfi_check.specs.Checking.{Checks}
use Rattle.lfi_module.specs.Numbers.{most_words}
use Rattle.lfi_file_commands.proofs.Explained.{checks_left}
use Rattle.lfi_file_commands.proofs.checking.check.Goals as goal

pub returns-in-Ok-write_verdict-clause-verdict : goal.returns-in-Ok-write_verdict-clause-verdict
returns-in-Ok-write_verdict-clause-verdict g c =
    let left = g.R.Read.remaining c.args.reader in
    let read = c.in-Ok.bytes.items in
    let verdict = c.judge_code-verdict.result in
    let all = subst (λ reader. IfSome (option_map (take 16777217) (g.R.Read.remaining reader)) (λ all. read ≡ all)) c.take.ensures.inner
    (subst (λ most. IfSome (option_map (take most) (g.R.Read.remaining c.take.result.inner)) (λ all. read ≡ all)) c.take.ensures.limit c.in-Ok.ensures.all) in
    let more : 4 * most_words < 16777217 = omega arith in
    let checks = subst (λ bytes. Checks c.args.profile bytes verdict) c.deref.ensures.value c.judge_code-verdict.ensures in
    checks_left c.args.profile left read 16777217 verdict more all checks
