use Rattle.std.proofs.Common.{codes, subst}
use Rattle.clap.specs.Words.{first_of, found_of, rows_of}
use Rattle.lfi_command_line.specs.CommandLine.{IsNumberOr}
use Rattle.lfi_command_line.proofs.Asked.{number_first}
use Rattle.lfi_command_line.proofs.given.profile_of.Goals as goal

pub returns-then-number_or-eq2 : goal.returns-then-number_or-eq2
returns-then-number_or-eq2 c =
    let profile = first_of (codes "profile") (rows_of (found_of c.args.matches.now)) in
    subst (λ n. IsNumberOr 1 1 2 profile n) c.if-number_or-eq2.true (c.number_or.ensures 1 2 c.requires)

pub returns-else-number_or-eq2 : goal.returns-else-number_or-eq2
returns-else-number_or-eq2 c =
    let profile = first_of (codes "profile") (rows_of (found_of c.args.matches.now)) in
    let given = c.number_or.ensures 1 2 c.requires in
    subst (λ n. IsNumberOr 1 1 2 profile n) (number_first profile c.number_or.result c.if-number_or-eq2.false given) given
