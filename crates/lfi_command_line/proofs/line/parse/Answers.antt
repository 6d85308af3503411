use Rattle.std.proofs.Common.{◌≡◌, List, [], map, refl, string_bytes, subst, true}
use Rattle.clap.specs.Faults.{is_simple_and_free}
use Rattle.clap.specs.Words.{App, HasKind, HasMatchesOf, Text, fault_of}
use Rattle.lfi_command_line.proofs.Asked.{is_fault}
use Rattle.lfi_command_line.proofs.line.parse.Goals as goal

pub returns-in_err-try_get_matches_from-clause-fault : goal.returns-in_err-try_get_matches_from-clause-fault
returns-in_err-try_get_matches_from-clause-fault c =
    let words : List Text = map string_bytes c.args.arguments.words.now in
    let error = c.in_err-try_get_matches_from.field-0.0 in
    let kinds = subst (λ (a : App). is_simple_and_free a ≡ true → HasKind (fault_of a words) error) c.in_ok-command.ensures.0 c.in_err-try_get_matches_from.ensures.kinds refl in
    is_fault words c.from_residual-in_err-try_get_matches_from.result error kinds c.from_residual-in_err-try_get_matches_from.ensures.1

pub returns-clause-taken : goal.returns-clause-taken
returns-clause-taken c =
    let words : List Text = map string_bytes c.args.arguments.words.now in
    let matches = c.in_ok-try_get_matches_from.field-0 in
    let is = c.in_ok-command.ensures.0 in (
      subst (λ (a : App). is_simple_and_free a ≡ true → fault_of a words ≡ []) is c.in_ok-try_get_matches_from.ensures.kinds refl,
      (subst (λ (a : App). HasMatchesOf a words matches) is c.in_ok-try_get_matches_from.ensures.matches refl).1,
    )
