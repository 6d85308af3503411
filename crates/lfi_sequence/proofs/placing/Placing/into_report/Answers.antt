use Rattle.std.proofs.Common.{◌≡◌, rules, Some, None, refl, sym, subst}
use Rattle.lfi_sequence.specs.Tells.{Tells}
use Rattle.lfi_sequence.proofs.Reporting.{ended_by, told_refused}
use Rattle.lfi_sequence.proofs.placing.Placing.into_report.Goals as goal

pub returns-in-None-Some : goal.returns-in-None-Some
returns-in-None-Some c = λ m items reason was ended.
    let p = c.args.self in
    let none : p.refusal ≡ None = search rules in
    let some : p.ended ≡ Some c.in-None-Some.ended = search rules in
    c.by_end.ensures m items (ended_by m p p.builder c.in-None-Some.ended items reason was ended refl none some)

pub returns-in-Some-default : goal.returns-in-Some-default
returns-in-Some-default c = λ m items reason was ended.
    let p = c.args.self in
    let some : p.refusal ≡ Some c.in-Some-default.refusal = search rules in
    subst (λ told. Tells m told items) (sym c.of_refused.ensures) (told_refused m p c.in-Some-default.refusal items was some)
