use Rattle.std.proofs.Common.{Some, sym, subst, ap, ◌∙◌}
use Rattle.std.specs.Prelude.{Ok, Err}
use Rattle.lfi_stream.specs.Endings.{LosesIn, LosesOne, Ends}
use Rattle.lfi_verifier.specs.declared.finding.Finding.{Finding}
use Rattle.lfi_verifier.specs.declared.stream.LfiEvent.{LfiEvent}
use Rattle.lfi_verifier.specs.States.{IsState}
use Rattle.lfi_verifier.specs.Statuses.{status_number}
use Rattle.lfi_verifier.specs.StreamVerdicts.{state_at, nothing_found}
use Rattle.lfi_verifier.proofs.Losing.{left, same_modules}
use Rattle.lfi_verifier.proofs.stream.lfi_stream_end.Goals as goal

pub returns-in-Some-Ok-clause-told : goal.returns-in-Some-Ok-clause-told
returns-in-Some-Ok-clause-told c = λ messages rest stands.
    let old = c.args.stream.now in
    let new = c.end.new.stream in (
      record {
        event = Ok c.in-Some-Ok.ending;
        finding = c.lost-finding.result;
        numbers = c.told.ensures.told;
        ends = subst (λ z. Ends z old.text new messages rest) c.in-Some-Ok.field-0-is (c.in-Some-Ok.ensures.told messages rest stands);
      },
      c.number.ensures.is,
    )

pub returns-in-Some-Ok-clause-judged : goal.returns-in-Some-Ok-clause-judged
returns-in-Some-Ok-clause-judged c = λ items fault judged at.
    let old = c.args.stream.now in
    let new = c.end.new.stream in
    let event = c.in-Some-Ok.ending in
    let loses : LosesIn fault old.text new event = subst (λ z. LosesOne fault old.text new (Some z)) c.in-Some-Ok.field-0-is (c.in-Some-Ok.ensures.over fault at) in
    record {
      event = event;
      finding = c.lost-finding.result;
      numbers = c.told.ensures.told;
      loses = loses;
      finds = c.lost-finding.ensures.found items old.text new fault judged loses;
      judged = left event fault old.text new old.verdicts.modules items loses judged;
    }

pub returns-in-Some-Ok-clause-ended : goal.returns-in-Some-Ok-clause-ended
returns-in-Some-Ok-clause-ended c = λ messages rest stands m extent pages going.
    let old = c.args.stream.now in
    let new = c.end.new.stream in
    let ends : Ends (Ok c.in-Some-Ok.ending) old.text new messages rest = subst (λ z. Ends z old.text new messages rest) c.in-Some-Ok.field-0-is (c.in-Some-Ok.ensures.told messages rest stands.text) in
    stands.judged.pages m extent pages (sym (stands.text.holds.progress m) ∙ sym (same_modules (Ok c.in-Some-Ok.ending) old.text new messages rest ends m) ∙ going)

pub returns-in-Some-Ok-clause-unjudged : goal.returns-in-Some-Ok-clause-unjudged
returns-in-Some-Ok-clause-unjudged c = λ kind no.
    let states = c.args.stream.now.verdicts.modules in
    let numbers = c.told.ensures.told in
    let none = subst (λ m. IsState (state_at states m) → ⊥) (ap (λ (e : LfiEvent). e.«module») numbers) no in
    let found = c.lost-finding.ensures.bad none (sym (ap (λ (e : LfiEvent). e.kind) numbers) ∙ kind) in
    ap (λ (e : LfiEvent). e.verdict) numbers ∙ ap (λ (f : Finding). status_number f.status) found

pub returns-in-Some-Err-clause-told : goal.returns-in-Some-Err-clause-told
returns-in-Some-Err-clause-told c = λ messages rest stands.
    let old = c.args.stream.now in
    let new = c.end.new.stream in (
      record {
        event = Err c.in-Some-Err.fault;
        finding = nothing_found;
        numbers = c.fault_event.ensures;
        ends = subst (λ z. Ends z old.text new messages rest) c.in-Some-Err.field-0-is (c.in-Some-Err.ensures.told messages rest stands);
      },
      c.number-in-Some-Err.ensures.is,
    )

pub returns-in-Some-Err-clause-ended : goal.returns-in-Some-Err-clause-ended
returns-in-Some-Err-clause-ended c = λ messages rest stands m extent pages going.
    let old = c.args.stream.now in
    let new = c.end.new.stream in
    let ends : Ends (Err c.in-Some-Err.fault) old.text new messages rest = subst (λ z. Ends z old.text new messages rest) c.in-Some-Err.field-0-is (c.in-Some-Err.ensures.told messages rest stands.text) in
    stands.judged.pages m extent pages (sym (stands.text.holds.progress m) ∙ sym (same_modules (Err c.in-Some-Err.fault) old.text new messages rest ends m) ∙ going)

pub returns-in-None-clause-told : goal.returns-in-None-clause-told
returns-in-None-clause-told c = λ messages rest stands. absurd (c.in-None.ensures.none.1 messages rest stands)

pub returns-in-None-clause-ended : goal.returns-in-None-clause-ended
returns-in-None-clause-ended c = λ messages rest stands. absurd (c.in-None.ensures.none.1 messages rest stands.text)
