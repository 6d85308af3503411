use Rattle.std.proofs.Common.{refl, subst, take}
use Rattle.std.specs.Prelude.{Ok, Err}
use Rattle.lfi_stream.specs.Events.{Tells, IsWithin}
use Rattle.lfi_verifier.specs.StreamVerdicts.{nothing_found}
use Rattle.lfi_verifier.proofs.Followed.{faults}
use Rattle.lfi_verifier.proofs.Told.{lies}
use Rattle.lfi_verifier.proofs.stream.lfi_stream_next.Goals as goal

pub returns-in-Some-default-Ok-clause-judged : goal.returns-in-Some-default-Ok-clause-judged
returns-in-Some-default-Ok-clause-judged c = λ messages rest stands.
    let used = take c.in-Some-default-Ok.used c.args.bytes.now in
    let tells : Tells (Ok c.in-Some-default-Ok.brought) c.next.new.stream messages rest used = subst (λ z. Tells z c.next.new.stream messages rest used) c.in-Some-default-Ok.field-0-1-is (c.in-Some-default-Ok.ensures.told messages rest stands.text) in
    let goes = c.follow-finding.ensures.judged c.next.new.stream messages rest tells stands.judged in
    record {
      event = Ok c.in-Some-default-Ok.brought;
      finding = c.follow-finding.result;
      numbers = c.told.ensures.told;
      tells = tells;
      finds = goes.0;
      judged = goes.1;
    }

pub returns-in-Some-default-Ok-clause-moves : goal.returns-in-Some-default-Ok-clause-moves
returns-in-Some-default-Ok-clause-moves c = λ rest inside other some. c.in-Some-default-Ok.ensures.moves rest inside some

pub returns-in-Some-default-Ok-clause-code : goal.returns-in-Some-default-Ok-clause-code
returns-in-Some-default-Ok-clause-code c = λ kind.
    let s = c.args.stream.now.text in
    let n = c.in-Some-default-Ok.used in
    let within : IsWithin (Ok c.in-Some-default-Ok.brought) n s = subst (λ z. IsWithin z n s) c.in-Some-default-Ok.field-0-1-is c.in-Some-default-Ok.ensures.code in
    lies c.in-Some-default-Ok.brought n s c.follow-finding.result c.told.result c.told.ensures.told within kind

pub returns-in-Some-default-Ok-clause-no_page : goal.returns-in-Some-default-Ok-clause-no_page
returns-in-Some-default-Ok-clause-no_page c = λ position is faultless bad. absurd (let none = c.in-Some-default-Ok.ensures.no_page position is faultless bad in cc)

pub returns-in-Some-default-Err-clause-judged : goal.returns-in-Some-default-Err-clause-judged
returns-in-Some-default-Err-clause-judged c = λ messages rest stands.
    let used = take c.in-Some-default-Err.used c.args.bytes.now in
    let fault = c.in-Some-default-Err.fault in
    let tells : Tells (Err fault) c.next.new.stream messages rest used = subst (λ z. Tells z c.next.new.stream messages rest used) c.in-Some-default-Err.field-0-1-is (c.in-Some-default-Err.ensures.told messages rest stands.text) in
    record {
      event = Err fault;
      finding = nothing_found;
      numbers = c.fault_event.ensures;
      tells = tells;
      finds = refl;
      judged = faults c.args.stream.now.verdicts fault used c.next.new.stream messages rest tells stands.judged;
    }

pub returns-in-Some-default-Err-clause-told : goal.returns-in-Some-default-Err-clause-told
returns-in-Some-default-Err-clause-told c = λ messages rest stands.
    let used = take c.in-Some-default-Err.used c.args.bytes.now in
    record {
      event = Err c.in-Some-default-Err.fault;
      finding = nothing_found;
      numbers = c.fault_event.ensures;
      tells = subst (λ z. Tells z c.next.new.stream messages rest used) c.in-Some-default-Err.field-0-1-is (c.in-Some-default-Err.ensures.told messages rest stands);
    }

pub returns-in-Some-default-Err-clause-moves : goal.returns-in-Some-default-Err-clause-moves
returns-in-Some-default-Err-clause-moves c = λ rest inside other some. c.in-Some-default-Err.ensures.moves rest inside some

pub returns-in-None-clause-judged : goal.returns-in-None-clause-judged
returns-in-None-clause-judged c = λ messages rest stands. absurd (c.in-None.ensures.none.1 messages rest stands.text)

pub returns-in-None-clause-told : goal.returns-in-None-clause-told
returns-in-None-clause-told c = λ messages rest stands. absurd (c.in-None.ensures.none.1 messages rest stands)
