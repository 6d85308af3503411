use Rattle.std.proofs.Common.{refl, subst}
use Rattle.lfi_connection.specs.Connections.{Holds}
use Rattle.lfi_connection.specs.Events.{Moves}
use Rattle.lfi_receive.specs.Places.{progress_at}
use Rattle.lfi_receive.proofs.Telling.{brought}
use Rattle.lfi_receive.proofs.receiver.Receiver.take.Goals as goal

pub returns-clause-stands : goal.returns-clause-stands
returns-clause-stands c = λ ms rest some counts holds told faultless.
    let r = c.args.self.now in
    let used = c.args.bytes.now in
    c.tell.ensures.stands ms rest
    (brought r _ _ c.args.got c.is_free-is_free.result c.advance-event.result ms rest used c.is_free-is_free.ensures.answered some counts holds told faultless
    (λ claimed answers held.
    subst (λ o. Holds (progress_at r.modules) o claimed ms rest → Moves r.feed (progress_at c.advance-event.new.table) o claimed ms rest used c.advance-event.result) c.coming-coming.ensures
    (λ h. c.advance-event.ensures.moves r.feed claimed ms rest used refl some answers h told) held))

pub returns-clause-over : goal.returns-clause-over
returns-clause-over c = λ ms rest some counts holds told faultless.
    let r = c.args.self.now in
    let used = c.args.bytes.now in
    c.tell.ensures.over ms rest
    (brought r _ _ c.args.got c.is_free-is_free.result c.advance-event.result ms rest used c.is_free-is_free.ensures.answered some counts holds told faultless
    (λ claimed answers held.
    subst (λ o. Holds (progress_at r.modules) o claimed ms rest → Moves r.feed (progress_at c.advance-event.new.table) o claimed ms rest used c.advance-event.result) c.coming-coming.ensures
    (λ h. c.advance-event.ensures.moves r.feed claimed ms rest used refl some answers h told) held))
