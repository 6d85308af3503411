use Rattle.std.proofs.Common.{sym, subst}
use Rattle.lfi_connection.specs.Connections.{Holds}
use Rattle.lfi_connection.specs.Events.{Moves, coming_after}
use Rattle.lfi_stream.specs.Numbers.{progress_at, IsPageOf}
use Rattle.lfi_stream.specs.Streams.{all}
use Rattle.lfi_stream.proofs.Told.{all_free, within}
use Rattle.lfi_stream.proofs.stream.brought.Goals as goal

pub returns-clause-moves : goal.returns-clause-moves
returns-clause-moves c = λ feed ms rest used size some holds told.
    let s = c.args.stream.now in
    let event = c.advance-event.result in
    subst (λ o. Holds (progress_at s.modules) o all ms rest → Moves feed (progress_at c.advance-event.new.table.modules) o all ms rest used event) c.coming-coming.ensures
    (λ h. c.advance-event.ensures.moves feed all ms rest used size some (all_free c.args.got (progress_at s.modules)) h told) holds

pub returns-clause-page : goal.returns-clause-page
returns-clause-page c =
    subst (λ o. IsPageOf c.of-stream.result (coming_after c.advance-event.result c.args.count o)) c.coming-coming.ensures (subst (λ o. IsPageOf c.of-stream.result o) c.coming_after.ensures c.of-stream.ensures)

pub returns-clause-within : goal.returns-clause-within
returns-clause-within c = within c.args.stream.now c.coming-coming.result c.advance-event.result c.args.count (sym c.coming-coming.ensures) c.advance-event.ensures.continues
