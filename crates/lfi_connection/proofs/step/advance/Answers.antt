use Rattle.std.proofs.Common.{length, ◌++◌, arith, subst}
use Rattle.lfi_frame.specs.Streams.{open_message, close_message}
use Rattle.lfi_frame.specs.Feeds.{IsTold}
use Rattle.lfi_frame.proofs.Feeding.{nothing_after}
use Rattle.lfi_connection.specs.Events.{Answers}
use Rattle.lfi_connection.proofs.Told.{more_moves, message_moves, header_moves, payload_moves}
use Rattle.lfi_connection.proofs.step.advance.Goals as goal

pub returns-in-More-clause-moves : goal.returns-in-More-clause-moves
returns-in-More-clause-moves g c = λ feed claimed ms rest used size some fits holds was.
    let told = subst (λ z. IsTold z feed ms rest used) c.in-More.is was in
    more_moves feed (g.P.ProgressTable.progress_at c.args.table.now) c.args.coming.now claimed ms rest used holds told.0 told.1

pub returns-in-Open-clause-moves : goal.returns-in-Open-clause-moves
returns-in-Open-clause-moves g c = λ feed claimed ms rest used size some fits holds was.
    let told = subst (λ z. IsTold z feed ms rest used) c.in-Open.is was in
    let free = subst (λ z. Answers z c.args.is_free claimed (g.P.ProgressTable.progress_at c.args.table.now)) c.in-Open.is fits in
    message_moves feed (g.P.ProgressTable.progress_at c.args.table.now) (g.P.ProgressTable.progress_at c.«open».new.table) c.args.coming.now claimed ms rest used (open_message c.in-Open.«module» c.in-Open.extent) c.«open».result
    (some (λ e. absurd (let is = c.in-Open.is in cc))) (omega arith) told.1 told.0 holds c.«open».ensures.plain c.«open».ensures.follows c.«open».ensures.comes (λ payload h. c.«open».ensures.holds c.args.coming.now claimed ms payload free h)

pub returns-in-Close-clause-moves : goal.returns-in-Close-clause-moves
returns-in-Close-clause-moves g c = λ feed claimed ms rest used size some fits holds was.
    let told = subst (λ z. IsTold z feed ms rest used) c.in-Close.is was in
    message_moves feed (g.P.ProgressTable.progress_at c.args.table.now) (g.P.ProgressTable.progress_at c.close.new.table) c.args.coming.now claimed ms rest used (close_message c.in-Close.«module») c.close.result
    (some (λ e. absurd (let is = c.in-Close.is in cc))) (omega arith) told.1 told.0 holds c.close.ensures.plain c.close.ensures.follows c.close.ensures.comes (λ payload h. c.close.ensures.holds c.args.coming.now claimed ms payload h)

pub returns-in-Page-clause-moves : goal.returns-in-Page-clause-moves
returns-in-Page-clause-moves g c = λ feed claimed ms rest used size some fits holds was.
    let told = subst (λ z. IsTold z feed ms rest used) c.in-Page.is was in
    header_moves feed (g.P.ProgressTable.progress_at c.args.table.now) (g.P.ProgressTable.progress_at c.page.new.table) c.args.coming.now claimed ms rest used c.page.result
    (some (λ e. absurd (let is = c.in-Page.is in cc))) told.1 told.0 holds c.page.ensures.plain c.page.ensures.follows (λ payload h. c.page.ensures.holds c.args.coming.now claimed ms (rest ++ used) payload (length used) h told.2 (nothing_after (rest ++ used) told.1))

pub returns-in-Payload-clause-moves : goal.returns-in-Payload-clause-moves
returns-in-Payload-clause-moves g c = λ feed claimed ms rest used size some fits holds was.
    let told = subst (λ z. IsTold z feed ms rest used) c.in-Payload.is was in
    payload_moves feed (g.P.ProgressTable.progress_at c.args.table.now) (g.P.ProgressTable.progress_at c.payload.new.table) c.args.coming.now claimed ms rest used c.payload.result c.in-Payload.ended holds c.payload.ensures.follows told
    (λ m page_size index len part is is'. c.payload.ensures.more claimed ms rest used m page_size index len part size holds is is')
    (λ m page_size index len all is long. c.payload.ensures.whole claimed ms rest used m page_size index len all size holds is long)
