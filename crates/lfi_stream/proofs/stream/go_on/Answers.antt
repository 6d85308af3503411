use Rattle.std.proofs.Common.{arith, ◌≡◌, ◌≢◌, ◌++◌, [], take, length, length-append, length-take, List, ℕ, sym, subst}
use Rattle.lfi_connection.proofs.Texts.{some_used, fault_used}
use Rattle.lfi_connection.specs.Events.{coming_after}
use Rattle.lfi_stream.specs.Numbers.{page_at, IsPageOf}
use Rattle.lfi_stream.proofs.Told.{told, at_fault}
use Rattle.lfi_stream.proofs.stream.go_on.Goals as goal

pub returns-in-Ok-clause-told : goal.returns-in-Ok-clause-told
returns-in-Ok-clause-told c = λ ms rest stands holds.
    let step = c.in-Ok.field-0 in
    let used : List ℕ = take step.used c.args.piece.now in
    let within = c.in-Ok.ensures.within in
    let size : length used ≡ step.used = (let t = length-take step.used c.args.piece.now in omega arith) in
    let event = c.brought-event.result in
    let s = c.brought-event.new.stream in
    let o = page_at c.args.stream.now in
    told c.feed.new.self s c.kept-stream.result o ms rest used event
    (c.brought-event.ensures.moves c.feed.new.self ms rest used size (some_used c.args.piece.now step (c.in-Ok.ensures.moves c.requires) (c.in-Ok.ensures.empty c.requires)) holds (c.in-Ok.ensures.told ms rest stands))
    (subst (λ n. IsPageOf s.page (coming_after event n o)) (sym size) c.brought-event.ensures.page)
    (λ now left s. c.kept-stream.ensures.stands now left s c.in-Ok.ensures.fault)

pub returns-in-Err-clause-told : goal.returns-in-Err-clause-told
returns-in-Err-clause-told c = λ ms rest stands holds.
    let n : ℕ = c.in-Err.used in
    let used : List ℕ = take n c.args.piece.now in
    let some : used ≢ [] = fault_used c.args.piece.now n c.in-Err.fault (c.in-Err.ensures.moves c.requires) (c.in-Err.ensures.empty c.requires) in
    let within = c.in-Err.ensures.within in
    let header = c.in-Err.ensures.header c.requires ms rest stands in
    let twelve : length (rest ++ used) ≡ 12 = (let l = length-append rest used in let t = length-take n c.args.piece.now in omega arith) in
    let tells = c.in-Err.ensures.told ms rest stands in
    at_fault c.args.stream.now c.kept-stream-in-Err.result ms rest used c.in-Err.fault some twelve holds tells.1 (c.kept-stream-in-Err.ensures.fault c.in-Err.fault c.in-Err.ensures.fault)
