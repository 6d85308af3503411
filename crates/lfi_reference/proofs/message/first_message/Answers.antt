use Rattle.std.proofs.Common.{◌≡◌, ◌-◌, rules, arith, ap, ◌∙◌, sym, subst, length, take, drop}
use Rattle.std.proofs.lemmas.List.{take_all, length-drop}
use Rattle.lfi_frame.specs.Streams.{AreBytes, rest_of, whole, header_at, open_message, page_message}
use Rattle.lfi_reference.specs.Messages.{Begins}
use Rattle.lfi_reference.proofs.Messages.{begins_open, begins_page, begins_close, header_front}
use Rattle.lfi_reference.proofs.message.first_message.Goals as goal

pub returns : goal.returns
returns c =
    let bytes = c.args.bytes.now in
    let small : AreBytes bytes = λ i. (let fits = c.type_inv.bytes i in search rules) in
    let w : rest_of bytes ≡ whole = search rules in
    let first = c.in-Some.ensures.cases in
    let is : c.read-header.result ≡ header_at bytes = c.read-header.ensures ∙ header_front bytes _ first.enough first.same in
    subst (λ extent. Begins bytes (open_message c.read-header.result.«module» extent) (take (length bytes - 12) (drop 12 bytes))) (sym c.extent_of.ensures)
    (begins_open bytes (take (length bytes - 12) (drop 12 bytes)) c.read-header.result small w is (sym c.is_page.ensures ∙ c.if-is_page.false) c.if-header-eq3.false
    (take_all (length bytes - 12) (drop 12 bytes) (omega (arith, length-drop 12 bytes))))

pub returns-then-is_page : goal.returns-then-is_page
returns-then-is_page c =
    let bytes = c.args.bytes.now in
    let small : AreBytes bytes = λ i. (let fits = c.type_inv.bytes i in search rules) in
    let w : rest_of bytes ≡ whole = search rules in
    let first = c.in-Some.ensures.cases in
    let is : c.read-header.result ≡ header_at bytes = c.read-header.ensures ∙ header_front bytes _ first.enough first.same in
    let d = take_all (length bytes - 12) (drop 12 bytes) (omega (arith, length-drop 12 bytes)) in
    subst (λ size. Begins bytes (page_message c.read-header.result.«module» size c.read-header.result.a c.in_ok-payload.payload.items) c.split_at.result.1.now) (sym c.is_large.ensures)
    (begins_page bytes _ _ c.read-header.result small w is (sym c.is_page.ensures ∙ c.if-is_page.true)
    (c.in_ok-payload.ensures.items ∙ c.split_at.ensures.front ∙ ap (λ l. take c.read-header.result.b l) d)
    (c.split_at.ensures.back ∙ ap (λ l. drop c.read-header.result.b l) d))

pub returns-then-header-eq3 : goal.returns-then-header-eq3
returns-then-header-eq3 c =
    let bytes = c.args.bytes.now in
    let small : AreBytes bytes = λ i. (let fits = c.type_inv.bytes i in search rules) in
    let w : rest_of bytes ≡ whole = search rules in
    let first = c.in-Some.ensures.cases in
    let is : c.read-header.result ≡ header_at bytes = c.read-header.ensures ∙ header_front bytes _ first.enough first.same in
    begins_close bytes _ c.read-header.result small w is c.if-header-eq3.true (take_all (length bytes - 12) (drop 12 bytes) (omega (arith, length-drop 12 bytes)))
