use Rattle.std.proofs.Common.{rules, ◌≡◌, ℕ, List, ◌++◌, length, take, arith, ap, sym, subst, ◌∙◌, ◌<◌, inl}
use Rattle.std.proofs.lemmas.List.{length-take}
use Rattle.lfi_frame.specs.Streams.{AreBytes, header_at, header_fault}
use Rattle.lfi_frame.specs.Feeds.{IsAt, answer_to, fault_at, position_after}
use Rattle.std.proofs.lemmas.Grind.{common_steps}
use Rattle.lfi_frame.specs.declared.feed.Feed.{Feed}
use Rattle.lfi_frame.proofs.Cuts.{rest_short}
use Rattle.lfi_frame.proofs.Feeding.{header_told, header_failed, joined_small}
use Rattle.lfi_frame.proofs.Told.{fault_of, none_of, brings_some}
use Rattle.lfi_frame.proofs.feed.Feed.feed_header.Goals as goal

pub returns-in-Ok-clause-told : goal.returns-in-Ok-clause-told
returns-in-Ok-clause-told c = λ messages rest stands.
    let old : Feed = c.args.self.now in
    let new : Feed = c.begin.new.self in
    let at_header = subst (λ p. IsAt old.held p rest) c.requires stands.position in
    let a = c.fill.ensures.after in
    let a2 = c.fill.ensures.len in
    let b = c.begin.ensures.held in
    let used : List ℕ = take c.min-used.result c.args.piece.now in
    let text : rest ++ used ≡ new.held = grind (arith, common_steps) in
    let twelve : length new.held ≡ 12 = grind (arith, common_steps) in
    let bytes : AreBytes c.args.piece.now = λ i. (let fits = c.type_inv.piece i in search rules) in
    let small : AreBytes (rest ++ used) = joined_small rest c.args.piece.now c.min-used.result at_header.2 bytes in
    header_told new messages rest used stands.each (ap length text ∙ twelve) small c.in-Ok.got
    (sym c.in-Ok.is ∙ c.begin.ensures.answer ∙ ap (λ l. answer_to (header_at l)) (sym b ∙ sym text))
    (c.begin.ensures.position ∙ ap (λ l. position_after (header_at l)) (sym b ∙ sym text))

pub returns-in-Err-clause-told : goal.returns-in-Err-clause-told
returns-in-Err-clause-told c = λ messages rest stands.
    let old : Feed = c.args.self.now in
    let new : Feed = c.begin.new.self in
    let at_header = subst (λ p. IsAt old.held p rest) c.requires stands.position in
    let a = c.fill.ensures.after in
    let a2 = c.fill.ensures.len in
    let b = c.begin.ensures.held in
    let used : List ℕ = take c.min-used.result c.args.piece.now in
    let text : rest ++ used ≡ new.held = grind (arith, common_steps) in
    let twelve : length new.held ≡ 12 = grind (arith, common_steps) in
    let bytes : AreBytes c.args.piece.now = λ i. (let fits = c.type_inv.piece i in search rules) in
    let small : AreBytes (rest ++ used) = joined_small rest c.args.piece.now c.min-used.result at_header.2 bytes in
    header_failed new messages rest used stands.each (ap length text ∙ twelve) small c.in-Err.fault
    (sym c.in-Err.is ∙ c.begin.ensures.answer ∙ ap (λ l. answer_to (header_at l)) (sym b ∙ sym text))
    (c.begin.ensures.position ∙ ap (λ l. position_after (header_at l)) (sym b ∙ sym text))

pub returns-then-filled-lt-HEADER_BYTES-clause-told : goal.returns-then-filled-lt-HEADER_BYTES-clause-told
returns-then-filled-lt-HEADER_BYTES-clause-told c = λ messages rest stands.
    let old : Feed = c.args.self.now in
    let at_header = subst (λ p. IsAt old.held p rest) c.requires stands.position in
    let a = c.fill.ensures.after in
    let a2 = c.fill.ensures.len in
    let used : List ℕ = take c.min-used.result c.args.piece.now in
    let bytes : AreBytes c.args.piece.now = λ i. (let fits = c.type_inv.piece i in search rules) in
    let small : AreBytes (rest ++ used) = joined_small rest c.args.piece.now c.min-used.result at_header.2 bytes in
    let few : length (rest ++ used) < 12 = grind (arith, common_steps) in
    (record { each = stands.each; position = (search rules, grind (arith, common_steps), small) }, inl (rest_short (rest ++ used) few))

pub returns-in-Ok-clause-fault : goal.returns-in-Ok-clause-fault
returns-in-Ok-clause-fault c =
    let h = header_at c.begin.new.self.held in
    ap fault_at (c.begin.ensures.position ∙ ap (λ l. position_after (header_at l)) (sym c.begin.ensures.held))
    ∙ none_of (header_fault h) h c.in-Ok.got (sym c.in-Ok.is ∙ c.begin.ensures.answer ∙ ap (λ l. answer_to (header_at l)) (sym c.begin.ensures.held))

pub returns-in-Ok-clause-range : goal.returns-in-Ok-clause-range
returns-in-Ok-clause-range c = c.in-Ok.ensures.range

pub returns-in-Ok-clause-whole : goal.returns-in-Ok-clause-whole
returns-in-Ok-clause-whole c = λ more.
    let h = header_at c.begin.new.self.held in
    absurd ((brings_some (header_fault h) h c.in-Ok.got (sym c.in-Ok.is ∙ c.begin.ensures.answer ∙ ap (λ l. answer_to (header_at l)) (sym c.begin.ensures.held))).0 more)

pub returns-in-Ok-clause-payload : goal.returns-in-Ok-clause-payload
returns-in-Ok-clause-payload c = λ goes_on.
    let h = header_at c.begin.new.self.held in
    absurd ((brings_some (header_fault h) h c.in-Ok.got (sym c.in-Ok.is ∙ c.begin.ensures.answer ∙ ap (λ l. answer_to (header_at l)) (sym c.begin.ensures.held))).1 goes_on)

pub returns-in-Err-clause-fault : goal.returns-in-Err-clause-fault
returns-in-Err-clause-fault c =
    let h = header_at c.begin.new.self.held in
    ap fault_at (c.begin.ensures.position ∙ ap (λ l. position_after (header_at l)) (sym c.begin.ensures.held))
    ∙ fault_of (header_fault h) h c.in-Err.fault (sym c.in-Err.is ∙ c.begin.ensures.answer ∙ ap (λ l. answer_to (header_at l)) (sym c.begin.ensures.held))

pub returns-in-Err-clause-header : goal.returns-in-Err-clause-header
returns-in-Err-clause-header c = λ messages rest stands.
    let at_header = subst (λ p. IsAt c.args.self.now.held p rest) c.requires stands.position in
    let less = at_header.0 in
    let long = ap length at_header.1 ∙ length-take c.args.filled c.args.self.now.held in
    omega arith
