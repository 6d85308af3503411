use Rattle.lfi_thread_loops.proofs.Hears.{hearing_as, hearing_on, hearing_same}
use Rattle.lfi_thread_loops.proofs.receiver_loop.receive_once.Goals as goal

pub returns-then-passes-clause-hearing : goal.returns-then-passes-clause-hearing
returns-then-passes-clause-hearing g c = λ whole hearing.
    let did = c.pull-did in
    let pulled = did.ensures in
    let remaining = g.R.Read.remaining in
    let held = c.holds_back.new.receiver in
    let before = hearing_same remaining whole c.args.receiver.now held c.args.input.now c.holds_back.ensures.same hearing in
    hearing_on remaining whole held did.new.self c.args.input.now did.new.input did.result pulled.pulled pulled.over pulled.unread pulled.ended before

pub returns-then-eq-clause-hearing : goal.returns-then-eq-clause-hearing
returns-then-eq-clause-hearing g c = λ whole hearing.
    let did = c.pull-did in
    let pulled = did.ensures in
    let remaining = g.R.Read.remaining in
    let held = c.holds_back.new.receiver in
    let before = hearing_same remaining whole c.args.receiver.now held c.args.input.now c.holds_back.ensures.same hearing in
    hearing_as remaining whole did.new.self c.look_after.new.receiver did.new.input c.look_after.ensures.before
    (hearing_on remaining whole held did.new.self c.args.input.now did.new.input did.result pulled.pulled pulled.over pulled.unread pulled.ended before)

pub returns-clause-hearing : goal.returns-clause-hearing
returns-clause-hearing g c = λ whole hearing.
    let did = c.pull-did in
    let pulled = did.ensures in
    let remaining = g.R.Read.remaining in
    let held = c.holds_back.new.receiver in
    let before = hearing_same remaining whole c.args.receiver.now held c.args.input.now c.holds_back.ensures.same hearing in
    hearing_as remaining whole did.new.self c.look_after.new.receiver did.new.input c.look_after.ensures.before
    (hearing_on remaining whole held did.new.self c.args.input.now did.new.input did.result pulled.pulled pulled.over pulled.unread pulled.ended before)
