use Rattle.std.proofs.Common.{◌≡◌, ◌+◌, ◌≤◌, length, sym, subst, ◌∙◌, ap, arith, None}
use Rattle.a64_word.specs.Words.{words_of}
use Rattle.lfi_rules.specs.Verdicts.{Judges}
use Rattle.lfi_check.proofs.Begun.{words_room, nothing, begins_faulty, begins_more}
use Rattle.lfi_check.proofs.beginning.Beginning.with.Goals as goal

pub returns-then-is_some-clause-begins : goal.returns-then-is_some-clause-begins
returns-then-is_some-clause-begins c = λ bytes h.
    begins_faulty c.args.self bytes c.args.piece.now (sym c.is_some.ensures ∙ c.if-is_some.true) c.requires.whole c.requires.room h

pub judge-verdict-requires-clause-room : goal.judge-verdict-requires-clause-room
judge-verdict-requires-clause-room c =
    subst (λ bytes. c.args.self.judged + length (words_of bytes) ≤ c.args.self.words) (sym c.in-Some.ensures.some.1)
    (words_room c.args.piece.now c.args.self.judged c.args.self.words c.requires.room)

pub fault_after-requires-clause-room : goal.fault_after-requires-clause-room
fault_after-requires-clause-room c =
    let same : c.in-Some.code ≡ c.args.piece.now = c.in-Some.ensures.some.1 in
    let count : c.len_words.result ≡ length (words_of c.args.piece.now) = c.len_words.ensures.count ∙ ap (λ bytes. length (words_of bytes)) same in
    let place : c.judge-verdict.result.first ≡ c.args.self.judged = c.judge-verdict.ensures.place in
    let room : c.args.self.judged + length (words_of c.args.piece.now) ≤ c.args.self.words = words_room c.args.piece.now c.args.self.judged c.args.self.words c.requires.room in
    omega arith

pub returns-clause-begins : goal.returns-clause-begins
returns-clause-begins c = λ bytes h.
    let same : c.in-Some.code ≡ c.args.piece.now = c.in-Some.ensures.some.1 in
    let none : c.args.self.fault ≡ None = nothing c.args.self.fault (sym c.is_some.ensures ∙ c.if-is_some.false) in
    let count : c.len_words.result ≡ length (words_of c.args.piece.now) = c.len_words.ensures.count ∙ ap (λ code. length (words_of code)) same in
    begins_more c.args.self bytes c.args.piece.now c.judge-verdict.result c.fault_after.result c.leave.result none c.requires.whole c.requires.room
    (subst (λ code. Judges c.args.self.profile (words_of code) c.args.self.judged c.args.self.words c.judge-verdict.result) same c.judge-verdict.ensures)
    (λ placed page first left judges size. c.fault_after.ensures.first c.args.self.profile placed page first left judges (count ∙ size))
    (λ placed page left judges. c.leave.ensures.left c.args.self.profile placed page c.args.self.words left judges) h
