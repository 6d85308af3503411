use Rattle.std.proofs.Common.{length, ◌∙◌, ap, arith}
use Rattle.a64_word.specs.Words.{words_of}
use Rattle.a64_word.proofs.WordLaws.{words_count}
use Rattle.lfi_check.proofs.code.Code.len_words.Goals as goal

pub returns-clause-count : goal.returns-clause-count
returns-clause-count c = c.word_count.ensures ∙ ap (λ xs. length (words_of xs)) c.self.view_is

pub returns-clause-range : goal.returns-clause-range
returns-clause-range c =
    let count = words_count c.self.inside.bytes.now in
    let is = c.word_count.ensures in
    let code = c.self.invariant in
    (omega arith, omega arith)
