use Rattle.std.proofs.Common.{length, ◌∙◌, ap}
use Rattle.a64_word.specs.Words.{words_of}
use Rattle.lfi_check.proofs.Spelled.{lawful}
use Rattle.lfi_check.proofs.verdict.judge_code.Goals as goal

pub returns-in-None : goal.returns-in-None
returns-in-None c =
    let same = c.in-Some.ensures.some.1 in
    (c.in-Some.ensures.some.0, c.len_words-words.ensures.count ∙ ap (λ xs. length (words_of xs)) same, lawful c.args.profile _ _ same c.in-None.ensures)
