use Rattle.std.proofs.Common.{◌*◌, ◌<◌, ◌≤◌, ◌++◌, ◌∷◌, [], ap, sym, ◌∙◌, take, length, arith, refl}
use Rattle.std.proofs.lemmas.List.{take_more, take_all}
use Rattle.a64_word.specs.Words.{words_of}
use Rattle.a64_word.proofs.WordLaws.{words_count}
use Rattle.lfi_reference.proofs.Spelled.{words_at}
use Rattle.lfi_reference.proofs.words.words_of.Goals as goal

pub loop-i-preserved : goal.loop-i-preserved
loop-i-preserved c =
    let bytes = c.args.bytes.now in let i = c.loop-i.i in
    let count = words_count bytes in
    let below : i < length (words_of bytes) = omega arith in
    c.in_ok-push.ensures.items
    ∙ ap (λ l. l ++ c.from_le_bytes.result ∷ []) c.loop-i.invariant
    ∙ ap (λ x. take i (words_of bytes) ++ x ∷ []) (c.from_le_bytes.ensures ∙ words_at bytes i (4 * i) refl below)
    ∙ sym (take_more (words_of bytes) i 0 below)

pub returns : goal.returns
returns c =
    let bytes = c.args.bytes.now in
    let count = words_count bytes in
    let all : length (words_of bytes) ≤ c.loop-i.i = omega arith in
    c.loop-i.invariant ∙ take_all c.loop-i.i (words_of bytes) all
