use Rattle.std.proofs.Common.{◌≡◌, ◌+◌, ◌<◌, ap, sym, ◌∙◌, subst, length, take, arith, None}
use Rattle.std.proofs.lemmas.List.{take_all, take-map, length-map}
use Rattle.lfi_reference.specs.Messages.{extent_by}
use Rattle.lfi_rules.specs.Verdicts.{all_words}
use Rattle.lfi_rules.specs.Faults.{FirstFault}
use Rattle.lfi_model.specs.Outcomes.{Placed}
use Rattle.lfi_model.proofs.Faults.{placed_whole}
use Rattle.lfi_reference.specs.Pages.{pages_by}
use Rattle.lfi_reference.proofs.Pages.{placed_seen, none_seen, words_within}
use Rattle.lfi_reference.proofs.words.placed.Goals as goal

pub first_fault-requires-clause-room : goal.first_fault-requires-clause-room
first_fault-requires-clause-room c =
    let words : c.in_ok-words.words.items ≡ all_words (pages_by (take (c.loop-count.count + 1) c.args.pages.now)) = c.in_ok-words.ensures ∙ ap (λ l. all_words (pages_by l)) c.split_at.ensures.front in
    let len = ap length words in
    omega (arith, len, words_within c.args.pages.now (c.loop-count.count + 1), c.requires.room)

pub returns-then-is_some-clause-longest : goal.returns-then-is_some-clause-longest
returns-then-is_some-clause-longest c =
    let pages = c.args.pages.now in let n = extent_by c.args.extent in let i = c.loop-count.count in
    let words : c.in_ok-words.words.items ≡ all_words (take (i + 1) (pages_by pages)) =
    c.in_ok-words.ensures ∙ ap (λ l. all_words (pages_by l)) c.split_at.ensures.front ∙ ap all_words (sym (take-map (λ p. p.items) (i + 1) pages)) in
    let below : i < length (pages_by pages) = omega (arith, length-map pages (λ p. p.items)) in
    let lawful : FirstFault n.profile (all_words (take i (pages_by pages))) n.words None = subst (λ l. FirstFault n.profile (all_words l) n.words None) (sym (take-map (λ p. p.items) i pages)) c.loop-count.invariant in
    placed_seen n (pages_by pages) i c.first_fault.result (sym c.is_some.ensures ∙ c.if-is_some.true) below lawful (subst (λ ws. FirstFault n.profile ws n.words c.first_fault.result) words c.first_fault.ensures)

pub loop-count-preserved : goal.loop-count-preserved
loop-count-preserved c =
    let words : c.in_ok-words.words.items ≡ all_words (pages_by (take (c.loop-count.count + 1) c.args.pages.now)) = c.in_ok-words.ensures ∙ ap (λ l. all_words (pages_by l)) c.split_at.ensures.front in
    none_seen (all_words (pages_by (take (c.loop-count.count + 1) c.args.pages.now))) (extent_by c.args.extent) c.first_fault.result (sym c.is_some.ensures ∙ c.if-is_some.false)
    (subst (λ ws. FirstFault c.args.extent.profile ws c.args.extent.words c.first_fault.result) words c.first_fault.ensures)

pub returns-clause-longest : goal.returns-clause-longest
returns-clause-longest c =
    let pages = c.args.pages.now in let n = extent_by c.args.extent in
    let all : take c.loop-count.count pages ≡ pages = take_all c.loop-count.count pages (omega arith) in
    let whole : Placed n (pages_by pages) (pages_by pages) = placed_whole n (pages_by pages) (subst (λ l. FirstFault n.profile (all_words (pages_by l)) n.words None) all c.loop-count.invariant) in
    let same : pages_by pages ≡ take (length pages) (pages_by pages) = sym (take_all (length pages) (pages_by pages) (omega (arith, length-map pages (λ p. p.items)))) in
    subst (λ l. Placed n (pages_by pages) l) same whole
