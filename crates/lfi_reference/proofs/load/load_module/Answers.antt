use Rattle.std.proofs.Common.{◌≡◌, ap, sym, ◌∙◌, subst, length, take, arith}
use Rattle.std.proofs.lemmas.List.{take-map, length-map}
use Rattle.lfi_reference.specs.Messages.{extent_by}
use Rattle.lfi_rules.specs.Faults.{FirstFault}
use Rattle.lfi_rules.specs.Verdicts.{all_words}
use Rattle.lfi_model.specs.Outcomes.{Placed, pages_of, end_of}
use Rattle.lfi_reference.specs.Shares.{items_by}
use Rattle.lfi_reference.specs.Pages.{pages_by, told_by}
use Rattle.lfi_reference.proofs.Loads.{load_is}
use Rattle.lfi_reference.proofs.load.load_module.Goals as goal

pub returns-clause-outcome : goal.returns-clause-outcome
returns-clause-outcome c =
    let items = items_by c.args.items.now in let n = extent_by c.args.extent in
    let words : c.in_ok-words.words.items ≡ all_words (pages_of items) = c.in_ok-words.ensures ∙ ap (λ l. all_words (pages_by l)) c.as_slice.ensures.value ∙ ap all_words c.in_ok-pages.ensures in
    let pages : length c.in_ok-pages.pages.items ≡ length (pages_of items) = sym (length-map c.in_ok-pages.pages.items (λ p. p.items)) ∙ ap length c.in_ok-pages.ensures in
    let count : c.len.result ≡ length (all_words (pages_of items)) = (let e : c.len.result ≡ length c.in_ok-words.words.items = omega (arith, c.len.ensures) in e ∙ ap length words) in
    let many : c.len-2.result ≡ length (pages_of items) = (let e : c.len-2.result ≡ length c.in_ok-pages.pages.items = omega (arith, c.len-2.ensures) in e ∙ pages) in
    load_is n items c.first_fault-fault.result _ (subst (λ ws. FirstFault n.profile ws n.words c.first_fault-fault.result) words c.first_fault-fault.ensures) c.requires.ended
    (c.outcome-outcome.ensures
    ∙ ap (λ e. told_by n.pages n.words c.first_fault-fault.result e c.len.result c.len-2.result) c.end_of.ensures
    ∙ ap (λ w. told_by n.pages n.words c.first_fault-fault.result (end_of items) w c.len-2.result) count
    ∙ ap (λ p. told_by n.pages n.words c.first_fault-fault.result (end_of items) (length (all_words (pages_of items))) p) many)

pub returns-clause-placed : goal.returns-clause-placed
returns-clause-placed c =
    let items = items_by c.args.items.now in let n = extent_by c.args.extent in
    let pages : pages_by c.as_slice-2.result.now ≡ pages_of items = ap pages_by c.as_slice-2.ensures.value ∙ c.in_ok-pages.ensures in
    let longest : Placed n (pages_of items) (take c.in_ok-count.count (pages_of items)) = subst (λ l. Placed n l (take c.in_ok-count.count l)) pages c.in_ok-count.ensures.longest in
    let same : pages_by c.truncate.new.self.items ≡ take c.in_ok-count.count (pages_of items) =
    ap pages_by c.truncate.ensures.items ∙ sym (take-map (λ p. p.items) c.in_ok-count.count c.in_ok-pages.pages.items) ∙ ap (λ l. take c.in_ok-count.count l) c.in_ok-pages.ensures in
    subst (λ l. Placed n (pages_of items) l) (sym same) longest
