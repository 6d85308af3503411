use Rattle.std.proofs.Common.{rules, refl, arith, false, ◌≡◌, ◌+◌, ◌-◌, ◌<◌, ◌≤◌, [], ◌∷◌, ◌++◌, length, min, None, ap, sym, ◌∙◌, subst, vec_capacity}
use Rattle.std.specs.Vec.{vec_len}
use Rattle.std.proofs.lemmas.Bool.{both_ways}
use Rattle.lfi_module.specs.Pages.{page_count, words_due}
use Rattle.a64_word.specs.Words.{words_of}
use Rattle.page_buf.specs.Page.{PageView}
use Rattle.lfi_rules.specs.Faults.{FirstFault}
use Rattle.lfi_rules.specs.Verdicts.{Judges}
use Rattle.lfi_image.specs.Built.{words_in}
use Rattle.lfi_image.specs.inner.Builders.{IsBuilt}
use Rattle.lfi_image.proofs.Building.{words_in-more, placed_is, built_more, room_for_page, judged_there, told_of}
use Rattle.lfi_image.proofs.builder.Builder.append.Goals as goal

pub returns-in-Some-clause-fault : goal.returns-in-Some-clause-fault
returns-in-Some-clause-fault c =
    let page : PageView = c.args.page.page in
    let w : words_in c.self.inside.pages.items ≡ c.args.self.now.placed = search rules in
    let n : c.self.inside.extent.words ≡ c.args.self.now.extent.words = search rules in
    let p : c.self.inside.extent.profile ≡ c.args.self.now.extent.profile = search rules in
    let count : c.len_words-count.result ≡ length (words_of page.bytes) = c.len_words-count.ensures.count ∙ ap (λ (p : PageView). length (words_of p.bytes)) c.into_parts-page.ensures.page in
    let judged : Judges c.self.inside.extent.profile (words_of page.bytes) (length (words_in c.self.inside.pages.items)) c.self.inside.extent.words c.into_parts-page.result.1 =
    judged_there _ _ _ _ _ _ _ _ (ap (λ z. z.profile) c.requires.module ∙ sym p) (c.requires.place ∙ ap length (sym w)) (ap (λ z. z.words) c.requires.module ∙ sym n) c.into_parts-page.ensures.verdict in
    let many : c.number.result ≡ c.self.inside.extent.words = c.number.ensures.value ∙ c.words.ensures in
    let found : FirstFault c.self.inside.extent.profile (words_in c.self.inside.pages.items ++ words_of page.bytes) c.self.inside.extent.words c.fault_after.result =
    subst (λ k. FirstFault c.self.inside.extent.profile (words_in c.self.inside.pages.items ++ words_of page.bytes) k c.fault_after.result) many
    (c.fault_after.ensures.first c.self.inside.extent.profile (words_in c.self.inside.pages.items) (words_of page.bytes)
    (subst (λ k. FirstFault c.self.inside.extent.profile (words_in c.self.inside.pages.items) k None) (sym many) c.self.invariant.0.faultless) c.self.invariant.0.leaves
    (subst (λ k. Judges c.self.inside.extent.profile (words_of page.bytes) (length (words_in c.self.inside.pages.items)) k c.into_parts-page.result.1) (sym many) judged) count) in
    told_of _ _ _ _ _ _ _ _ _ p w n c.in-Some.is found

pub invariant_of-self : goal.invariant_of-self
invariant_of-self c =
    let page : PageView = c.args.page.page in
    let w : words_in c.self.inside.pages.items ≡ c.args.self.now.placed = search rules in
    let n : c.self.inside.extent.words ≡ c.args.self.now.extent.words = search rules in
    let p : c.self.inside.extent.profile ≡ c.args.self.now.extent.profile = search rules in
    let count : c.len_words-count.result ≡ length (words_of page.bytes) = c.len_words-count.ensures.count ∙ ap (λ (p : PageView). length (words_of p.bytes)) c.into_parts-page.ensures.page in
    let judged : Judges c.self.inside.extent.profile (words_of page.bytes) (length (words_in c.self.inside.pages.items)) c.self.inside.extent.words c.into_parts-page.result.1 =
    judged_there _ _ _ _ _ _ _ _ (ap (λ z. z.profile) c.requires.module ∙ sym p) (c.requires.place ∙ ap length (sym w)) (ap (λ z. z.words) c.requires.module ∙ sym n) c.into_parts-page.ensures.verdict in
    let many : c.number.result ≡ c.self.inside.extent.words = c.number.ensures.value ∙ c.words.ensures in
    let found : FirstFault c.self.inside.extent.profile (words_in c.self.inside.pages.items ++ words_of page.bytes) c.self.inside.extent.words c.fault_after.result =
    subst (λ k. FirstFault c.self.inside.extent.profile (words_in c.self.inside.pages.items ++ words_of page.bytes) k c.fault_after.result) many
    (c.fault_after.ensures.first c.self.inside.extent.profile (words_in c.self.inside.pages.items) (words_of page.bytes)
    (subst (λ k. FirstFault c.self.inside.extent.profile (words_in c.self.inside.pages.items) k None) (sym many) c.self.invariant.0.faultless) c.self.invariant.0.leaves
    (subst (λ k. Judges c.self.inside.extent.profile (words_of page.bytes) (length (words_in c.self.inside.pages.items)) k c.into_parts-page.result.1) (sym many) judged) count) in
    let none : FirstFault c.self.inside.extent.profile (words_in c.self.inside.pages.items ++ words_of page.bytes) c.self.inside.extent.words None = subst (λ f. FirstFault c.self.inside.extent.profile (words_in c.self.inside.pages.items ++ words_of page.bytes) c.self.inside.extent.words f) c.in_default.is found in
    let due0 : length (words_of page.bytes) ≡ words_due c.args.self.now.extent.pages c.args.self.now.extent.words (length c.args.self.now.placed) = c.into_parts-page.ensures.due ∙ (λ i. words_due (c.requires.module i).pages (c.requires.module i).words (c.requires.place i)) in
    let z : c.self.inside.extent.pages ≡ c.args.self.now.extent.pages = search rules in
    let placed : c.self.inside.placed ≡ length c.args.self.now.placed = placed_is _ _ _ _ _ _ _ _ _ _ c.self.invariant.0 w n in
    let due : length (words_of page.bytes) ≡ min c.self.inside.extent.pages (c.self.inside.extent.words - c.self.inside.placed) = due0 ∙ (λ i. words_due (sym z i) (sym n i) (sym placed i)) in
    let leaves = c.leave-self-inside.ensures.left c.self.inside.extent.profile (words_in c.self.inside.pages.items) (words_of page.bytes) c.self.inside.extent.words c.self.invariant.0.leaves judged in
    let built = built_more c.self.inside.extent.profile c.self.inside.extent.pages c.self.inside.extent.words c.self.inside.extent.entry c.self.inside.slot c.self.inside.placed c.self.inside.tail c.leave-self-inside.result c.self.inside.pages.items page c.self.invariant.0 judged.some leaves none due in
    let pushed : c.push.new.self.items ≡ c.self.inside.pages.items ++ c.into_parts-page.result.0 ∷ [] = search rules in
    let items : c.push.new.self.items ≡ c.self.inside.pages.items ++ page ∷ [] = pushed ∙ ap (λ p. c.self.inside.pages.items ++ p ∷ []) c.into_parts-page.ensures.page in
    let grown : page_count c.self.inside.extent.pages c.self.inside.extent.words ≤ vec_capacity c.push.new.self = omega (arith, c.push.ensures.capacity, c.self.invariant.1) in (
      subst (λ l. IsBuilt c.self.inside.extent.profile c.self.inside.extent.pages c.self.inside.extent.words c.self.inside.extent.entry c.self.inside.slot (c.self.inside.placed + c.len_words-count.result) c.leave-self-inside.result l) (sym items)
          (subst (λ m. IsBuilt c.self.inside.extent.profile c.self.inside.extent.pages c.self.inside.extent.words c.self.inside.extent.entry c.self.inside.slot (c.self.inside.placed + m) c.leave-self-inside.result (c.self.inside.pages.items ++ page ∷ [])) (sym count) built),
      grown,
    )

pub returns-clause-placed : goal.returns-clause-placed
returns-clause-placed c =
    let page : PageView = c.args.page.page in
    let w : words_in c.self.inside.pages.items ≡ c.args.self.now.placed = search rules in
    let extent : c.self.inside.extent ≡ c.args.self.now.extent = search rules in
    let slot : c.self.inside.slot ≡ c.args.self.now.slot = search rules in
    let pushed : c.push.new.self.items ≡ c.self.inside.pages.items ++ c.into_parts-page.result.0 ∷ [] = search rules in
    let items : c.push.new.self.items ≡ c.self.inside.pages.items ++ page ∷ [] = pushed ∙ ap (λ p. c.self.inside.pages.items ++ p ∷ []) c.into_parts-page.ensures.page in
    let words : words_in c.push.new.self.items ≡ c.args.self.now.placed ++ words_of page.bytes = ap words_in items ∙ words_in-more c.self.inside.pages.items page ∙ ap (λ l. l ++ words_of page.bytes) w in
    (λ i. record { extent = extent i; slot = slot i; placed = words i })

pub returns-clause-faultless : goal.returns-clause-faultless
returns-clause-faultless c =
    let page : PageView = c.args.page.page in
    let w : words_in c.self.inside.pages.items ≡ c.args.self.now.placed = search rules in
    let n : c.self.inside.extent.words ≡ c.args.self.now.extent.words = search rules in
    let p : c.self.inside.extent.profile ≡ c.args.self.now.extent.profile = search rules in
    let count : c.len_words-count.result ≡ length (words_of page.bytes) = c.len_words-count.ensures.count ∙ ap (λ (p : PageView). length (words_of p.bytes)) c.into_parts-page.ensures.page in
    let judged : Judges c.self.inside.extent.profile (words_of page.bytes) (length (words_in c.self.inside.pages.items)) c.self.inside.extent.words c.into_parts-page.result.1 =
    judged_there _ _ _ _ _ _ _ _ (ap (λ z. z.profile) c.requires.module ∙ sym p) (c.requires.place ∙ ap length (sym w)) (ap (λ z. z.words) c.requires.module ∙ sym n) c.into_parts-page.ensures.verdict in
    let many : c.number.result ≡ c.self.inside.extent.words = c.number.ensures.value ∙ c.words.ensures in
    let found : FirstFault c.self.inside.extent.profile (words_in c.self.inside.pages.items ++ words_of page.bytes) c.self.inside.extent.words c.fault_after.result =
    subst (λ k. FirstFault c.self.inside.extent.profile (words_in c.self.inside.pages.items ++ words_of page.bytes) k c.fault_after.result) many
    (c.fault_after.ensures.first c.self.inside.extent.profile (words_in c.self.inside.pages.items) (words_of page.bytes)
    (subst (λ k. FirstFault c.self.inside.extent.profile (words_in c.self.inside.pages.items) k None) (sym many) c.self.invariant.0.faultless) c.self.invariant.0.leaves
    (subst (λ k. Judges c.self.inside.extent.profile (words_of page.bytes) (length (words_in c.self.inside.pages.items)) k c.into_parts-page.result.1) (sym many) judged) count) in
    told_of _ _ _ _ _ _ _ _ _ p w n c.in_default.is found

pub unreachable-requires : goal.unreachable-requires
unreachable-requires c =
    let page : PageView = c.args.page.page in
    let w : words_in c.self.inside.pages.items ≡ c.args.self.now.placed = search rules in
    let n : c.self.inside.extent.words ≡ c.args.self.now.extent.words = search rules in
    let p : c.self.inside.extent.profile ≡ c.args.self.now.extent.profile = search rules in
    let due : length (words_of page.bytes) ≡ words_due c.args.self.now.extent.pages c.args.self.now.extent.words (length c.args.self.now.placed) = c.into_parts-page.ensures.due ∙ (λ i. words_due (c.requires.module i).pages (c.requires.module i).words (c.requires.place i)) in
    let long : length c.self.inside.pages.items ≡ vec_len c.self.inside.pages = search rules in
    let placed : c.self.inside.placed ≡ length c.args.self.now.placed = placed_is _ _ _ _ _ _ _ _ _ _ c.self.invariant.0 w n in
    let room : c.self.inside.placed < c.self.inside.extent.words = omega (arith, due, c.into_parts-page.ensures.verdict.some, n, placed) in
    let place : length c.self.inside.pages.items < page_count c.self.inside.extent.pages c.self.inside.extent.words = room_for_page _ _ _ _ _ _ _ _ c.self.invariant.0 room in
    let less : vec_len c.self.inside.pages < vec_capacity c.self.inside.pages = omega (arith, place, long, c.self.invariant.1) in
    both_ways false refl (c.in-Err.ensures.succeeds less)
