use Rattle.std.proofs.Common.{◌≡◌, ◌∙◌, ◌-◌, ◌*◌, ◌/◌, length, min, subst, sym, arith}
use Rattle.a64_word.specs.Words.{words_of}
use Rattle.a64_word.proofs.WordLaws.{words_count}
use Rattle.page_buf.specs.Page.{PageView}
use Rattle.lfi_model.specs.Item.{KindFits, IfPage, kind_seen}
use Rattle.lfi_model.specs.declared.item.ItemKind.TheVariants.{Page}
use Rattle.lfi_model.proofs.judged.Item.judge.Goals as goal

pub judge-requires : goal.judge-requires
judge-requires c =
    let i = c.self.inside in
    let f : KindFits i.extent.pages i.extent.words i.ordinal (Page c.in-Page.page.bytes) = subst (λ k. KindFits i.extent.pages i.extent.words i.ordinal (kind_seen (λ (page : PageView). page.bytes) k)) c.in-Page.is c.self.invariant.item.kind_fits in
    let sized : c.in-Page.page.size ≡ i.extent.pages = subst (λ k. IfPage (λ (page : PageView). page.size ≡ i.extent.pages) k) c.in-Page.is c.self.invariant.page in
    let count : length c.in-Page.page.bytes / 4 ≡ length (words_of c.in-Page.page.bytes) = words_count c.in-Page.page.bytes in
    let long : length c.in-Page.page.bytes ≡ 4 * min i.extent.pages (i.extent.words - i.extent.pages * (i.ordinal - 1)) = f.1 in
    let due : length (words_of c.in-Page.page.bytes) ≡ min i.extent.pages (i.extent.words - i.extent.pages * (i.ordinal - 1)) = omega arith in
    let words : c.words.result ≡ i.extent.pages = c.words.ensures.value ∙ c.pages.ensures.value in
    record { sized = sized; due = due ∙ (λ j. min i.extent.pages (i.extent.words - sym words j * (i.ordinal - 1))) }
