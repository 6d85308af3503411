use Rattle.std.proofs.Common.{rules, ◌≡◌, ◌/◌, ◌%◌, ◌<◌, [], length, get_or, ap, sym, subst, ◌∙◌}
use Rattle.std.specs.Vec.{vec_len}
use Rattle.a64_word.specs.Words.{words_of}
use Rattle.page_buf.specs.Page.{PageView}
use Rattle.lfi_image.specs.Built.{words_in}
use Rattle.lfi_image.proofs.Building.{at_size}
use Rattle.lfi_image.proofs.builder.Builder.word.Goals as goal

pub index-requires : goal.index-requires
index-requires c =
    let size : c.words-size.result ≡ c.self.inside.extent.pages = c.words-size.ensures.value ∙ c.pages.ensures.value in
    let w : words_in c.self.inside.pages.items ≡ c.args.self.now.placed = search rules in
    let within : c.args.i < length (words_in c.self.inside.pages.items) = subst (λ l. c.args.i < length l) (sym w) c.requires in
    let long : length c.self.inside.pages.items ≡ vec_len c.self.inside.pages = search rules in
    subst (λ n. c.args.i / c.words-size.result < n) long (at_size c.words-size.result c.self.inside.extent.pages c.self.inside.pages.items size c.self.invariant.0.sized c.self.invariant.0.full c.args.i (record { size = 0; bytes = [] }) within).0

pub word-requires : goal.word-requires
word-requires c =
    let size : c.words-size.result ≡ c.self.inside.extent.pages = c.words-size.ensures.value ∙ c.pages.ensures.value in
    let w : words_in c.self.inside.pages.items ≡ c.args.self.now.placed = search rules in
    let within : c.args.i < length (words_in c.self.inside.pages.items) = subst (λ l. c.args.i < length l) (sym w) c.requires in
    let page : c.index.result.now ≡ get_or c.self.inside.pages.items (c.args.i / c.words-size.result) c.index.result.now = c.index.ensures in
    subst (λ (p : PageView). c.args.i % c.words-size.result < length (words_of p.bytes)) (sym page) (at_size c.words-size.result c.self.inside.extent.pages c.self.inside.pages.items size c.self.invariant.0.sized c.self.invariant.0.full c.args.i c.index.result.now within).1

pub returns : goal.returns
returns c =
    let size : c.words-size.result ≡ c.self.inside.extent.pages = c.words-size.ensures.value ∙ c.pages.ensures.value in
    let w : words_in c.self.inside.pages.items ≡ c.args.self.now.placed = search rules in
    let within : c.args.i < length (words_in c.self.inside.pages.items) = subst (λ l. c.args.i < length l) (sym w) c.requires in
    let page : c.index.result.now ≡ get_or c.self.inside.pages.items (c.args.i / c.words-size.result) c.index.result.now = c.index.ensures in
    c.word.ensures ∙ ap (λ (p : PageView). get_or (words_of p.bytes) (c.args.i % c.words-size.result) 0) page
    ∙ (at_size c.words-size.result c.self.inside.extent.pages c.self.inside.pages.items size c.self.invariant.0.sized c.self.invariant.0.full c.args.i c.index.result.now within).2 ∙ ap (λ l. get_or l c.args.i 0) w
