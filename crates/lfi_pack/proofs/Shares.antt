-- What a module's messages make of its share.
use Rattle.std.proofs.Common.{◌≡◌, ◌≢◌, ℕ, suc, ◌+◌, ◌-◌, ◌*◌, ◌%◌, ◌<◌, ◌==◌, min, List, [], ◌∷◌, ◌++◌, length, Some, refl, sym, ◌∙◌, ap, inl, inr, arith, append_assoc, append-nil, cond, Bool, true, false}
use Rattle.std.specs.Prelude.{◌&&◌, if◌then◌else◌}
use Rattle.std.specs.Int.{w32, from_le_bytes}
use Rattle.std.specs.List.{filter, fold}
use Rattle.std.proofs.lemmas.Bool.{lt-ltb, eq-eqb}
use Rattle.std.proofs.lemmas.Bool.Decides.{eqb_tells}
use Rattle.std.proofs.lemmas.List.Elements.{filter-append}
use Rattle.std.proofs.lemmas.List.Sums.{fold-append}
use Rattle.a64_word.specs.Words.{words_of}
use Rattle.lfi_module.specs.Extents.{ExtentView}
use Rattle.lfi_module.specs.Pages.{page_count, bytes_in_page, is_due}
use Rattle.lfi_frame.specs.Streams.{Message, open_message, page_message, close_message}
use Rattle.lfi_rules.specs.Verdicts.{all_words}
use Rattle.lfi_model.specs.Item.{ItemView}
use Rattle.lfi_model.specs.declared.item.ItemKind.TheVariants.{Open, Page, End}
use Rattle.lfi_model.specs.declared.item.Reason.TheVariants.{Close, PageFault}
use Rattle.lfi_model.specs.declared.connection.Progress.TheVariants.{Going, Ended}
use Rattle.lfi_model.specs.Items.{Share, nothing_yet, with_item, item_of, after_message, is_of}
use Rattle.lfi_model.specs.Outcomes.{pages_of, end_of}
use Rattle.lfi_pack.specs.Packs.{joined, numbered, messages_of}
use Rattle.lfi_pack.proofs.Messages.{Among, later, first_is}

-- a list of messages that are all of module m, or all of another
mine : (m size k : ℕ) (pages : List (List ℕ)) → filter (is_of m) (numbered m size k pages) ≡ numbered m size k pages
mine m size k [] = refl
mine m size k (page ∷ pages) =
    let rest = filter (is_of m) (numbered m size (k + 1) pages) in
    ap (λ b. cond b (page_message m size k page ∷ rest) rest) (eq-eqb m m refl) ∙ ap (λ l. page_message m size k page ∷ l) (mine m size (k + 1) pages)

other : (m n size k : ℕ) (pages : List (List ℕ)) → (n == m) ≡ false → filter (is_of m) (numbered n size k pages) ≡ []
other m n size k [] apart = refl
other m n size k (page ∷ pages) apart =
    let rest = filter (is_of m) (numbered n size (k + 1) pages) in
    ap (λ b. cond b (page_message n size k page ∷ rest) rest) apart ∙ other m n size (k + 1) pages apart

pub filter_mine : (m : ℕ) (extent : ExtentView) (pages : List (List ℕ)) → filter (is_of m) (messages_of m extent pages) ≡ messages_of m extent pages
filter_mine m extent pages =
    let open_first = open_message m extent in
    let close = close_message m in
    let body = numbered m extent.pages 0 pages ++ close ∷ [] in
    let same : (m == m) ≡ true = eq-eqb m m refl in
    let ends : filter (is_of m) (close ∷ []) ≡ close ∷ [] = ap (λ b. cond b (close ∷ []) []) same in
    let rest : filter (is_of m) body ≡ body = filter-append (is_of m) (numbered m extent.pages 0 pages) (close ∷ []) ∙ ap (λ l. l ++ filter (is_of m) (close ∷ [])) (mine m extent.pages 0 pages) ∙ ap (λ l. numbered m extent.pages 0 pages ++ l) ends in
    ap (λ b. cond b (open_first ∷ filter (is_of m) body) (filter (is_of m) body)) same ∙ ap (λ l. open_first ∷ l) rest

pub filter_other : (m n : ℕ) (extent : ExtentView) (pages : List (List ℕ)) → n ≢ m → filter (is_of m) (messages_of n extent pages) ≡ []
filter_other m n extent pages differs = elim (eqb_tells n m) [
  | inl same ↦ absurd (differs same.1)
  | inr apart ↦
      let open_first = open_message n extent in
      let close = close_message n in
      let body = numbered n extent.pages 0 pages ++ close ∷ [] in
      let ends : filter (is_of m) (close ∷ []) ≡ [] = ap (λ b. cond b (close ∷ []) []) apart.0 in
      let rest : filter (is_of m) body ≡ [] = filter-append (is_of m) (numbered n extent.pages 0 pages) (close ∷ []) ∙ ap (λ l. l ++ filter (is_of m) (close ∷ [])) (other m n extent.pages 0 pages apart.0) ∙ ends in
      ap (λ b. cond b (open_first ∷ filter (is_of m) body) (filter (is_of m) body)) apart.0 ∙ rest
]

-- the items of pages, the first of which is number `index`
abbrev pub page_items : (m : ℕ) → ExtentView → (index : ℕ) → List (List ℕ) → List ItemView
page_items m extent index [] = []
page_items m extent index (page ∷ pages) = item_of m (index + 1) extent (Page page) ∷ page_items m extent (index + 1) pages

-- the items of a whole module
abbrev pub items_made : ℕ → ExtentView → List (List ℕ) → List ItemView
items_made m extent pages = item_of m 0 extent Open ∷ (page_items m extent 0 pages ++ item_of m (length pages + 1) extent (End Close) ∷ [])

abbrev step : Bool → ℕ → Share → Message → Share
step claimed m s message = after_message claimed m s s.progress message

abbrev going : List ItemView → ExtentView → ℕ → Share
going items extent p = record { items = items; strays = 0; progress = Going extent p }

due : (size n p : ℕ) (page : List ℕ) → length page ≡ bytes_in_page size n p → p < page_count size n → (size == size && is_due size n p p (length page)) ≡ true
due size n p page long inside =
    let a = eq-eqb p p refl in
    let b = lt-ltb p (page_count size n) inside in
    let c = eq-eqb (length page) (bytes_in_page size n p) long in
    let d = eq-eqb size size refl in
    λ i. d i && (a i && b i && c i)

pages_step : (m : ℕ) (extent : ExtentView) (p : ℕ) (items : List ItemView) (pages : List (List ℕ)) → Among extent.pages extent.words p pages →
    fold (step true m) (going items extent p) (numbered m extent.pages p pages) ≡ going (items ++ page_items m extent p pages) extent (p + length pages)
pages_step m extent p items [] among = let e : p ≡ p + 0 = omega arith in let same = sym (append-nil items) in λ i. going (same i) extent (e i)
pages_step m extent p items (page ∷ pages) among =
    let n = extent.words in
    let is = first_is extent.pages n p page pages among in
    let item = item_of m (p + 1) extent (Page page) in
    let s = going items extent p in
    let next : Share = going (items ++ item ∷ []) extent (p + 1) in
    let bad : Share = with_item s (item_of m (p + 1) extent (End (PageFault p))) Ended in
    let one : (if extent.pages == extent.pages && is_due extent.pages n p p (length page) then next else bad) ≡ next = ap (λ b. if b then next else bad) (due extent.pages n p page is.0 is.1) in
    let end : (p + 1) + length pages ≡ p + suc (length pages) = omega arith in
    ap (λ t. fold (step true m) t (numbered m extent.pages (p + 1) pages)) one
    ∙ pages_step m extent (p + 1) (items ++ item ∷ []) pages (later extent.pages n p page pages among)
    ∙ (λ i. going (append_assoc items (item ∷ []) (page_items m extent (p + 1) pages) i) extent (end i))

-- what the messages of a module make, where it is claimed
pub share_made : (m : ℕ) (extent : ExtentView) (pages : List (List ℕ)) → Among extent.pages extent.words 0 pages →
    fold (step true m) nothing_yet (messages_of m extent pages) ≡ record { items = items_made m extent pages; strays = 0; progress = Ended }
share_made m extent pages among =
    let first = item_of m 0 extent Open in
    let close = close_message m in
    let body = pages_step m extent 0 (first ∷ []) pages among in
    let end : 0 + length pages ≡ length pages = omega arith in
    fold-append (step true m) (going (first ∷ []) extent 0) (numbered m extent.pages 0 pages) (close ∷ [])
    ∙ ap (λ t. fold (step true m) t (close ∷ [])) (body ∙ ap (λ k. going (first ∷ page_items m extent 0 pages) extent k) end)

-- the words of pages, and their End
words_of-append : (xs ys : List ℕ) → length xs % 4 ≡ 0 → words_of (xs ++ ys) ≡ words_of xs ++ words_of ys
words_of-append (a ∷ b ∷ c ∷ d ∷ rest) ys whole = ap (λ l. from_le_bytes w32 (a ∷ b ∷ c ∷ d ∷ []) ∷ l) (words_of-append rest ys (omega (arith, whole)))
words_of-append (a ∷ b ∷ c ∷ []) ys whole = absurd (omega (arith, whole))
words_of-append (a ∷ b ∷ []) ys whole = absurd (omega (arith, whole))
words_of-append (a ∷ []) ys whole = absurd (omega (arith, whole))
words_of-append [] ys whole = refl

words_from : (m : ℕ) (extent : ExtentView) (p : ℕ) (pages : List (List ℕ)) (last : ItemView) → pages_of (last ∷ []) ≡ [] → Among extent.pages extent.words p pages → all_words (pages_of (page_items m extent p pages ++ last ∷ [])) ≡ words_of (joined pages)
words_from m extent p [] last none among = ap all_words none
words_from m extent p (page ∷ pages) last none among =
    let n = extent.words in
    let is = first_is extent.pages n p page pages among in
    let left = min extent.pages (n - extent.pages * p) in
    let long : length page ≡ 4 * left = is.0 in
    let whole : length page % 4 ≡ 0 = omega (arith, long) in
    ap (λ l. words_of page ++ l) (words_from m extent (p + 1) pages last none (later extent.pages n p page pages among)) ∙ sym (words_of-append page (joined pages) whole)

pub words_made : (m : ℕ) (extent : ExtentView) (pages : List (List ℕ)) → Among extent.pages extent.words 0 pages → all_words (pages_of (items_made m extent pages)) ≡ words_of (joined pages)
words_made m extent pages among = words_from m extent 0 pages (item_of m (length pages + 1) extent (End Close)) refl among

end_from : (m : ℕ) (extent : ExtentView) (p : ℕ) (pages : List (List ℕ)) (last : ItemView) → end_of (page_items m extent p pages ++ last ∷ []) ≡ end_of (last ∷ [])
end_from m extent p [] last = refl
end_from m extent p (page ∷ pages) last = end_from m extent (p + 1) pages last

pub end_made : (m : ℕ) (extent : ExtentView) (pages : List (List ℕ)) → end_of (items_made m extent pages) ≡ Some Close
end_made m extent pages = end_from m extent 0 pages (item_of m (length pages + 1) extent (End Close))
