-- How many words and pages the items of a module bring.
use Rattle.std.proofs.Common.{◌≡◌, ℕ, ◌+◌, ◌*◌, ◌/◌, ◌<◌, ◌≤◌, List, [], ◌∷◌, ◌++◌, length, refl, sym, ◌∙◌, ap, subst, arith, Option, Some, None, Bool, true, false, cond, length-append, append_assoc, mul-add, inl, inr}
use Rattle.std.specs.Prelude.{◌==◌, ◌&&◌, ◌||◌, not, nat_lt, nat_le, if◌then◌else◌, All}
use Rattle.std.specs.List.{filter, fold}
use Rattle.std.proofs.lemmas.Bool.{eqb-true, ltb-true, ltb-false}
use Rattle.std.proofs.lemmas.List.{append-nil}
use Rattle.std.proofs.lemmas.List.Concat.{flat_map-append}
use Rattle.std.proofs.lemmas.List.Elements.{All-head, All-tail}
use Rattle.lfi_frame.specs.declared.fault.FrameFault.{FrameFault}
use Rattle.lfi_frame.specs.declared.fault.FrameFault.TheVariants as fault
use Rattle.lfi_frame.specs.Streams.{Message, open_message, page_message, close_message, IsMessage, Rest, short, faulty, unfinished, whole, rest_of, is_second, second_byte}
use Rattle.lfi_model.specs.Item.{ItemView}
use Rattle.lfi_model.specs.declared.item.ItemKind.TheVariants.{Open, Page, End}
use Rattle.lfi_model.specs.declared.item.Reason.{Reason}
use Rattle.lfi_model.specs.declared.item.Reason.TheVariants.{Close, PageFault}
use Rattle.lfi_rules.specs.Verdicts.{all_words}
use Rattle.lfi_model.specs.declared.connection.EndCause.{EndCause}
use Rattle.lfi_model.specs.declared.connection.Progress.{Progress}
use Rattle.lfi_model.specs.declared.connection.Progress.TheVariants.{Unclaimed, Going, Ended}
use Rattle.lfi_model.specs.Items.{Share, nothing_yet, with_stray, with_item, item_of, after_page, after_message, after_header, after_rest, is_of, ends_of, reason_of, items_of, share_at, connection_fault}
use Rattle.lfi_module.specs.Extents.{ExtentView}
use Rattle.lfi_module.specs.declared.profile.Profile.{Profile}
use Rattle.lfi_module.specs.declared.profile.Profile.TheVariants.{One, Two}
use Rattle.lfi_module.specs.Numbers.{small_page, large_page}
use Rattle.lfi_module.specs.Pages.{HasPages, page_count, bytes_in_page, is_due}
use Rattle.lfi_model.specs.Outcomes.{page_of, pages_of}
use Rattle.lfi_model.proofs.Faults.{all_words-append}
use Rattle.a64_word.specs.Words.{words_of}
use Rattle.a64_word.proofs.WordLaws.{words_fit}
use Rattle.lfi_reference.specs.Reports.{extent_of, IsSized}

abbrev words_in : List ItemView → ℕ
words_in items = length (all_words (pages_of items))

abbrev pages_in : List ItemView → ℕ
pages_in items = length (pages_of items)

-- what the items of a module of this extent bring, of which p pages have come
record Grows (items : List ItemView) (n : ExtentView) (p : ℕ) : Type 0 where
  most : n.words ≤ 4194304
  fits : words_in items ≤ n.words
  few : words_in items ≤ n.pages * p
  pages : pages_in items ≤ p
  within : p ≤ n.words
  sized : HasPages n.profile n.pages
  count : (more : List ItemView) → extent_of (items ++ more) ≡ n

abbrev Stands : Progress → List ItemView → Type 0
Stands Unclaimed items = items ≡ []
Stands (Going n p) items = Grows items n p
Stands Ended items = (n : ExtentView) × (p : ℕ) × Grows items n p

added : (items : List ItemView) (x : ItemView) → pages_of (items ++ x ∷ []) ≡ pages_of items ++ page_of x.kind
added items x = flat_map-append (λ item. page_of item.kind) items (x ∷ []) ∙ ap (λ l. pages_of items ++ l) (append-nil (page_of x.kind))

counted : (items : List ItemView) (x : ItemView) (n : ExtentView) → ((more : List ItemView) → extent_of (items ++ more) ≡ n) → (more : List ItemView) → extent_of ((items ++ x ∷ []) ++ more) ≡ n
counted items x n count more = ap extent_of (append_assoc items (x ∷ []) more) ∙ count (x ∷ more)

end_more : (m k : ℕ) (n : ExtentView) (p : ℕ) (items : List ItemView) (reason : Reason) → Grows items n p → Grows (items ++ item_of m k n (End reason) ∷ []) n p
end_more m k n p items reason g =
    let x = item_of m k n (End reason) in
    let same : pages_of (items ++ x ∷ []) ≡ pages_of items = added items x ∙ append-nil (pages_of items) in
    record {
      most = g.most;
      fits = subst (λ l. length (all_words l) ≤ n.words) (sym same) g.fits;
      few = subst (λ l. length (all_words l) ≤ n.pages * p) (sym same) g.few;
      pages = subst (λ l. length l ≤ p) (sym same) g.pages;
      within = g.within;
      sized = g.sized;
      count = counted items x n g.count;
    }

-- the words of a page that a module has, and those of the pages before it
page_words : (profile : Profile) (size n p len words : ℕ) → HasPages profile size → p < page_count size n → len ≡ bytes_in_page size n p → 4 * words ≤ len → (words ≤ size) × (words + size * p ≤ n) × (p + 1 ≤ n)
page_words profile size n p len words (inl is) below long fit =
    let below_is : p < (n + 1023) / 1024 = subst (λ s. p < page_count s n) is below in
    let long_is : len ≡ bytes_in_page small_page n p = long ∙ ap (λ s. bytes_in_page s n p) is in
    subst (λ s. (words ≤ s) × (words + s * p ≤ n) × (p + 1 ≤ n)) (sym is) (omega (arith, below_is, long_is, fit), omega (arith, below_is, long_is, fit), omega (arith, below_is, long_is, fit))
page_words profile size n p len words (inr is) below long fit =
    let below_is : p < (n + 4095) / 4096 = subst (λ s. p < page_count s n) is.1 below in
    let long_is : len ≡ bytes_in_page large_page n p = long ∙ ap (λ s. bytes_in_page s n p) is.1 in
    subst (λ s. (words ≤ s) × (words + s * p ≤ n) × (p + 1 ≤ n)) (sym is.1) (omega (arith, below_is, long_is, fit), omega (arith, below_is, long_is, fit), omega (arith, below_is, long_is, fit))

page_more : (m k : ℕ) (n : ExtentView) (p : ℕ) (items : List ItemView) (bytes : List ℕ) → p < page_count n.pages n.words → length bytes ≡ bytes_in_page n.pages n.words p → Grows items n p → Grows (items ++ item_of m k n (Page bytes) ∷ []) n (p + 1)
page_more m k n p items bytes below len g =
    let x = item_of m k n (Page bytes) in
    let pages : pages_of (items ++ x ∷ []) ≡ pages_of items ++ words_of bytes ∷ [] = added items x in
    let words : all_words (pages_of (items ++ x ∷ [])) ≡ all_words (pages_of items) ++ words_of bytes =
    ap all_words pages ∙ all_words-append (pages_of items) (words_of bytes ∷ []) ∙ ap (λ l. all_words (pages_of items) ++ l) (append-nil (words_of bytes)) in
    let total : words_in (items ++ x ∷ []) ≡ words_in items + length (words_of bytes) = ap length words ∙ length-append (all_words (pages_of items)) (words_of bytes) in
    let many : pages_in (items ++ x ∷ []) ≡ pages_in items + 1 = ap length pages ∙ length-append (pages_of items) (words_of bytes ∷ []) in
    let fit = words_fit bytes in
    let fits = g.fits in let few = g.few in let some = g.pages in let within = g.within in
    let here = page_words n.profile n.pages n.words p (length bytes) (length (words_of bytes)) g.sized below len (omega (arith, fit)) in
    let small = here.0 in
    let left = here.1 in
    let room = here.2 in
    let step = mul-add n.pages p 1 in
    record {
      most = g.most;
      fits = omega arith;
      few = omega arith;
      pages = omega arith;
      within = room;
      sized = g.sized;
      count = counted items x n g.count;
    }

passed : (b : Bool) (f : FrameFault) (rest : Option FrameFault) → (if b then Some f else rest) ≡ None → (b ≡ false) × (rest ≡ None)
passed true f rest e = absurd (cc)
passed false f rest e = (refl, e)

second : (b c : Bool) → (b || c) ≡ false → c ≡ false
second true c e = absurd (cc)
second false c e = e

words_most : (profile : Profile) (m words entry pages : ℕ) → IsMessage (open_message m (record { words = words; entry = entry; profile = profile; pages = pages })) → words ≤ 4194304
words_most One m words entry pages is =
    let wrong = not (is_second 1 (second_byte pages)) in
    let count = words == 0 || nat_lt 4194304 words in
    let one = passed wrong fault.SecondByte (if nat_le 16 m then Some fault.Module else if count then Some fault.WordCount else if nat_le words entry then Some fault.Entry else None) is.faultless in
    let two = passed (nat_le 16 m) fault.Module (if count then Some fault.WordCount else if nat_le words entry then Some fault.Entry else None) one.1 in
    let three = passed count fault.WordCount (if nat_le words entry then Some fault.Entry else None) two.1 in
    ltb-false 4194304 words (second (words == 0) (nat_lt 4194304 words) three.0)
words_most Two m words entry pages is =
    let wrong = not (is_second 4 (second_byte pages)) in
    let count = words == 0 || nat_lt 4194304 words in
    let one = passed wrong fault.SecondByte (if nat_le 16 m then Some fault.Module else if count then Some fault.WordCount else if nat_le words entry then Some fault.Entry else None) is.faultless in
    let two = passed (nat_le 16 m) fault.Module (if count then Some fault.WordCount else if nat_le words entry then Some fault.Entry else None) one.1 in
    let three = passed count fault.WordCount (if nat_le words entry then Some fault.Entry else None) two.1 in
    ltb-false 4194304 words (second (words == 0) (nat_lt 4194304 words) three.0)

opened : (m : ℕ) (extent : ExtentView) (items : List ItemView) → extent.words ≤ 4194304 → HasPages extent.profile extent.pages → items ≡ [] → Grows (items ++ item_of m 0 extent Open ∷ []) extent 0
opened m extent items most sized none =
    let x = item_of m 0 extent Open in
    subst (λ l. Grows (l ++ x ∷ []) extent 0) (sym none) (record { most = most; fits = omega arith; few = omega arith; pages = omega arith; within = omega arith; sized = sized; count = λ more. refl })

either : (b : Bool) (s t : Share) → (b ≡ true → Stands s.progress s.items) → Stands t.progress t.items → Stands (cond b s t).progress (cond b s t).items
either true s t hs ht = hs refl
either false s t hs ht = ht

both : (b c : Bool) → (b && c) ≡ true → (b ≡ true) × (c ≡ true)
both true c e = (refl, e)
both false c e = absurd (cc)

-- the page is the one due: it has its module's size, and its index and length are those of the next page
abbrev next_by : ExtentView → (p size index len : ℕ) → Bool
next_by n p size index len = size == n.pages && is_due n.pages n.words p index len

due_says : (n : ExtentView) (p size index len : ℕ) → next_by n p size index len ≡ true → (index ≡ p) × ((p < page_count n.pages n.words) × (len ≡ bytes_in_page n.pages n.words p))
due_says n p size index len e =
    let sized = both (size == n.pages) (is_due n.pages n.words p index len) e in
    let one = both (index == p && nat_lt index (page_count n.pages n.words)) (len == bytes_in_page n.pages n.words index) sized.1 in
    let two = both (index == p) (nat_lt index (page_count n.pages n.words)) one.0 in
    let same : index ≡ p = eqb-true index p two.0 in
    (same, (subst (λ i. i < page_count n.pages n.words) same (ltb-true index (page_count n.pages n.words) two.1), subst (λ i. len ≡ bytes_in_page n.pages n.words i) same (eqb-true len (bytes_in_page n.pages n.words index) one.1)))

same_stands : (s : Share) (progress : Progress) → s.progress ≡ progress → Stands progress s.items → Stands s.progress s.items
same_stands s progress e h = subst (λ q. Stands q s.items) (sym e) h

page_stands : (m : ℕ) (n : ExtentView) (p : ℕ) (s : Share) (size index len : ℕ) (due : Share) → Grows s.items n p → (next_by n p size index len ≡ true → Stands due.progress due.items) →
    Stands (after_page m n p s size index len due).progress (after_page m n p s size index len due).items
page_stands m n p s size index len due g d = either (next_by n p size index len) due (with_item s (item_of m (p + 1) n (End (PageFault index))) Ended) d (n, p, end_more m (p + 1) n p s.items (PageFault index) g)

message_stands : (claimed : Bool) (m : ℕ) (s : Share) (progress : Progress) (message : Message) → IsMessage message → s.progress ≡ progress → Stands progress s.items →
    Stands (after_message claimed m s progress message).progress (after_message claimed m s progress message).items
message_stands claimed m s Unclaimed (open_message k extent) is e h =
    either claimed (with_item s (item_of m 0 extent Open) (Going extent 0)) (with_stray s) (λ _. opened m extent s.items (words_most extent.profile k extent.words extent.entry extent.pages is) is.sizes h) (same_stands s Unclaimed e h)
message_stands claimed m s Unclaimed (page_message k size index payload) is e h = same_stands s Unclaimed e h
message_stands claimed m s Unclaimed (close_message k) is e h = same_stands s Unclaimed e h
message_stands claimed m s (Going n p) (open_message k extent) is e h = same_stands s (Going n p) e h
message_stands claimed m s (Going n p) (page_message k size index payload) is e h =
    page_stands m n p s size index (length payload) (with_item s (item_of m (p + 1) n (Page payload)) (Going n (p + 1))) h
    (λ due. (let says = due_says n p size index (length payload) due in page_more m (p + 1) n p s.items payload says.1.0 says.1.1 h))
message_stands claimed m s (Going n p) (close_message k) is e h = (n, p, end_more m (p + 1) n p s.items Close h)
message_stands claimed m s Ended (open_message k extent) is e h = same_stands s Ended e h
message_stands claimed m s Ended (page_message k size index payload) is e h = same_stands s Ended e h
message_stands claimed m s Ended (close_message k) is e h = same_stands s Ended e h

abbrev StandsAs : Share → Type 0
StandsAs s = Stands s.progress s.items

module _ (claimed : Bool) (m : ℕ) where
  abbrev step : Share → Message → Share
  step s message = after_message claimed m s s.progress message

  kept_by : (b : Bool) (s : Share) (x : Message) (xs : List Message) → StandsAs (fold step (step s x) xs) → StandsAs (fold step s xs) → StandsAs (fold step s (cond b (x ∷ xs) xs))
  kept_by true s x xs h k = h
  kept_by false s x xs h k = k

  messages_stand : (messages : List Message) (s : Share) → All IsMessage messages → StandsAs s → StandsAs (fold step s (filter (is_of m) messages))
  messages_stand [] s all h = h
  messages_stand (x ∷ xs) s all h =
      let more = All-tail IsMessage x xs all in
      kept_by (is_of m x) s x (filter (is_of m) xs) (messages_stand xs (step s x) more (message_stands claimed m s s.progress x (All-head IsMessage x xs all) refl h)) (messages_stand xs s more h)

header_stands : (m : ℕ) (s : Share) (progress : Progress) (size index len : ℕ) → s.progress ≡ progress → Stands progress s.items → Stands (after_header m s progress size index len).progress (after_header m s progress size index len).items
header_stands m s Unclaimed size index len e h = same_stands s Unclaimed e h
header_stands m s (Going n p) size index len e h = page_stands m n p s size index len s h (λ _. same_stands s (Going n p) e h)
header_stands m s Ended size index len e h = same_stands s Ended e h

rest_stands : (m : ℕ) (s : Share) (rest : Rest) → StandsAs s → StandsAs (after_rest m s rest)
rest_stands m s short h = h
rest_stands m s (faulty found) h = h
rest_stands m s (unfinished k size index len) h = either (k == m) (after_header m s s.progress size index len) s (λ _. header_stands m s s.progress size index len refl h) h
rest_stands m s whole h = h

sized : (items : List ItemView) (n : ExtentView) (p : ℕ) → Grows items n p → IsSized items
sized items n p g =
    let is : (extent_of items).words ≡ n.words = ap (λ l. (extent_of l).words) (sym (append-nil items)) ∙ ap (λ z. z.words) (g.count []) in
    let most = g.most in let fits = g.fits in let pages = g.pages in let within = g.within in
    record { most = omega arith; room = omega arith; pages = omega arith }

ends_sized : (m : ℕ) (progress : Progress) (items : List ItemView) (found : Option FrameFault) → Stands progress items → IsSized (items ++ ends_of m progress found)
ends_sized m Unclaimed items found h = subst (λ l. IsSized (l ++ [])) (sym h) (record { most = omega arith; room = omega arith; pages = omega arith })
ends_sized m (Going n p) items (Some found) g = sized (items ++ item_of m (p + 1) n (End (reason_of found)) ∷ []) n p (end_more m (p + 1) n p items (reason_of found) g)
ends_sized m (Going n p) items None g = subst IsSized (sym (append-nil items)) (sized items n p g)
ends_sized m Ended items found h = subst IsSized (sym (append-nil items)) (sized items h.0 h.1 h.2)

-- what a connection makes of a module is of a module's size
pub items_sized : (messages : List Message) (rest : List ℕ) (cause : EndCause) (claimed : ℕ → Bool) (m : ℕ) → All IsMessage messages → IsSized (items_of messages rest cause claimed m)
items_sized messages rest cause claimed m all =
    let s = share_at messages rest cause claimed m in
    ends_sized m s.progress s.items (connection_fault messages rest cause claimed)
    (rest_stands m (fold (λ t message. after_message (claimed m) m t t.progress message) nothing_yet (filter (is_of m) messages)) (rest_of rest) (messages_stand (claimed m) m messages nothing_yet all refl))
