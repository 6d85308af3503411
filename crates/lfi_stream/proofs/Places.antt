-- How many bytes of code came of an open module.
use Rattle.std.proofs.Common.{◌≡◌, ℕ, ◌+◌, ◌-◌, ◌*◌, ◌<◌, ◌≤◌, ◌==◌, List, [], ◌∷◌, ◌++◌, length, mul-add, mul_assoc, mul_comm, mul-le-mul_right, div-mul-le_self, refl, sym, ◌∙◌, ap, subst, inl, inr, ◌⊎◌, arith, Bool, true, false, if◌then◌else◌, min, length-append}
use Rattle.std.specs.List.{filter, fold}
use Rattle.std.proofs.lemmas.Grind.{flat_map-append}
use Rattle.std.proofs.lemmas.List.{append-nil}
use Rattle.lfi_module.specs.Extents.{ExtentView}
use Rattle.lfi_module.specs.Pages.{page_count, bytes_in_page}
use Rattle.lfi_frame.specs.Streams.{Message, open_message, page_message, close_message, Rest, short, faulty, unfinished, whole, rest_of}
use Rattle.lfi_model.specs.Item.{ItemView}
use Rattle.lfi_model.specs.declared.item.ItemKind.TheVariants.{Open, Page, End}
use Rattle.lfi_model.specs.declared.item.Reason.TheVariants.{PageFault}
use Rattle.lfi_model.specs.declared.connection.Progress.{Progress}
use Rattle.lfi_model.specs.declared.connection.Progress.TheVariants.{Unclaimed, Going, Ended}
use Rattle.lfi_model.specs.Items.{Share, nothing_yet, after_message, after_header, after_rest, is_of, item_of, with_item}
use Rattle.lfi_stream.specs.Streams.{made_of}
use Rattle.lfi_stream.specs.Outcomes.{bytes_at, code_of}
use Rattle.lfi_connection.proofs.Growth.{next_by}
use Rattle.lfi_connection.proofs.Books.{due_says}

-- so many bytes by how far a module is
abbrev Came : Progress → List ItemView → Type 0
Came Unclaimed items = length (code_of items) ≡ 0
Came (Going extent p) items = length (code_of items) ≡ 4 * min (extent.pages * p) extent.words
Came Ended items = Unit {0}

one_more : (items : List ItemView) (item : ItemView) → length (code_of (items ++ item ∷ [])) ≡ length (code_of items) + length (bytes_at item.kind)
one_more items item =
    ap length (flat_map-append (λ i. bytes_at i.kind) items (item ∷ []) ∙ ap (λ l. code_of items ++ l) (append-nil (bytes_at item.kind)))
    ∙ length-append (code_of items) (bytes_at item.kind)

same_came : (q : Progress) (s : Share) → s.progress ≡ q → Came q s.items → Came s.progress s.items
same_came q s e h = subst (λ z. Came z s.items) (sym e) h

grown : (size n p c len : ℕ) → c ≡ 4 * min (size * p) n → len ≡ 4 * min size (n - size * p) → c + len ≡ 4 * min (size * (p + 1)) n
grown size n p c len h k = omega (arith, h, k, mul-add size p 1)

-- a module that has page p has all words before it
starts : (size n p : ℕ) → p < page_count size n → size * p ≤ n
starts size n p less =
    let all = div-mul-le_self (n + (size - 1)) size in
    let more : p + 1 ≤ page_count size n = omega (arith, less) in
    let mine = mul-le-mul_right size more in
    let turned : (p + 1) * size ≡ size * (p + 1) = mul_comm (p + 1) size in
    omega (arith, all, mine, turned, mul-add size p 1)

tells : (b : Bool) → (b ≡ true) ⊎ (b ≡ false)
tells true = inl refl
tells false = inr refl

page_came : (m : ℕ) (extent : ExtentView) (p : ℕ) (s : Share) (size index : ℕ) (payload : List ℕ) (b : Bool) → next_by extent p size index (length payload) ≡ b → Came (Going extent p) s.items
    → let t = (if b then with_item s (item_of m (p + 1) extent (Page payload)) (Going extent (p + 1)) else with_item s (item_of m (p + 1) extent (End (PageFault index))) Ended) in Came t.progress t.items
page_came m extent p s size index payload true due h =
    let says = due_says extent p size index (length payload) due in
    let len : length payload ≡ 4 * min extent.pages (extent.words - extent.pages * p) = says.2 ∙ ap (λ z. bytes_in_page extent.pages extent.words z) says.1 in
    one_more s.items (item_of m (p + 1) extent (Page payload)) ∙ grown extent.pages extent.words p (length (code_of s.items)) (length payload) h len
page_came m extent p s size index payload false due h = tt

message_came : (m : ℕ) (s : Share) (q : Progress) (message : Message) → s.progress ≡ q → Came q s.items → Came (after_message true m s q message).progress (after_message true m s q message).items
message_came m s Unclaimed (open_message k extent) e h =
    let l = one_more s.items (item_of m 0 extent Open) in
    let none : min (extent.pages * 0) extent.words ≡ 0 = omega arith in
    omega (arith, l, h, none)
message_came m s Unclaimed (page_message k size index payload) e h = same_came Unclaimed s e h
message_came m s Unclaimed (close_message k) e h = same_came Unclaimed s e h
message_came m s (Going extent p) (open_message k other) e h = same_came (Going extent p) s e h
message_came m s (Going extent p) (page_message k size index payload) e h = page_came m extent p s size index payload (next_by extent p size index (length payload)) refl h
message_came m s (Going extent p) (close_message k) e h = tt
message_came m s Ended (open_message k extent) e h = same_came Ended s e h
message_came m s Ended (page_message k size index payload) e h = same_came Ended s e h
message_came m s Ended (close_message k) e h = same_came Ended s e h

fold_came : (m : ℕ) (ms : List Message) (s : Share) → Came s.progress s.items
    → let t = fold (λ t message. after_message true m t t.progress message) s ms in Came t.progress t.items
fold_came m [] s h = h
fold_came m (message ∷ ms) s h = fold_came m ms (after_message true m s s.progress message) (message_came m s s.progress message refl h)

either : (b : Bool) (s t : Share) → Came s.progress s.items → Came t.progress t.items → Came (if b then s else t).progress (if b then s else t).items
either true s t h k = h
either false s t h k = k

header_came : (m : ℕ) (s : Share) (q : Progress) (size index len : ℕ) → s.progress ≡ q → Came q s.items → Came (after_header m s q size index len).progress (after_header m s q size index len).items
header_came m s Unclaimed size index len e h = same_came Unclaimed s e h
header_came m s (Going extent p) size index len e h = either (next_by extent p size index len) s _ (same_came (Going extent p) s e h) tt
header_came m s Ended size index len e h = same_came Ended s e h

rest_came : (m : ℕ) (s : Share) (rest : Rest) → Came s.progress s.items → Came (after_rest m s rest).progress (after_rest m s rest).items
rest_came m s short h = h
rest_came m s (faulty fault) h = h
rest_came m s (unfinished k size index len) h = either (k == m) (after_header m s s.progress size index len) s (header_came m s s.progress size index len refl h) h
rest_came m s whole h = h

-- so many bytes of code came of an open module
pub code_came : (ms : List Message) (rest : Rest) (m : ℕ) (extent : ExtentView) (p : ℕ) → (made_of ms rest m).progress ≡ Going extent p → length (code_of (made_of ms rest m).items) ≡ 4 * min (extent.pages * p) extent.words
code_came ms rest m extent p going =
    subst (λ q. Came q (made_of ms rest m).items) going
    (rest_came m (fold (λ t message. after_message true m t t.progress message) nothing_yet (filter (is_of m) ms)) rest (fold_came m (filter (is_of m) ms) nothing_yet refl))

-- The next page of an open module begins where the code that came ends.
pub next_place : (ms : List Message) (rest : List ℕ) (m : ℕ) (extent : ExtentView) (p : ℕ) → (made_of ms (rest_of rest) m).progress ≡ Going extent p → p < page_count extent.pages extent.words
    → length (code_of (made_of ms (rest_of rest) m).items) ≡ 4 * extent.pages * p
next_place ms rest m extent p going less =
    let h = code_came ms (rest_of rest) m extent p going in
    let before = starts extent.pages extent.words p less in
    omega (arith, h, before, mul_assoc 4 extent.pages p)
