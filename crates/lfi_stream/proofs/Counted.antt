-- What came of an open module: so many whole pages, and no End.
use Rattle.std.proofs.Common.{◌≡◌, ℕ, ◌+◌, ◌==◌, List, [], ◌∷◌, ◌++◌, length, None, refl, sym, ◌∙◌, ap, subst, arith, Bool, true, false, if◌then◌else◌, length-append}
use Rattle.std.specs.List.{filter, fold}
use Rattle.std.proofs.lemmas.Grind.{flat_map-append}
use Rattle.std.proofs.lemmas.List.{append-nil}
use Rattle.lfi_module.specs.Extents.{ExtentView}
use Rattle.lfi_frame.specs.Streams.{Message, open_message, page_message, close_message, Rest, short, faulty, unfinished, whole}
use Rattle.lfi_model.specs.Item.{ItemView}
use Rattle.lfi_model.specs.declared.item.ItemKind.TheVariants.{Open, Page, End}
use Rattle.lfi_model.specs.declared.item.Reason.TheVariants.{PageFault}
use Rattle.lfi_model.specs.declared.connection.Progress.{Progress}
use Rattle.lfi_model.specs.declared.connection.Progress.TheVariants.{Unclaimed, Going, Ended}
use Rattle.lfi_model.specs.Items.{Share, nothing_yet, after_message, after_header, after_rest, is_of, item_of, with_item}
use Rattle.lfi_model.specs.Outcomes.{page_of, pages_of, end_of}
use Rattle.lfi_model.proofs.Numbered.{end_snoc}
use Rattle.lfi_stream.specs.Streams.{made_of}
use Rattle.lfi_connection.proofs.Growth.{next_by}

abbrev HasNoEnd : List ItemView → ℕ → Type 0
HasNoEnd items p = (length (pages_of items) ≡ p) × (end_of items ≡ None)

-- so many pages by how far a module is
abbrev Counted : Progress → List ItemView → Type 0
Counted Unclaimed items = HasNoEnd items 0
Counted (Going extent p) items = HasNoEnd items p
Counted Ended items = Unit {0}

one_more : (items : List ItemView) (item : ItemView) → length (pages_of (items ++ item ∷ [])) ≡ length (pages_of items) + length (page_of item.kind)
one_more items item =
    ap length (flat_map-append (λ i. page_of i.kind) items (item ∷ []) ∙ ap (λ l. pages_of items ++ l) (append-nil (page_of item.kind)))
    ∙ length-append (pages_of items) (page_of item.kind)

same_counted : (q : Progress) (s : Share) → s.progress ≡ q → Counted q s.items → Counted s.progress s.items
same_counted q s e h = subst (λ z. Counted z s.items) (sym e) h

either : (b : Bool) (s t : Share) → Counted s.progress s.items → Counted t.progress t.items → Counted (if b then s else t).progress (if b then s else t).items
either true s t h k = h
either false s t h k = k

opened : (m : ℕ) (extent : ExtentView) (items : List ItemView) → HasNoEnd items 0 → HasNoEnd (items ++ item_of m 0 extent Open ∷ []) 0
opened m extent items h =
    let l = one_more items (item_of m 0 extent Open) in
    let none = h.0 in
    (omega (arith, l, none), end_snoc items (item_of m 0 extent Open) h.1)

page_more : (m : ℕ) (extent : ExtentView) (p : ℕ) (payload : List ℕ) (items : List ItemView) → HasNoEnd items p → HasNoEnd (items ++ item_of m (p + 1) extent (Page payload) ∷ []) (p + 1)
page_more m extent p payload items h =
    let l = one_more items (item_of m (p + 1) extent (Page payload)) in
    let count = h.0 in
    (omega (arith, l, count), end_snoc items (item_of m (p + 1) extent (Page payload)) h.1)

message_counted : (m : ℕ) (s : Share) (q : Progress) (message : Message) → s.progress ≡ q → Counted q s.items → Counted (after_message true m s q message).progress (after_message true m s q message).items
message_counted m s Unclaimed (open_message k extent) e h = opened m extent s.items h
message_counted m s Unclaimed (page_message k size index payload) e h = same_counted Unclaimed s e h
message_counted m s Unclaimed (close_message k) e h = same_counted Unclaimed s e h
message_counted m s (Going extent p) (open_message k other) e h = same_counted (Going extent p) s e h
message_counted m s (Going extent p) (page_message k size index payload) e h =
    either (next_by extent p size index (length payload)) (with_item s (item_of m (p + 1) extent (Page payload)) (Going extent (p + 1)))
    (with_item s (item_of m (p + 1) extent (End (PageFault index))) Ended) (page_more m extent p payload s.items h) tt
message_counted m s (Going extent p) (close_message k) e h = tt
message_counted m s Ended (open_message k extent) e h = same_counted Ended s e h
message_counted m s Ended (page_message k size index payload) e h = same_counted Ended s e h
message_counted m s Ended (close_message k) e h = same_counted Ended s e h

fold_counted : (m : ℕ) (ms : List Message) (s : Share) → Counted s.progress s.items
    → let t = fold (λ t message. after_message true m t t.progress message) s ms in Counted t.progress t.items
fold_counted m [] s h = h
fold_counted m (message ∷ ms) s h = fold_counted m ms (after_message true m s s.progress message) (message_counted m s s.progress message refl h)

header_counted : (m : ℕ) (s : Share) (q : Progress) (size index len : ℕ) → s.progress ≡ q → Counted q s.items → Counted (after_header m s q size index len).progress (after_header m s q size index len).items
header_counted m s Unclaimed size index len e h = same_counted Unclaimed s e h
header_counted m s (Going extent p) size index len e h = either (next_by extent p size index len) s _ (same_counted (Going extent p) s e h) tt
header_counted m s Ended size index len e h = same_counted Ended s e h

rest_counted : (m : ℕ) (s : Share) (rest : Rest) → Counted s.progress s.items → Counted (after_rest m s rest).progress (after_rest m s rest).items
rest_counted m s short h = h
rest_counted m s (faulty fault) h = h
rest_counted m s (unfinished k size index len) h = either (k == m) (after_header m s s.progress size index len) s (header_counted m s s.progress size index len refl h) h
rest_counted m s whole h = h

-- An open module has as many pages as came of it, and no End.
pub counted : (ms : List Message) (rest : Rest) (m : ℕ) (extent : ExtentView) (p : ℕ) → (made_of ms rest m).progress ≡ Going extent p → HasNoEnd (made_of ms rest m).items p
counted ms rest m extent p going =
    subst (λ q. Counted q (made_of ms rest m).items) going
    (rest_counted m (fold (λ t message. after_message true m t t.progress message) nothing_yet (filter (is_of m) ms)) rest (fold_counted m (filter (is_of m) ms) nothing_yet (refl, refl)))
