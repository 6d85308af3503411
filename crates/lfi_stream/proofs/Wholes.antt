-- The pages of a module are whole words, so their words are those of all their bytes.
use Rattle.std.proofs.Common.{◌≡◌, ℕ, ◌/◌, ◌%◌, ◌==◌, List, [], ◌∷◌, ◌++◌, length, Option, Some, None, refl, ◌∙◌, ap, subst, arith, Bool, true, false, if◌then◌else◌}
use Rattle.std.specs.Prelude.{All}
use Rattle.std.specs.List.{filter, fold}
use Rattle.std.proofs.lemmas.List.Elements.{All-nil, All-cons, All-head, All-tail, All-filter, All-append}
use Rattle.a64_word.specs.Words.{words_of}
use Rattle.lfi_module.specs.Extents.{ExtentView}
use Rattle.lfi_rules.specs.Faults.{FirstFault}
use Rattle.lfi_rules.specs.Verdicts.{all_words}
use Rattle.lfi_rules.specs.declared.fault.Fault.{Fault}
use Rattle.lfi_check.proofs.Begun.{words_append}
use Rattle.lfi_connection.proofs.Growth.{next_by}
use Rattle.lfi_frame.specs.Streams.{Message, IsMessage, open_message, page_message, close_message, header_of, Rest, short, faulty, unfinished, whole, rest_of}
use Rattle.lfi_frame.specs.declared.fault.FrameFault.{FrameFault}
use Rattle.lfi_frame.proofs.Cuts.{page_paging}
use Rattle.lfi_frame.proofs.Headers.{sound}
use Rattle.lfi_model.specs.Item.{ItemView, KindView}
use Rattle.lfi_model.specs.declared.item.ItemKind.TheVariants.{Open, Page, End}
use Rattle.lfi_model.specs.declared.item.Reason.{Reason}
use Rattle.lfi_model.specs.declared.connection.EndCause.{EndCause}
use Rattle.lfi_model.specs.declared.connection.Progress.{Progress}
use Rattle.lfi_model.specs.declared.connection.Progress.TheVariants.{Unclaimed, Going, Ended}
use Rattle.lfi_model.specs.Items.{Share, nothing_yet, after_message, after_header, after_rest, is_of, items_of, ends_of, connection_fault, share_at, item_of}
use Rattle.lfi_model.specs.Outcomes.{page_of, pages_of, end_of, Load, IsOutcome}
use Rattle.lfi_stream.specs.Streams.{made_of}
use Rattle.lfi_stream.specs.Outcomes.{bytes_at, code_of, outcome_by}

abbrev IsWhole : KindView → Type 0
IsWhole (Page bytes) = length bytes % 4 ≡ 0
IsWhole kind = Unit {0}

abbrev Wholes : List ItemView → Type 0
Wholes items = All (λ item. IsWhole item.kind) items

item_words : (kind : KindView) (items : List ItemView) → IsWhole kind → words_of (code_of items) ≡ all_words (pages_of items) → words_of (bytes_at kind ++ code_of items) ≡ all_words (page_of kind ++ pages_of items)
item_words Open items w rest = rest
item_words (Page bytes) items w rest = words_append bytes (code_of items) (length bytes / 4) (omega arith) ∙ ap (λ l. words_of bytes ++ l) rest
item_words (End reason) items w rest = rest

pub words_are : (items : List ItemView) → Wholes items → words_of (code_of items) ≡ all_words (pages_of items)
words_are [] h = refl
words_are (item ∷ items) h = item_words item.kind items (All-head (λ i. IsWhole i.kind) item items h) (words_are items (All-tail (λ i. IsWhole i.kind) item items h))

more : (items : List ItemView) (item : ItemView) → Wholes items → IsWhole item.kind → Wholes (items ++ item ∷ [])
more items item h w = All-append (λ i. IsWhole i.kind) items (item ∷ []) h (All-cons (λ i. IsWhole i.kind) item [] w (All-nil (λ i. IsWhole i.kind)))

either : (b : Bool) (s t : Share) → Wholes s.items → Wholes t.items → Wholes (if b then s else t).items
either true s t h k = h
either false s t h k = k

message_whole : (m : ℕ) (s : Share) (q : Progress) (message : Message) → IsMessage message → Wholes s.items → Wholes (after_message true m s q message).items
message_whole m s Unclaimed (open_message k extent) is h = more s.items (item_of m 0 extent Open) h tt
message_whole m s Unclaimed (page_message k size index payload) is h = h
message_whole m s Unclaimed (close_message k) is h = h
message_whole m s (Going extent p) (open_message k other) is h = h
message_whole m s (Going extent p) (page_message k size index payload) is h =
    either (next_by extent p size index (length payload)) _ _ (more s.items _ h ((sound (header_of (page_message k size index payload)) is.faultless).whole (page_paging size is.sizes))) (more s.items _ h tt)
message_whole m s (Going extent p) (close_message k) is h = more s.items _ h tt
message_whole m s Ended (open_message k extent) is h = h
message_whole m s Ended (page_message k size index payload) is h = h
message_whole m s Ended (close_message k) is h = h

fold_whole : (m : ℕ) (ms : List Message) (s : Share) → All IsMessage ms → Wholes s.items → Wholes (fold (λ t message. after_message true m t t.progress message) s ms).items
fold_whole m [] s each h = h
fold_whole m (message ∷ ms) s each h =
    fold_whole m ms (after_message true m s s.progress message) (All-tail IsMessage message ms each) (message_whole m s s.progress message (All-head IsMessage message ms each) h)

header_whole : (m : ℕ) (s : Share) (q : Progress) (size index len : ℕ) → Wholes s.items → Wholes (after_header m s q size index len).items
header_whole m s Unclaimed size index len h = h
header_whole m s (Going extent p) size index len h = either (next_by extent p size index len) s _ h (more s.items _ h tt)
header_whole m s Ended size index len h = h

rest_whole : (m : ℕ) (s : Share) (rest : Rest) → Wholes s.items → Wholes (after_rest m s rest).items
rest_whole m s short h = h
rest_whole m s (faulty fault) h = h
rest_whole m s (unfinished k size index len) h = either (k == m) (after_header m s s.progress size index len) s (header_whole m s s.progress size index len h) h
rest_whole m s whole h = h

pub share_whole : (ms : List Message) (rest : Rest) (m : ℕ) → All IsMessage ms → Wholes (made_of ms rest m).items
share_whole ms rest m each =
    rest_whole m (fold (λ t message. after_message true m t t.progress message) nothing_yet (filter (is_of m) ms)) rest
    (fold_whole m (filter (is_of m) ms) nothing_yet (All-filter (is_of m) IsMessage ms each) (All-nil (λ i. IsWhole i.kind)))

ends_whole : (m : ℕ) (q : Progress) (fault : Option FrameFault) (items : List ItemView) → Wholes items → Wholes (items ++ ends_of m q fault)
ends_whole m Unclaimed fault items h = All-append (λ i. IsWhole i.kind) items [] h (All-nil (λ i. IsWhole i.kind))
ends_whole m (Going extent p) (Some fault) items h = more items _ h tt
ends_whole m (Going extent p) None items h = All-append (λ i. IsWhole i.kind) items [] h (All-nil (λ i. IsWhole i.kind))
ends_whole m Ended fault items h = All-append (λ i. IsWhole i.kind) items [] h (All-nil (λ i. IsWhole i.kind))

items_whole : (ms : List Message) (rest : List ℕ) (cause : EndCause) (m : ℕ) → All IsMessage ms → Wholes (items_of ms rest cause (λ _. true) m)
items_whole ms rest cause m each =
    let all : ℕ → Bool = (λ _. true) in
    let s : Share = share_at ms rest cause all m in
    ends_whole m s.progress (connection_fault ms rest cause all) s.items (share_whole ms (rest_of rest) m each)

outcome_is : (n : ExtentView) (items : List ItemView) (fault : Option Fault) (reason : Reason) → end_of items ≡ Some reason → IsOutcome n items fault (outcome_by n items fault reason)
outcome_is n items (Some fault) reason e = refl
outcome_is n items None reason e = (reason, e, refl)

-- The first fault of the whole pages and the end tell what becomes of a module.
pub loaded : (ms : List Message) (rest : List ℕ) (cause : EndCause) (m : ℕ) (extent : ExtentView) (item : ItemView) (items : List ItemView) (fault : Option Fault) (reason : Reason) → All IsMessage ms
    → items_of ms rest cause (λ _. true) m ≡ item ∷ items → FirstFault extent.profile (words_of (code_of (item ∷ items))) extent.words fault → end_of (item ∷ items) ≡ Some reason → Load extent (item ∷ items) (outcome_by extent (item ∷ items) fault reason)
loaded ms rest cause m extent item items fault reason each is first ended =
    let wholes : Wholes (item ∷ items) = subst Wholes is (items_whole ms rest cause m each) in
    (fault, subst (λ ws. FirstFault extent.profile ws extent.words fault) (words_are (item ∷ items) wholes) first, outcome_is extent (item ∷ items) fault reason ended)
