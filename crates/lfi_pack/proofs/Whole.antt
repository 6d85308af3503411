-- A module that was written whole.
use Rattle.std.proofs.Common.{◌≡◌, ℕ, ◌<◌, ◌≤◌, List, [], ◌∷◌, ◌++◌, Option, Result, Ok, Err, refl, sym, ◌∙◌, ap, subst, inl, inr, append-nil, flat_map}
use Rattle.std.specs.Prelude.{OnOk}
use Rattle.std.specs.Io.KnownBytes.{Consumes, Appends, IsAtEnd}
use Rattle.std.proofs.KnownBytes.{Consumes-trans, Appends-trans}
use Rattle.std.proofs.lemmas.Grind.{flat_map-append}
use Rattle.std.proofs.lemmas.List.Elements.{All-nil, All-cons, All-append}
use Rattle.lfi_module.specs.Extents.{ExtentView}
use Rattle.lfi_module.specs.Numbers.{module_count, most_words}
use Rattle.lfi_module.specs.Pages.{HasPages, IsPageSize, page_count}
use Rattle.lfi_module.specs.declared.profile.Profile.{Profile}
use Rattle.lfi_frame.specs.Streams.{open_message, close_message, header_of, spelling, IsMessage, short, whole}
use Rattle.lfi_frame.proofs.Headers.{sound}
use Rattle.lfi_pack.specs.declared.fault.PackFault.{PackFault}
use Rattle.lfi_pack.specs.Packs.{AreFirst, joined, numbered, messages_of, IsPacked, Packs}
use Rattle.lfi_pack.specs.inner.Copies.{CopiesPages}
use Rattle.lfi_pack.proofs.Messages.{pages_are_messages, among_all, close_is_message}

-- the pages of a module's opening are small or large
pub page_size : (profile : Profile) (size : ℕ) → HasPages profile size → IsPageSize size
page_size profile size (inl small) = inl small
page_size profile size (inr large) = inr large.1

-- what holds at two numbers holds at the same two
pub at_size : (P : (size n : ℕ) → Type 0) {s t n k : ℕ} → s ≡ t → n ≡ k → P s n → P t k
at_size P {s} {t} {n} {k} sized same p = subst (P t) same (subst (λ a. P a n) sized p)

spelled_whole : (m : ℕ) (extent : ExtentView) (pages : List (List ℕ)) →
    spelling (open_message m extent) ++ (flat_map spelling (numbered m extent.pages 0 pages) ++ spelling (close_message m)) ≡ flat_map spelling (messages_of m extent pages) ++ []
spelled_whole m extent pages =
    let head = spelling (open_message m extent) in
    let close = close_message m in
    let tail : flat_map spelling (numbered m extent.pages 0 pages ++ close ∷ []) ≡ flat_map spelling (numbered m extent.pages 0 pages) ++ spelling close =
    flat_map-append spelling (numbered m extent.pages 0 pages) (close ∷ []) ∙ ap (λ l. flat_map spelling (numbered m extent.pages 0 pages) ++ l) (append-nil (spelling close)) in
    ap (λ l. head ++ l) (sym tail) ∙ sym (append-nil (flat_map spelling (messages_of m extent pages)))

-- what is written of a whole module
pub packed_text : (m : ℕ) (extent : ExtentView) (pages : List (List ℕ)) → extent.words ≤ most_words → IsMessage (open_message m extent) → AreFirst extent.pages extent.words (page_count extent.pages extent.words) pages →
    IsPacked m extent (joined pages) (spelling (open_message m extent) ++ (flat_map spelling (numbered m extent.pages 0 pages) ++ spelling (close_message m)))
packed_text m extent pages few open_is all =
    let below : m < module_count = (sound (header_of (open_message m extent)) open_is.faultless).m_below in
    record {
      pages = pages;
      all = all;
      bytes = refl;
      cut = record {
        spelled = spelled_whole m extent pages;
        each = All-cons IsMessage (open_message m extent) (numbered m extent.pages 0 pages ++ close_message m ∷ []) open_is
            (All-append IsMessage (numbered m extent.pages 0 pages) (close_message m ∷ []) (pages_are_messages m extent.pages extent.words 0 pages (page_size extent.profile extent.pages open_is.sizes) below few (among_all extent.pages extent.words pages all)) (All-cons IsMessage (close_message m) [] (close_is_message m below) (All-nil IsMessage)));
        stops = λ w. (let f : short ≡ whole = w in absurd (cc));
      };
    }

pub packs_all : (m : ℕ) (extent : ExtentView) (left rest end old mid half new : Option (List ℕ)) (head tail : List ℕ) (r : Result (Unit {0}) PackFault) →
    extent.words ≤ most_words → head ≡ spelling (open_message m extent) → IsMessage (open_message m extent) → Appends old mid head →
    CopiesPages m extent.pages extent.words left rest mid half → Consumes rest end [] → IsAtEnd end →
    tail ≡ spelling (close_message m) → OnOk r (Appends half new tail) → OnOk r (Packs m extent left end old new)
packs_all m extent left rest end old mid half new head tail (Err fault) few opens open_is opened copied none ended closes closed = tt
packs_all m extent left rest end old mid half new head tail (Ok x) few opens open_is opened copied none ended closes closed =
    let pages = copied.pages in
    let code = joined pages in
    let first = spelling (open_message m extent) in
    let middle = flat_map spelling (numbered m extent.pages 0 pages) in
    let close = spelling (close_message m) in
    record {
      code = code;
      text = first ++ (middle ++ close);
      packed = packed_text m extent pages few open_is copied.first;
      read = subst (Consumes left end) (append-nil code) (Consumes-trans left rest end code [] copied.read none);
      ended = ended;
      written = Appends-trans old mid new first (middle ++ close) (subst (Appends old mid) opens opened) (Appends-trans mid half new middle close copied.written (subst (Appends half new) closes closed));
    }
