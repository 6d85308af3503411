-- A module of which a part was written.
use Rattle.std.proofs.Common.{◌≡◌, ℕ, zero, suc, ◌+◌, ◌-◌, ◌<◌, ◌≤◌, List, [], ◌∷◌, ◌++◌, length, replicate, Option, Result, Ok, Err, refl, sym, ◌∙◌, ap, subst, arith, append_assoc, append-nil, length-append, flat_map}
use Rattle.std.specs.Prelude.{OnErr}
use Rattle.std.specs.Io.KnownBytes.{Appends}
use Rattle.std.proofs.KnownBytes.{Appends-trans, Appends-nil}
use Rattle.std.proofs.lemmas.Grind.{flat_map-append}
use Rattle.std.proofs.lemmas.List.{length-replicate}
use Rattle.lfi_module.specs.Extents.{ExtentView}
use Rattle.lfi_module.specs.Numbers.{most_words}
use Rattle.lfi_module.specs.Pages.{page_count, bytes_in_page}
use Rattle.lfi_frame.specs.Feeds.{page_header}
use Rattle.lfi_frame.specs.Streams.{page_message, open_message, close_message, header_bytes, spelling, IsMessage}
use Rattle.lfi_pack.specs.declared.fault.PackFault.{PackFault}
use Rattle.exact_io.specs.Beginnings.{AppendsBeginning}
use Rattle.lfi_pack.specs.Packs.{AreFirst, joined, numbered, PacksPart}
use Rattle.lfi_pack.specs.inner.Copies.{CopiesFirst, CopiesPages, BeginsPage, BeginsPages}
use Rattle.lfi_pack.proofs.Pages.{page_added, numbered_snoc}
use Rattle.lfi_pack.proofs.Whole.{packed_text}

-- what holds in any case holds of a fault, and what follows from what holds of it
pub of_fault : (P : Type 0) (r : Result (Unit {0}) PackFault) → P → OnErr r P
of_fault P (Ok x) p = tt
of_fault P (Err fault) p = p

pub follows_of_fault : (P Q : Type 0) (r : Result (Unit {0}) PackFault) → (P → Q) → OnErr r P → OnErr r Q
follows_of_fault P Q (Ok x) f p = tt
follows_of_fault P Q (Err fault) f p = f p

-- a beginning of what goes on
pub begins_more : (a b : Option (List ℕ)) (xs ys : List ℕ) → AppendsBeginning a b xs → AppendsBeginning a b (xs ++ ys)
begins_more a b xs ys p = (p.0, p.1 ++ ys, ap (λ l. l ++ ys) p.2 ∙ append_assoc p.0 p.1 ys, omega (arith, p.3, length-append p.1 ys), p.4)

-- a beginning of what comes after what was written
pub begins_after : (a b c : Option (List ℕ)) (xs ys : List ℕ) → Appends a b xs → AppendsBeginning b c ys → AppendsBeginning a c (xs ++ ys)
begins_after a b c xs ys p q = (xs ++ q.0, q.1, ap (λ l. xs ++ l) q.2 ∙ sym (append_assoc xs q.0 q.1), q.3, Appends-trans a b c xs q.0 p q.4)

-- all that was written, where more was to come
pub begins_with : (a b : Option (List ℕ)) (xs ys : List ℕ) → 0 < length ys → Appends a b xs → AppendsBeginning a b (xs ++ ys)
begins_with a b xs ys some p = (xs, ys, refl, some, p)

abbrev zeros : ℕ → List ℕ
zeros n = replicate n 0

-- nothing of a page was written
pub nothing_begun : (m size index len : ℕ) (a : Option (List ℕ)) → BeginsPage m size index len a a
nothing_begun m size index len a = record {
  page = zeros len;
  long = length-replicate len 0;
  written = ([], spelling (page_message m size index (zeros len)), refl, omega arith, Appends-nil a);
}

-- a part of a page's header was
pub header_begun : (m size index : ℕ) (page head : List ℕ) (a b : Option (List ℕ)) (len : ℕ) → length page ≡ len → head ≡ header_bytes (page_header m size index len) → AppendsBeginning a b head → BeginsPage m size index len a b
header_begun m size index page head a b len long is begun =
    let same : head ≡ header_bytes (page_header m size index (length page)) = is ∙ ap (λ n. header_bytes (page_header m size index n)) (sym long) in
    record {
      page = page;
      long = long;
      written = begins_more a b (header_bytes (page_header m size index (length page))) page (subst (AppendsBeginning a b) same begun);
    }

-- the header was, and a part of the page
pub page_begun : (m size index : ℕ) (page head : List ℕ) (a b c : Option (List ℕ)) (len : ℕ) → length page ≡ len → head ≡ header_bytes (page_header m size index len) → Appends a b head → AppendsBeginning b c page → BeginsPage m size index len a c
page_begun m size index page head a b c len long is wrote begun =
    let same : head ≡ header_bytes (page_header m size index (length page)) = is ∙ ap (λ n. header_bytes (page_header m size index n)) (sym long) in
    record {
      page = page;
      long = long;
      written = begins_after a b c (header_bytes (page_header m size index (length page))) page (subst (Appends a b) same wrote) begun;
    }

-- so many pages more
fill_up : (size n k count : ℕ) (pages : List (List ℕ)) → AreFirst size n k pages → (more : List (List ℕ)) × AreFirst size n (k + count) (pages ++ more)
fill_up size n k zero pages first = ([], subst (λ l. AreFirst size n (k + 0) l) (sym (append-nil pages)) (subst (λ j. AreFirst size n j pages) (let e : k ≡ k + 0 = omega arith in e) first))
fill_up size n k (suc count) pages first =
    let page : List ℕ = replicate (bytes_in_page size n k) 0 in
    let rest : (more : List (List ℕ)) × AreFirst size n ((k + 1) + count) ((pages ++ page ∷ []) ++ more) = fill_up size n (k + 1) count (pages ++ page ∷ []) (page_added size n k pages page first (length-replicate (bytes_in_page size n k) 0)) in
    (page ∷ rest.0, subst (λ j. AreFirst size n j (pages ++ page ∷ rest.0)) (let e : (k + 1) + count ≡ k + suc count = omega arith in e) (subst (λ l. AreFirst size n ((k + 1) + count) l) (append_assoc pages (page ∷ []) rest.0) rest.1))

-- some pages were written, and a part of the next one
pub pages_begun : (m size n k : ℕ) (left rest old half new : Option (List ℕ)) → k < page_count size n → CopiesFirst m size n k left rest old half → BeginsPage m size k (bytes_in_page size n k) half new → BeginsPages m size n old new
pages_begun m size n k left rest old half new within some begun =
    let pages = some.pages in
    let page = begun.page in
    let here = page_added size n k pages page some.first begun.long in
    let count = page_count size n - (k + 1) in
    let end : (k + 1) + count ≡ page_count size n = omega arith in
    let filled = fill_up size n (k + 1) count (pages ++ page ∷ []) here in
    let at : 0 + length pages ≡ k = (let long = some.first.all in omega arith) in
    let done = flat_map spelling (numbered m size 0 pages) in
    let next = spelling (page_message m size k page) in
    let spelled : flat_map spelling (numbered m size 0 (pages ++ page ∷ [])) ≡ done ++ next =
    ap (λ l. flat_map spelling l) (numbered_snoc m size 0 pages page ∙ ap (λ j. numbered m size 0 pages ++ page_message m size j page ∷ []) at)
    ∙ flat_map-append spelling (numbered m size 0 pages) (page_message m size k page ∷ []) ∙ ap (λ l. done ++ l) (append-nil next) in
    let split = numbered_split m size 0 (pages ++ page ∷ []) filled.0 in
    record {
      pages = (pages ++ page ∷ []) ++ filled.0;
      all = subst (λ j. AreFirst size n j ((pages ++ page ∷ []) ++ filled.0)) end filled.1;
      written = subst (AppendsBeginning old new) (sym (split.1 ∙ ap (λ l. l ++ split.0) spelled)) (begins_more old new (done ++ next) split.0 (begins_after old half new done next some.written begun.written));
    }
  where
    numbered_split : (m size j : ℕ) (xs ys : List (List ℕ)) → (tail : List ℕ) × (flat_map spelling (numbered m size j (xs ++ ys)) ≡ flat_map spelling (numbered m size j xs) ++ tail)
    numbered_split m size j [] ys = (flat_map spelling (numbered m size j ys), refl)
    numbered_split m size j (x ∷ xs) ys =
        let rest = numbered_split m size (j + 1) xs ys in
        let head = spelling (page_message m size j x) in
        (rest.0, ap (λ l. head ++ l) rest.1 ∙ sym (append_assoc head (flat_map spelling (numbered m size (j + 1) xs)) rest.0))

-- some pages of so many words
any_pages : (size n : ℕ) → (pages : List (List ℕ)) × AreFirst size n (page_count size n) pages
any_pages size n =
    let none : AreFirst size n 0 [] = record { all = refl; each = λ i page at. absurd cc } in
    let filled = fill_up size n 0 (page_count size n) [] none in
    (filled.0, subst (λ j. AreFirst size n j filled.0) (let e : 0 + page_count size n ≡ page_count size n = omega arith in e) filled.1)

module _ (m : ℕ) (extent : ExtentView) (few : extent.words ≤ most_words) (open_is : IsMessage (open_message m extent)) where
  abbrev first : List ℕ
  first = spelling (open_message m extent)

  abbrev last : List ℕ
  last = spelling (close_message m)

  part_of : (pages : List (List ℕ)) → AreFirst extent.pages extent.words (page_count extent.pages extent.words) pages → (old new : Option (List ℕ)) → AppendsBeginning old new (first ++ (flat_map spelling (numbered m extent.pages 0 pages) ++ last)) → PacksPart m extent old new
  part_of pages all old new begun = record {
    code = joined pages;
    text = first ++ (flat_map spelling (numbered m extent.pages 0 pages) ++ last);
    packed = packed_text m extent pages few open_is all;
    written = begun;
  }

  -- where writing stops in the Open, in the pages, after them, and in the Close
  pub part_in_open : (head : List ℕ) (old new : Option (List ℕ)) → head ≡ first → AppendsBeginning old new head → PacksPart m extent old new
  part_in_open head old new is begun =
      let some = any_pages extent.pages extent.words in
      part_of some.0 some.1 old new (begins_more old new first (flat_map spelling (numbered m extent.pages 0 some.0) ++ last) (subst (AppendsBeginning old new) is begun))

  pub part_in_pages : (head : List ℕ) (old mid new : Option (List ℕ)) → head ≡ first → Appends old mid head → BeginsPages m extent.pages extent.words mid new → PacksPart m extent old new
  part_in_pages head old mid new is wrote begun =
      part_of begun.pages begun.all old new (begins_after old mid new first (flat_map spelling (numbered m extent.pages 0 begun.pages) ++ last) (subst (Appends old mid) is wrote) (begins_more mid new (flat_map spelling (numbered m extent.pages 0 begun.pages)) last begun.written))

  pub part_after_pages : (head : List ℕ) (left rest old mid new : Option (List ℕ)) → head ≡ first → Appends old mid head → CopiesPages m extent.pages extent.words left rest mid new → PacksPart m extent old new
  part_after_pages head left rest old mid new is wrote copied =
      let middle = flat_map spelling (numbered m extent.pages 0 copied.pages) in
      part_of copied.pages copied.first old new (begins_after old mid new first (middle ++ last) (subst (Appends old mid) is wrote) (begins_with mid new middle last (omega arith) copied.written))

  pub part_in_close : (head tail : List ℕ) (left rest old mid half new : Option (List ℕ)) → head ≡ first → Appends old mid head → CopiesPages m extent.pages extent.words left rest mid half → tail ≡ last → AppendsBeginning half new tail → PacksPart m extent old new
  part_in_close head tail left rest old mid half new is wrote copied closes begun =
      let middle = flat_map spelling (numbered m extent.pages 0 copied.pages) in
      part_of copied.pages copied.first old new (begins_after old mid new first (middle ++ last) (subst (Appends old mid) is wrote) (begins_after mid half new middle last copied.written (subst (AppendsBeginning half new) closes begun)))
