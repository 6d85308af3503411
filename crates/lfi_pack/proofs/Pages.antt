-- Pages, one more at a time, and their lengths.
use Rattle.std.proofs.Common.{◌≡◌, ℕ, zero, suc, ◌+◌, ◌-◌, ◌*◌, ◌<◌, min, List, [], ◌∷◌, ◌++◌, length, Option, Some, None, Result, Ok, Err, refl, sym, ◌∙◌, ap, subst, inl, inr, ◌⊎◌, arith, append-nil, length-append, mul-add, flat_map, slice_get}
use Rattle.std.specs.Prelude.{OnOk}
use Rattle.std.proofs.lemmas.Grind.{flat_map-append}
use Rattle.std.specs.Io.KnownBytes.{Consumes, Appends}
use Rattle.std.proofs.KnownBytes.{Consumes-trans, Appends-trans}
use Rattle.lfi_module.specs.Numbers.{small_page, large_page}
use Rattle.lfi_module.specs.Pages.{IsPageSize, page_count, bytes_in_page}
use Rattle.lfi_frame.specs.Feeds.{page_header}
use Rattle.lfi_frame.specs.Streams.{page_message, header_bytes, spelling}
use Rattle.lfi_pack.specs.declared.fault.PackFault.{PackFault}
use Rattle.lfi_pack.specs.declared.fault.PackFault.TheVariants.{Shorter, Longer, ReadFailed, WriteFailed}
use Rattle.lfi_pack.specs.Faults.{IsPackFault}
use Rattle.lfi_pack.specs.Packs.{AreFirst, joined, numbered}
use Rattle.lfi_pack.specs.inner.Copies.{CopiesPage, CopiesFirst, IsPageFault}

-- a page that was read and written
pub copied_page : (m size index len : ℕ) (left rest old mid new : Option (List ℕ)) (page head : List ℕ) (r : Result (Unit {0}) PackFault) → length page ≡ len → Consumes left rest page → head ≡ header_bytes (page_header m size index len) → Appends old mid head →
    OnOk r (Appends mid new page) → OnOk r (CopiesPage m size index len left rest old new)
copied_page m size index len left rest old mid new page head (Err fault) long read is wrote w = tt
copied_page m size index len left rest old mid new page head (Ok x) long read is wrote w =
    let same : head ≡ header_bytes (page_header m size index (length page)) = is ∙ ap (λ n. header_bytes (page_header m size index n)) (sym long) in
    record {
      page = page;
      long = long;
      read = read;
      written = subst (λ l. Appends old new (l ++ page)) same (Appends-trans old mid new head page wrote w);
    }

pub numbered_snoc : (m size k : ℕ) (pages : List (List ℕ)) (page : List ℕ) → numbered m size k (pages ++ page ∷ []) ≡ numbered m size k pages ++ page_message m size (k + length pages) page ∷ []
numbered_snoc m size k [] page = let e : k ≡ k + 0 = omega arith in ap (λ n. page_message m size n page ∷ []) e
numbered_snoc m size k (first ∷ pages) page =
    let e : (k + 1) + length pages ≡ k + suc (length pages) = omega arith in
    ap (λ l. page_message m size k first ∷ l) (numbered_snoc m size (k + 1) pages page ∙ ap (λ n. numbered m size (k + 1) pages ++ page_message m size n page ∷ []) e)

snoc_at : {A : Type 0} (xs : List A) (x y : A) (i : ℕ) → slice_get (xs ++ x ∷ []) i ≡ Some y → (slice_get xs i ≡ Some y) ⊎ ((i ≡ length xs) × (x ≡ y))
snoc_at [] x y zero e = inr (refl, cc)
snoc_at [] x y (suc i) e = absurd cc
snoc_at (z ∷ xs) x y zero e = inl e
snoc_at (z ∷ xs) x y (suc i) e = elim (snoc_at xs x y i e) [ inl before ↦ inl before | inr last ↦ inr (ap suc last.0, last.1) ]

pub page_added : (size n count : ℕ) (pages : List (List ℕ)) (page : List ℕ) → AreFirst size n count pages → length page ≡ bytes_in_page size n count → AreFirst size n (count + 1) (pages ++ page ∷ [])
page_added size n count pages page first long =
    let at_end : length pages ≡ count = first.all in
    record {
      all = (let both = length-append pages (page ∷ []) in omega arith);
      each = λ index next at. elim (snoc_at pages page next index at) [
        | inl before ↦ first.each index next before
        | inr last ↦ ap length (sym last.1) ∙ long ∙ ap (λ k. bytes_in_page size n k) (sym (last.0 ∙ at_end))
      ];
    }

-- one more page
pub first_more : (m size n count : ℕ) (left mid rest old half new : Option (List ℕ)) → CopiesFirst m size n count left mid old half → CopiesPage m size count (bytes_in_page size n count) mid rest half new → CopiesFirst m size n (count + 1) left rest old new
first_more m size n count left mid rest old half new some one =
    let all : List (List ℕ) = some.pages ++ one.page ∷ [] in
    let count_is : 0 + length some.pages ≡ count = (let all_is = some.first.all in omega arith) in
    record {
      pages = all;
      first = page_added size n count some.pages one.page some.first one.long;
      read = subst (Consumes left rest) (sym (flat_map-append (λ page. page) some.pages (one.page ∷ []) ∙ ap (λ l. joined some.pages ++ l) (append-nil one.page))) (Consumes-trans left mid rest (joined some.pages) one.page some.read one.read);
      written = subst (Appends old new)
          (sym (ap (λ l. flat_map spelling l) (numbered_snoc m size 0 some.pages one.page ∙ ap (λ k. numbered m size 0 some.pages ++ page_message m size k one.page ∷ []) count_is)
          ∙ flat_map-append spelling (numbered m size 0 some.pages) (page_message m size count one.page ∷ [])
          ∙ ap (λ l. flat_map spelling (numbered m size 0 some.pages) ++ l) (append-nil (spelling (page_message m size count one.page)))))
          (Appends-trans old half new (flat_map spelling (numbered m size 0 some.pages)) (spelling (page_message m size count one.page)) some.written one.written);
    }

joined_from : (size n k : ℕ) (pages : List (List ℕ)) → ((i : ℕ) (page : List ℕ) → slice_get pages i ≡ Some page → length page ≡ bytes_in_page size n (k + i)) → length (joined pages) + 4 * min n (size * k) ≡ 4 * min n (size * (k + length pages))
joined_from size n k [] each = let same : 4 * min n (size * k) ≡ 4 * min n (size * (k + 0)) = (let e : k ≡ k + 0 = omega arith in ap (λ j. 4 * min n (size * j)) e) in omega arith
joined_from size n k (page ∷ pages) each =
    let first : length page ≡ bytes_in_page size n (k + 0) = each 0 page refl in
    let long : length page ≡ 4 * min size (n - size * k) = first ∙ (let e : k + 0 ≡ k = omega arith in ap (λ j. bytes_in_page size n j) e) in
    let rest = joined_from size n (k + 1) pages (λ i p at. each (suc i) p at ∙ (let e : k + suc i ≡ (k + 1) + i = omega arith in ap (λ j. bytes_in_page size n j) e)) in
    let end : (k + 1) + length pages ≡ k + suc (length pages) = omega arith in
    let last : length (joined pages) + 4 * min n (size * (k + 1)) ≡ 4 * min n (size * (k + suc (length pages))) = rest ∙ ap (λ j. 4 * min n (size * j)) end in
    let both = length-append page (joined pages) in
    let step : size * (k + 1) ≡ size * k + size * 1 = mul-add size k 1 in
    omega arith

-- the bytes of the first pages
pub joined_length : (size n count : ℕ) (pages : List (List ℕ)) → AreFirst size n count pages → length (joined pages) ≡ 4 * min n (size * count)
joined_length size n count pages first =
    let all = joined_from size n 0 pages (λ i page at. first.each i page at ∙ (let e : i ≡ 0 + i = omega arith in ap (λ j. bytes_in_page size n j) e)) in
    let end : 4 * min n (size * (0 + length pages)) ≡ 4 * min n (size * count) = ap (λ j. 4 * min n (size * j)) (let e : 0 + length pages ≡ length pages = omega arith in e ∙ first.all) in
    let none : 4 * min n (size * 0) ≡ 0 = omega arith in
    omega arith

-- a fault at a page is one of all of them
pub fault_later : (size n count : ℕ) (a b : Option (List ℕ)) (read : List ℕ) (fault : PackFault) → Consumes a b read → length read ≡ 4 * min n (size * count) → IsPageFault b (bytes_in_page size n count) fault → IsPageFault a (4 * n) fault
fault_later size n count None b read Shorter eats long is = tt
fault_later size n count (Some xs) None read Shorter eats long is = absurd eats
fault_later size n count (Some xs) (Some ys) read Shorter eats long is =
    let few : length ys < 4 * min size (n - size * count) = is in
    let both : length xs ≡ length read + length ys = ap length eats ∙ length-append read ys in
    let goal : length xs < 4 * n = omega arith in goal
fault_later size n count a b read Longer eats long is = is
fault_later size n count a b read (ReadFailed kind) eats long is = tt
fault_later size n count a b read (WriteFailed kind) eats long is = tt

-- and one after them too
pub fault_at_end : (n : ℕ) (a b : Option (List ℕ)) (read : List ℕ) (fault : PackFault) → Consumes a b read → length read ≡ 4 * n → IsPackFault b 0 fault → IsPackFault a (4 * n) fault
fault_at_end n None b read Shorter eats long is = tt
fault_at_end n (Some xs) None read Shorter eats long is = absurd eats
fault_at_end n (Some xs) (Some ys) read Shorter eats long is = absurd (let none : length ys < 0 = is in omega arith)
fault_at_end n None b read Longer eats long is = tt
fault_at_end n (Some xs) None read Longer eats long is = absurd eats
fault_at_end n (Some xs) (Some ys) read Longer eats long is =
    let some : 0 < length ys = is in
    let both : length xs ≡ length read + length ys = ap length eats ∙ length-append read ys in
    let goal : 4 * n < length xs = omega arith in goal
fault_at_end n a b read (ReadFailed kind) eats long is = tt
fault_at_end n a b read (WriteFailed kind) eats long is = tt

-- all pages have the bytes of all words
pub all_long : (size n : ℕ) → IsPageSize size → 4 * min n (size * page_count size n) ≡ 4 * n
all_long size n (inl is) = subst (λ s. 4 * min n (s * page_count s n) ≡ 4 * n) (sym is) small
  where
    small : 4 * min n (small_page * page_count small_page n) ≡ 4 * n
    small = omega arith
all_long size n (inr is) = subst (λ s. 4 * min n (s * page_count s n) ≡ 4 * n) (sym is) large
  where
    large : 4 * min n (large_page * page_count large_page n) ≡ 4 * n
    large = omega arith
