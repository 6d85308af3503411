-- Messages of a module are without fault.
use Rattle.std.proofs.Common.{◌≡◌, ℕ, suc, ◌+◌, ◌-◌, ◌*◌, ◌/◌, ◌<◌, ◌≤◌, ◌^◌, ◌%◌, List, [], ◌∷◌, length, Some, None, refl, sym, ◌∙◌, ap, subst, inl, inr, arith, slice_get, min}
use Rattle.std.specs.Prelude.{true, not, ◌&&◌, if◌then◌else◌, All}
use Rattle.std.proofs.lemmas.Bool.{lt-leb, le-leb, lt-ltb, eq-eqb}
use Rattle.std.proofs.lemmas.List.Elements.{All-nil, All-cons}
use Rattle.std.proofs.lemmas.Option.{slice_get_within}
use Rattle.lfi_module.specs.Numbers.{module_count, most_words, small_page, large_page}
use Rattle.lfi_module.specs.Pages.{IsPageSize, page_count, bytes_in_page}
use Rattle.lfi_frame.specs.declared.fault.FrameFault.TheVariants.{Module, PageLength}
use Rattle.lfi_frame.specs.Streams.{page_message, close_message, is_page_length, IsMessage}
use Rattle.lfi_pack.specs.Packs.{AreFirst, numbered}

pub close_is_message : (m : ℕ) → m < module_count → IsMessage (close_message m)
close_is_message m below =
    let a = lt-leb module_count m below in
    record {
      faultless = λ i. (if a i then Some Module else None);
      a_fits = omega arith;
      b_fits = omega arith;
      sizes = tt;
    }

page_length : (size len : ℕ) → 0 < len → len ≤ 4 * size → len % 4 ≡ 0 → is_page_length size len ≡ true
page_length size len some few whole =
    let a = lt-ltb 0 len some in
    let b = le-leb len (4 * size) few in
    let c = eq-eqb (len % 4) 0 whole in
    λ i. a i && b i && c i

pub page_is_message : (m size index : ℕ) (page : List ℕ) → IsPageSize size → m < module_count → index < 2 ^ 32 → 0 < length page → length page ≤ 4 * size → length page % 4 ≡ 0 → IsMessage (page_message m size index page)
page_is_message m size index page (inl is) below fits some few whole = subst (λ s. IsMessage (page_message m s index page)) (sym is) small
  where
    small : IsMessage (page_message m small_page index page)
    small =
        let a = lt-leb module_count m below in
        let b = page_length small_page (length page) some (omega (arith, is, few)) whole in
        record {
          faultless = λ i. (if a i then Some Module else if not (b i) then Some PageLength else None);
          a_fits = fits;
          b_fits = omega (arith, is, few);
          sizes = inl refl;
        }
page_is_message m size index page (inr is) below fits some few whole = subst (λ s. IsMessage (page_message m s index page)) (sym is) large
  where
    large : IsMessage (page_message m large_page index page)
    large =
        let a = lt-leb module_count m below in
        let b = page_length large_page (length page) some (omega (arith, is, few)) whole in
        record {
          faultless = λ i. (if a i then Some Module else if not (b i) then Some PageLength else None);
          a_fits = fits;
          b_fits = omega (arith, is, few);
          sizes = inr refl;
        }

-- of these pages each is one that the module has
abbrev pub Among : (size n index : ℕ) → List (List ℕ) → Type 0
Among size n index pages = (i : ℕ) (page : List ℕ) → slice_get pages i ≡ Some page → (length page ≡ bytes_in_page size n (index + i)) × (index + i < page_count size n)

pub later : (size n index : ℕ) (page : List ℕ) (pages : List (List ℕ)) → Among size n index (page ∷ pages) → Among size n (index + 1) pages
later size n index page pages among i next at =
    let e : index + suc i ≡ (index + 1) + i = omega arith in
    let is = among (suc i) next at in
    (is.0 ∙ ap (λ j. bytes_in_page size n j) e, subst (λ j. j < page_count size n) e is.1)

pub first_is : (size n index : ℕ) (page : List ℕ) (pages : List (List ℕ)) → Among size n index (page ∷ pages) → (length page ≡ bytes_in_page size n index) × (index < page_count size n)
first_is size n index page pages among =
    let e : index + 0 ≡ index = omega arith in
    let is = among 0 page refl in
    (is.0 ∙ ap (λ j. bytes_in_page size n j) e, subst (λ j. j < page_count size n) e is.1)

-- a page that a module of n words has: its index fits its four bytes, and its length is one of such a page
in_range : (size n index len : ℕ) → IsPageSize size → n ≤ most_words → len ≡ bytes_in_page size n index → index < page_count size n → (index < 2 ^ 32) × (0 < len) × (len ≤ 4 * size) × (len % 4 ≡ 0)
in_range size n index len (inl is) few long inside =
    let long_is : len ≡ 4 * min 1024 (n - 1024 * index) = long ∙ ap (λ s. bytes_in_page s n index) is in
    let inside_is : index < (n + 1023) / 1024 = subst (λ s. index < page_count s n) is inside in
    (omega arith, omega arith, omega arith, omega arith)
in_range size n index len (inr is) few long inside =
    let long_is : len ≡ 4 * min 4096 (n - 4096 * index) = long ∙ ap (λ s. bytes_in_page s n index) is in
    let inside_is : index < (n + 4095) / 4096 = subst (λ s. index < page_count s n) is inside in
    (omega arith, omega arith, omega arith, omega arith)

pub pages_are_messages : (m size n index : ℕ) (pages : List (List ℕ)) → IsPageSize size → m < module_count → n ≤ most_words → Among size n index pages → All IsMessage (numbered m size index pages)
pages_are_messages m size n index [] sized below few among = All-nil IsMessage
pages_are_messages m size n index (page ∷ pages) sized below few among =
    let is = first_is size n index page pages among in
    let ranges = in_range size n index (length page) sized few is.0 is.1 in
    All-cons IsMessage (page_message m size index page) (numbered m size (index + 1) pages)
    (page_is_message m size index page sized below ranges.0 ranges.1 ranges.2 ranges.3)
    (pages_are_messages m size n (index + 1) pages sized below few (later size n index page pages among))

pub among_all : (size n : ℕ) (pages : List (List ℕ)) → AreFirst size n (page_count size n) pages → Among size n 0 pages
among_all size n pages first i page at =
    let e : i ≡ 0 + i = omega arith in
    let within = slice_get_within pages i page at in
    let all = first.all in
    (first.each i page at ∙ ap (λ j. bytes_in_page size n j) e, omega arith)
