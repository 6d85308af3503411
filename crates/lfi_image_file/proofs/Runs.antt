-- The code that has been read, page by page.
use Rattle.std.proofs.Common.{◌≡◌, ℕ, zero, suc, ◌+◌, ◌-◌, ◌*◌, ◌/◌, ◌<◌, ◌≤◌, min, Bool, true, false, if◌then◌else◌, List, [], ◌∷◌, ◌++◌, length, take, Option, Some, None, refl, sym, ◌∙◌, ap, subst, arith, inl, inr, ◌⊎◌, length-append, append_assoc, append-nil, drop, get_or, drop_at}
use Rattle.std.specs.Option.{IfSome}
use Rattle.std.specs.Prelude.{nat_le, not}
use Rattle.std.specs.Io.KnownBytes.{Consumes}
use Rattle.std.proofs.KnownBytes.{Consumes-trans, Consumes-nil}
use Rattle.std.proofs.lemmas.Bool.{cases_lt, leb-true, leb-false}
use Rattle.std.proofs.lemmas.List.{get_or_append_left, get_or-drop, drop-drop}
use Rattle.a64_word.specs.Words.{words_of}
use Rattle.lfi_module.specs.declared.profile.Profile.{Profile}
use Rattle.lfi_rules.specs.declared.fault.Fault.{Fault}
use Rattle.lfi_rules.specs.Faults.{FirstFault}
use Rattle.lfi_image_file.specs.declared.fault.ImageFault.{ImageFault}
use Rattle.lfi_image_file.specs.declared.fault.ImageFault.TheVariants.{Magic, Profile as OtherProfile, Counts, Base, Truncated, More, Unlawful, NoMemory, Device}
use Rattle.lfi_image.specs.Image.{Module, Image}
use Rattle.lfi_image_file.specs.Files.{header_of, code_of, FileOf}
use Rattle.lfi_image.specs.Built.{due}
use Rattle.lfi_image_file.specs.Reading.{count_in, named_profile, header_fault, whole_pages, page_end, IsCodeFault, IsFault, IsUnread, IsRestUnread, of_header, of_code}
use Rattle.lfi_image_file.specs.inner.Steps.{ReadsPage, IsPageFault, IsRead}
use Rattle.lfi_image_file.proofs.Pieces.{words_of-append, code_of-append, word_count}
use Rattle.lfi_rules.proofs.Following.{fault_stays, fault_comes}

pub read_more : (p : Profile) (old mid new : Option (List ℕ)) (count : ℕ) (m after : Module) → IsRead p old mid count m.placed → ReadsPage mid new m after → m.extent.profile ≡ p → m.extent.words ≡ count → m.extent.pages ≡ 1024 → length m.placed < count → IsRead p old new count after.placed
read_more p old mid new count m after read step goes same sized less =
    let more = words_of step.page in
    let size : length more ≡ due m = word_count step.page (due m) step.size in
    let words : after.placed ≡ m.placed ++ more = ap words_at step.placed in
    let grown = length-append m.placed more in
    let longer : length after.placed ≡ length m.placed + length more = ap length words ∙ grown in
    let is_due : due m ≡ min 1024 (m.extent.words - length m.placed) = ap (λ s. min s (m.extent.words - length m.placed)) sized in
    record {
      code = read.code ++ step.page;
      consumed = Consumes-trans old mid new read.code step.page read.consumed step.consumed;
      spelled = words_of-append read.code step.page (omega (arith, read.size)) ∙ ap (λ l. l ++ more) read.spelled ∙ sym words;
      back = ap code_of words ∙ code_of-append m.placed more ∙ ap (λ l. l ++ code_of more) read.back ∙ ap (λ l. read.code ++ l) step.back;
      size = omega (arith, length-append read.code step.page, read.size, step.size, size, longer);
      within = omega (arith, longer, size, is_due, same, less);
      pages = read.pages + 1;
      whole = λ still. omega (arith, longer, size, is_due, same, still, read.whole less);
      faultless = subst (λ l. FirstFault p l count None) (sym words) (subst (λ n. FirstFault p (m.placed ++ more) n None) same (subst (λ x. FirstFault x (m.placed ++ more) m.extent.words None) goes step.faultless));
    }
  where
    words_at : Module → List ℕ
    words_at w = w.placed

pub read_nothing : (p : Profile) (a : Option (List ℕ)) (count : ℕ) (ws : List ℕ) → ws ≡ [] → FirstFault p [] count None → IsRead p a a count ws
read_nothing p a count ws e none = subst (λ l. IsRead p a a count l) (sym e) (record {
  code = [];
  consumed = Consumes-nil a;
  spelled = refl;
  back = refl;
  size = refl;
  within = omega arith;
  pages = 0;
  whole = λ _. refl;
  faultless = none;
})

low_test : (n m : ℕ) → m < n → nat_le n m ≡ false
low_test n m less = go (nat_le n m) refl
  where
    go : (b : Bool) → nat_le n m ≡ b → nat_le n m ≡ false
    go true e = absurd (omega (arith, leb-true n m e, less))
    go false e = e

take_front : (xs ys : List ℕ) → take (length xs) (xs ++ ys) ≡ xs
take_front [] ys = refl
take_front (x ∷ xs) ys = ap (λ l. x ∷ l) (take_front xs ys)

take_past : (front rest : List ℕ) (k : ℕ) → length front ≤ k → take k (front ++ rest) ≡ front ++ take (k - length front) rest
take_past [] rest k low = ap (λ n. take n rest) (let e : k ≡ k - 0 = omega arith in e)
take_past (x ∷ front) rest zero low = absurd (omega (arith, low))
take_past (x ∷ front) rest (suc k) low = ap (λ l. x ∷ l) (take_past front rest k (omega (arith, low)) ∙ ap (λ n. front ++ take n rest) (let e : k - length front ≡ suc k - suc (length front) = omega arith in e))

take_most : (k : ℕ) (xs : List ℕ) → length (take k xs) ≤ k
take_most zero xs = omega arith
take_most (suc k) [] = omega arith
take_most (suc k) (x ∷ xs) = omega (arith, take_most k xs)

-- The pages that are whole are those that were read, where the rest is no page.
whole_is : (n pages : ℕ) (code rest : List ℕ) → length code ≡ 4096 * pages → length rest < 4096 → length code + length rest < 4 * n → whole_pages n (code ++ rest) ≡ code
whole_is n pages code rest size less short =
    let all : length (code ++ rest) ≡ length code + length rest = length-append code rest in
    ap (λ b. if b then take (4 * n) (code ++ rest) else take (4096 * (length (code ++ rest) / 4096)) (code ++ rest)) (low_test (4 * n) (length (code ++ rest)) (omega (arith, all, short)))
    ∙ ap (λ k. take k (code ++ rest)) (let e : 4096 * (length (code ++ rest) / 4096) ≡ length code = omega (arith, all, size, less) in e)
    ∙ take_front code rest

-- The pages that are whole begin with those that were read and one more.
whole_begins : (n pages : ℕ) (front rest : List ℕ) → length front ≤ 4 * n → ((length front ≡ 4096 * pages) ⊎ (length front ≡ 4 * n))
    → (more : List ℕ) × (whole_pages n (front ++ rest) ≡ front ++ more) × (length (whole_pages n (front ++ rest)) ≤ 4 * n)
whole_begins n pages front rest fits even = by_test (nat_le (4 * n) (length text)) refl
  where
    text : List ℕ
    text = front ++ rest

    all : length (front ++ rest) ≡ length front + length rest
    all = length-append front rest

    cut : (k : ℕ) → length front ≤ k → k ≤ 4 * n → whole_pages n (front ++ rest) ≡ take k (front ++ rest)
        → (more : List ℕ) × (whole_pages n (front ++ rest) ≡ front ++ more) × (length (whole_pages n (front ++ rest)) ≤ 4 * n)
    cut k low high e = (take (k - length front) rest, e ∙ take_past front rest k low, omega (arith, ap length e, take_most k (front ++ rest), high))

    by_test : (b : Bool) → nat_le (4 * n) (length (front ++ rest)) ≡ b
        → (more : List ℕ) × (whole_pages n (front ++ rest) ≡ front ++ more) × (length (whole_pages n (front ++ rest)) ≤ 4 * n)
    by_test true test = cut (4 * n) fits (omega arith) (ap (λ b. if b then take (4 * n) (front ++ rest) else take (4096 * (length (front ++ rest) / 4096)) (front ++ rest)) test)
    by_test false test =
        let short : length (front ++ rest) < 4 * n = omega (arith, leb-false (4 * n) (length (front ++ rest)) test) in
        let low : length front ≤ 4096 * (length (front ++ rest) / 4096) = elim even [
          | inl e ↦ omega (arith, e, all)
          | inr e ↦ absurd (omega (arith, e, all, short))
        ] in
        cut (4096 * (length (front ++ rest) / 4096)) low (omega (arith, short)) (ap (λ b. if b then take (4 * n) (front ++ rest) else take (4096 * (length (front ++ rest) / 4096)) (front ++ rest)) test)

-- what is wrong with a page is wrong with the code
pub page_fault : (p : Profile) (old mid new : Option (List ℕ)) (count : ℕ) (m : Module) (fault : ImageFault) → IsRead p old mid count m.placed → m.extent.profile ≡ p → m.extent.words ≡ count → m.extent.pages ≡ 1024 → length m.placed < count
    → IsPageFault mid new m fault → IfSome old (λ code. IsCodeFault p count code fault)
page_fault p None mid new count m fault read goes same sized less told = tt
page_fault p (Some xs) None new count m fault read goes same sized less told = absurd read.consumed
page_fault p (Some xs) (Some ys) new count m NoMemory read goes same sized less told = tt
page_fault p (Some xs) (Some ys) new count m Device read goes same sized less told = tt
page_fault p (Some xs) (Some ys) new count m Magic read goes same sized less told = absurd told
page_fault p (Some xs) (Some ys) new count m OtherProfile read goes same sized less told = absurd told
page_fault p (Some xs) (Some ys) new count m Counts read goes same sized less told = absurd told
page_fault p (Some xs) (Some ys) new count m Base read goes same sized less told = absurd told
page_fault p (Some xs) (Some ys) new count m More read goes same sized less told = absurd told
page_fault p (Some xs) (Some ys) new count m Truncated read goes same sized less told =
    let is_due : due m ≡ min 1024 (m.extent.words - length m.placed) = ap (λ s. min s (m.extent.words - length m.placed)) sized in
    let all : length xs ≡ length read.code + length ys = ap length read.consumed ∙ length-append read.code ys in
    let short : length ys < 4 * due m = told in
    let even : length read.code ≡ 4096 * read.pages = omega (arith, read.size, read.whole less) in
    let whole : whole_pages count xs ≡ read.code = ap (whole_pages count) read.consumed ∙ whole_is count read.pages read.code ys even (omega (arith, short, is_due)) (omega (arith, short, is_due, same, less, read.size)) in
    (subst (λ ws. FirstFault p ws count None) (sym (ap words_of whole ∙ read.spelled)) read.faultless, omega (arith, all, short, is_due, same, less, read.size))
page_fault p (Some xs) (Some ys) None count m (Unlawful fault) read goes same sized less told = absurd told.consumed
page_fault p (Some xs) (Some ys) (Some rest) count m (Unlawful fault) read goes same sized less told =
    let page : List ℕ = told.page in
    let size : length page ≡ 4 * due m = told.size in
    let is_due : due m ≡ min 1024 (m.extent.words - length m.placed) = ap (λ s. min s (m.extent.words - length m.placed)) sized in
    let front : List ℕ = read.code ++ page in
    let long : length front ≡ length read.code + length page = length-append read.code page in
    let text : xs ≡ front ++ rest = read.consumed ∙ ap (λ l. read.code ++ l) told.consumed ∙ sym (append_assoc read.code page rest) in
    let even : (length front ≡ 4096 * (read.pages + 1)) ⊎ (length front ≡ 4 * count) = elim (cases_lt (m.extent.words - length m.placed) 1024) [
      | inl small ↦ inr (omega (arith, long, size, is_due, same, less, read.size, small))
      | inr large ↦ inl (omega (arith, long, size, is_due, read.size, read.whole less, large))
    ] in
    let begins = whole_begins count (read.pages + 1) front rest (omega (arith, long, size, is_due, same, less, read.size)) even in
    let more : List ℕ = begins.0 in
    let words_front : words_of front ≡ m.placed ++ words_of page = words_of-append read.code page (omega (arith, read.size)) ∙ ap (λ l. l ++ words_of page) read.spelled in
    let words : words_of (whole_pages count xs) ≡ (m.placed ++ words_of page) ++ words_of more =
    ap (λ l. words_of (whole_pages count l)) text ∙ ap words_of begins.1 ∙ words_of-append front more (omega (arith, long, size, read.size)) ∙ ap (λ l. l ++ words_of more) words_front in
    subst (λ ws. FirstFault p ws count (Some fault)) (sym words) (fault_stays p (m.placed ++ words_of page) (words_of more) count fault
    (subst (λ n. FirstFault p (m.placed ++ words_of page) n (Some fault)) same (subst (λ x. FirstFault x (m.placed ++ words_of page) m.extent.words (Some fault)) goes told.first)))

-- what follows a page with a fault is left
pub page_unread : (p : Profile) (old mid new : Option (List ℕ)) (count : ℕ) (m : Module) (fault : ImageFault) → IsRead p old mid count m.placed → m.extent.profile ≡ p → m.extent.words ≡ count → m.extent.pages ≡ 1024 → length m.placed < count
    → IsPageFault mid new m fault → IfSome old (λ code. IsUnread count code new fault)
page_unread p None mid new count m fault read goes same sized less told = tt
page_unread p (Some xs) None new count m fault read goes same sized less told = absurd read.consumed
page_unread p (Some xs) (Some ys) new count m NoMemory read goes same sized less told = tt
page_unread p (Some xs) (Some ys) new count m Device read goes same sized less told = tt
page_unread p (Some xs) (Some ys) new count m Magic read goes same sized less told = tt
page_unread p (Some xs) (Some ys) new count m OtherProfile read goes same sized less told = tt
page_unread p (Some xs) (Some ys) new count m Counts read goes same sized less told = tt
page_unread p (Some xs) (Some ys) new count m Base read goes same sized less told = tt
page_unread p (Some xs) (Some ys) new count m More read goes same sized less told = tt
page_unread p (Some xs) (Some ys) new count m Truncated read goes same sized less told = tt
page_unread p (Some xs) (Some ys) None count m (Unlawful fault) read goes same sized less told = absurd told.consumed
page_unread p (Some xs) (Some ys) (Some rest) count m (Unlawful fault) read goes same sized less told =
    let page : List ℕ = told.page in
    let size : length page ≡ 4 * due m = told.size in
    let is_due : due m ≡ min 1024 (m.extent.words - length m.placed) = ap (λ s. min s (m.extent.words - length m.placed)) sized in
    let front : List ℕ = read.code ++ page in
    let long : length front ≡ length read.code + length page = length-append read.code page in
    let text : xs ≡ front ++ rest = read.consumed ∙ ap (λ l. read.code ++ l) told.consumed ∙ sym (append_assoc read.code page rest) in
    let words : length (words_of page) ≡ due m = word_count page (due m) size in
    let at = fault_comes p m.placed (words_of page) m.extent.words fault (subst (λ n. FirstFault p m.placed n None) (sym same) read.faultless) (subst (λ x. FirstFault x (m.placed ++ words_of page) m.extent.words (Some fault)) goes told.first) in
    let before : length m.placed ≡ 1024 * read.pages = read.whole less in
    let low : 1024 * read.pages ≤ fault.word = omega (arith, before, at.0) in
    let high : fault.word < 1024 * read.pages + 1024 = omega (arith, before, at.1, words, is_due) in
    let place : fault.word / 1024 ≡ read.pages = omega (arith, low, high) in
    let end : length front ≡ page_end count fault.word = omega (arith, long, size, is_due, same, less, read.size, before, place) in
    ap Some (sym (ap (drop (page_end count fault.word)) text ∙ drop_at front rest (page_end count fault.word) end))

-- what is wrong with the header, the code or the end is wrong with the file
pub header_told : (old new : Option (List ℕ)) (header : List ℕ) (fault : ImageFault) → Consumes old new header → length header ≡ 24 → header_fault header ≡ Some fault
    → IfSome old (λ bytes. IsFault bytes fault)
header_told None new header fault consumed long told = tt
header_told (Some xs) None header fault consumed long told = absurd consumed
header_told (Some xs) (Some ys) header fault consumed long told = of_header header ys consumed long told

pub code_told : (p : Profile) (old new : Option (List ℕ)) (header : List ℕ) (n : ℕ) (fault : ImageFault) → Consumes old new header → length header ≡ 24 → header_fault header ≡ None → p ≡ named_profile header → n ≡ count_in header
    → IfSome new (λ code. IsCodeFault p n code fault) → IfSome old (λ bytes. IsFault bytes fault)
code_told p None new header n fault consumed long none goes count told = tt
code_told p (Some xs) None header n fault consumed long none goes count told = absurd consumed
code_told p (Some xs) (Some ys) header n fault consumed long none goes count told =
    of_code header ys consumed long none (subst (λ x. IsCodeFault x (count_in header) ys fault) goes (subst (λ k. IsCodeFault p k ys fault) count told))

pub more_told : (p : Profile) (old new : Option (List ℕ)) (n : ℕ) (words : List ℕ) → IsRead p old new n words → length words ≡ n → IfSome new (λ rest. 0 < length rest)
    → IfSome old (λ code. IsCodeFault p n code More)
more_told p None new n words read all some = tt
more_told p (Some xs) None n words read all some = absurd read.consumed
more_told p (Some xs) (Some ys) n words read all some =
    let long : length xs ≡ length read.code + length ys = ap length read.consumed ∙ length-append read.code ys in
    let begins = whole_begins n read.pages read.code ys (omega (arith, read.size, all)) (inr (omega (arith, read.size, all))) in
    let size : length (whole_pages n (read.code ++ ys)) ≡ length read.code + length begins.0 = ap length begins.1 ∙ length-append read.code begins.0 in
    let none : length begins.0 ≡ 0 = omega (arith, size, begins.2, read.size, all) in
    let whole : whole_pages n xs ≡ read.code = ap (whole_pages n) read.consumed ∙ begins.1 ∙ nothing_more read.code begins.0 none in
    (subst (λ ws. FirstFault p ws n None) (sym (ap words_of whole ∙ read.spelled)) read.faultless, omega (arith, long, read.size, all, some))
  where
    nothing_more : (xs ms : List ℕ) → length ms ≡ 0 → xs ++ ms ≡ xs
    nothing_more xs [] e = append-nil xs
    nothing_more xs (m ∷ ms) e = absurd (omega (arith, e))

pub file_told : (p : Profile) (old mid new : Option (List ℕ)) (header : List ℕ) (n : ℕ) (words : List ℕ) (image : Image) → Consumes old mid header → IsRead p mid new n words → IfSome new (λ rest. rest ≡ [])
    → header ≡ header_of (length image.words) image.entry image.profile image.slot → words ≡ image.words → IfSome old (λ bytes. FileOf image bytes)
file_told p None mid new header n words image consumed read ended first same = tt
file_told p (Some xs) None new header n words image consumed read ended first same = absurd consumed
file_told p (Some xs) (Some ys) None header n words image consumed read ended first same = absurd read.consumed
file_told p (Some xs) (Some ys) (Some zs) header n words image consumed read ended first same =
    let rest : ys ≡ code_of image.words = read.consumed ∙ ap (λ l. read.code ++ l) ended ∙ append-nil read.code ∙ sym read.back ∙ ap code_of same in
    consumed ∙ (λ i. first i ++ rest i)

-- what is left of a file, by what is left of its code
count_front : (header code : List ℕ) → length header ≡ 24 → count_in (header ++ code) ≡ count_in header
count_front header code long = λ j. byte 0 (omega (arith, long)) j + 256 * (byte 1 (omega (arith, long)) j + 256 * (byte 2 (omega (arith, long)) j + 256 * (byte 3 (omega (arith, long)) j + 256 * 0)))
  where
    byte : (i : ℕ) → 4 + i < length header → get_or (drop 4 (header ++ code)) i 0 ≡ get_or (drop 4 header) i 0
    byte i within = get_or-drop 4 (header ++ code) i 0 ∙ get_or_append_left header code 0 (4 + i) within ∙ sym (get_or-drop 4 header i 0)

pub file_unread : (old mid new : Option (List ℕ)) (header : List ℕ) (n : ℕ) (fault : ImageFault) → Consumes old mid header → length header ≡ 24 → n ≡ count_in header
    → IfSome mid (λ code. IsUnread n code new fault) → IfSome old (λ bytes. IsRestUnread bytes new fault)
file_unread None mid new header n fault consumed long count told = tt
file_unread (Some xs) None new header n fault consumed long count told = absurd consumed
file_unread (Some xs) (Some ys) new header n NoMemory consumed long count told = tt
file_unread (Some xs) (Some ys) new header n Device consumed long count told = tt
file_unread (Some xs) (Some ys) new header n Magic consumed long count told = tt
file_unread (Some xs) (Some ys) new header n OtherProfile consumed long count told = tt
file_unread (Some xs) (Some ys) new header n Counts consumed long count told = tt
file_unread (Some xs) (Some ys) new header n Base consumed long count told = tt
file_unread (Some xs) (Some ys) new header n More consumed long count told = tt
file_unread (Some xs) (Some ys) new header n Truncated consumed long count told = tt
file_unread (Some xs) (Some ys) new header n (Unlawful fault) consumed long count told =
    let words : n ≡ count_in xs = count ∙ sym (ap count_in consumed ∙ count_front header ys long) in
    let code : drop 24 xs ≡ ys = ap (drop 24) consumed ∙ drop_at header ys 24 long in
    told ∙ ap Some (ap (drop (page_end n fault.word)) (sym code) ∙ drop-drop (page_end n fault.word) 24 xs ∙ ap (λ k. drop (24 + page_end k fault.word) xs) words)

-- A fault of a header isn't one of a page.
by_tests : (x y z w : Bool) (fault : Fault) → (if not x then Some Magic else if not y then Some OtherProfile else if z then Some Counts else if not w then Some Base else None) ≡ Some (Unlawful fault) → ⊥
by_tests false y z w fault e = cc
by_tests true false z w fault e = cc
by_tests true true true w fault e = cc
by_tests true true false false fault e = cc
by_tests true true false true fault e = cc

not_of_header : (header : List ℕ) (fault : Fault) → header_fault header ≡ Some (Unlawful fault) → ⊥
unfolding header_fault
not_of_header header fault told = by_tests _ _ _ _ fault told

pub header_unread : (old new : Option (List ℕ)) (header : List ℕ) (fault : ImageFault) → header_fault header ≡ Some fault → IfSome old (λ bytes. IsRestUnread bytes new fault)
header_unread None new header fault told = tt
header_unread (Some xs) new header NoMemory told = tt
header_unread (Some xs) new header Device told = tt
header_unread (Some xs) new header Magic told = tt
header_unread (Some xs) new header OtherProfile told = tt
header_unread (Some xs) new header Counts told = tt
header_unread (Some xs) new header Base told = tt
header_unread (Some xs) new header More told = tt
header_unread (Some xs) new header Truncated told = tt
header_unread (Some xs) new header (Unlawful fault) told = absurd (not_of_header header fault told)

-- Memory is asked for after a header without a fault.
pub memory_told : (old new : Option (List ℕ)) (header : List ℕ) → Consumes old new header → length header ≡ 24 → header_fault header ≡ None → IfSome old (λ bytes. IsFault bytes NoMemory)
memory_told None new header consumed long none = tt
memory_told (Some xs) None header consumed long none = absurd consumed
memory_told (Some xs) (Some ys) header consumed long none = of_code header ys consumed long none tt
