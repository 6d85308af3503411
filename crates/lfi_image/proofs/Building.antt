-- One more page of a module, and the words by their pages.
use Rattle.std.proofs.Common.{◌≡◌, ℕ, zero, suc, ◌+◌, ◌-◌, ◌*◌, ◌/◌, ◌%◌, ◌<◌, ◌≤◌, min, List, [], ◌∷◌, ◌++◌, length, get_or, Option, None, refl, sym, ◌∙◌, ap, subst, arith, length-append, append_assoc, append-nil, inl, inr}
use Rattle.std.proofs.Math.Nat.{mul-suc, mul-zero}
use Rattle.lfi_module.specs.Pages.{IsPageSize, HasPages}
use Rattle.std.proofs.lemmas.List.{get_or_append_left, get_or-append-add}
use Rattle.a64_word.specs.Words.{words_of}
use Rattle.page_buf.specs.Page.{PageView}
use Rattle.lfi_module.specs.declared.profile.Profile.{Profile}
use Rattle.lfi_rules.specs.declared.needs.Need.{Need}
use Rattle.lfi_rules.specs.declared.fault.Fault.{Fault}
use Rattle.lfi_rules.specs.declared.verdict.PageVerdict.{PageVerdict}
use Rattle.lfi_rules.specs.Faults.{FirstFault}
use Rattle.lfi_rules.specs.Verdicts.{Judges, LeavesOpen}
use Rattle.lfi_image.specs.Built.{words_in}
use Rattle.lfi_image.specs.inner.Builders.{IsBuilt, IsFull, AllFull, AreFull}
use Rattle.lfi_image.specs.Image.{IsImage}

pub words_in-append : (ps qs : List PageView) → words_in (ps ++ qs) ≡ words_in ps ++ words_in qs
words_in-append [] qs = refl
words_in-append (p ∷ ps) qs = ap (λ l. words_of p.bytes ++ l) (words_in-append ps qs) ∙ sym (append_assoc (words_of p.bytes) (words_in ps) (words_in qs))

pub words_in-more : (ps : List PageView) (p : PageView) → words_in (ps ++ p ∷ []) ≡ words_in ps ++ words_of p.bytes
words_in-more ps p = words_in-append ps (p ∷ []) ∙ ap (λ l. words_in ps ++ l) (append-nil (words_of p.bytes))

-- full pages
pub full_words : (size : ℕ) (ps : List PageView) → AllFull size ps → length (words_in ps) ≡ size * length ps
full_words size [] full = sym (mul-zero size)
full_words size (p ∷ ps) full = let one : length (words_of p.bytes) ≡ size = full.0 in omega (arith, length-append (words_of p.bytes) (words_in ps), one, full_words size ps full.1, mul-suc size (length ps))

pub full_more : (size : ℕ) (ps : List PageView) (p : PageView) → AllFull size ps → IsFull size p → AllFull size (ps ++ p ∷ [])
full_more size [] p full last = (last, tt)
full_more size (q ∷ ps) p full last = (full.0, full_more size ps p full.1 last)

pub full_before : (size : ℕ) (ps : List PageView) (p : PageView) → AllFull size ps → length (words_of p.bytes) ≤ size → AreFull size (ps ++ p ∷ [])
full_before size [] p full last = last
full_before size (q ∷ []) p full last = (full.0, last)
full_before size (q ∷ r ∷ ps) p full last = (full.0, full_before size (r ∷ ps) p full.1 last)

-- what the fields of a builder say of the module that it is
module _ (p : Profile) (size count first slot placed : ℕ) (tail : Need) (pages : List PageView) (ws : List ℕ) (n : ℕ)
    (built : IsBuilt p size count first slot placed tail pages) (words : words_in pages ≡ ws) (same : count ≡ n) where
  pub placed_is : placed ≡ length ws
  placed_is = built.all ∙ ap length words

  pub none_yet : (q : Profile) → p ≡ q → FirstFault q ws n None
  none_yet q goes = subst (λ x. FirstFault x ws n None) goes (subst (λ k. FirstFault p ws k None) same (subst (λ l. FirstFault p l count None) words built.faultless))

  -- with all its words placed it is an image
  pub image_of : (q : Profile) (e s : ℕ) → p ≡ q → first ≡ e → slot ≡ s → count ≤ placed → IsImage (record { profile = q; entry = e; slot = s; words = ws }) × (length ws ≡ n)
  image_of q e s goes same_entry same_slot whole =
      let len : length ws ≡ count = omega (arith, placed_is, built.within, whole) in (
        record {
          lawful = record {
            some = omega (arith, len, built.some);
            most = omega (arith, len, built.most);
            faultless = subst (λ k. FirstFault q ws k None) (sym (len ∙ same)) (none_yet q goes);
          };
          entry = omega (arith, len, built.entry_in, same_entry);
          slot = omega (arith, built.slot_in, same_slot);
        },
        len ∙ same,
      )

pub built_more : (p : Profile) (size count first slot placed : ℕ) (tail left : Need) (pages : List PageView) (page : PageView)
    → IsBuilt p size count first slot placed tail pages → 1 ≤ length (words_of page.bytes) → LeavesOpen p (words_in pages ++ words_of page.bytes) left
    → FirstFault p (words_in pages ++ words_of page.bytes) count None → length (words_of page.bytes) ≡ min size (count - placed)
    → IsBuilt p size count first slot (placed + length (words_of page.bytes)) left (pages ++ page ∷ [])
built_more p size count first slot placed tail left pages page built some leaves none due =
    let words = words_in-more pages page in
    let long : length (words_in (pages ++ page ∷ [])) ≡ placed + length (words_of page.bytes) = ap length words ∙ length-append (words_in pages) (words_of page.bytes) ∙ ap (λ n. n + length (words_of page.bytes)) (sym built.all) in
    let room : placed < count = omega (arith, some, due, built.within) in
    record {
      sized = built.sized;
      some = built.some;
      most = built.most;
      entry_in = built.entry_in;
      slot_in = built.slot_in;
      all = sym long;
      within = omega (arith, due, room);
      whole = λ less. full_more size pages page (built.whole room) (let full : length (words_of page.bytes) ≡ size = omega (arith, due, less) in full);
      full = full_before size pages page (built.whole room) (omega (arith, due));
      faultless = subst (λ l. FirstFault p l count None) (sym words) none;
      leaves = subst (λ l. LeavesOpen p l left) (sym words) leaves;
    }

-- There is room for another page while words are missing.
room_of : (size count k placed : ℕ) → IsPageSize size → placed ≡ size * k → placed < count → k < (count + (size - 1)) / size
room_of size count k placed (inl small) at room =
    let here : placed ≡ 1024 * k = at ∙ ap (λ s. s * k) small in
    subst (λ s. k < (count + (s - 1)) / s) (sym small) (let goal : k < (count + 1023) / 1024 = omega (arith, here, room) in goal)
room_of size count k placed (inr large) at room =
    let here : placed ≡ 4096 * k = at ∙ ap (λ s. s * k) large in
    subst (λ s. k < (count + (s - 1)) / s) (sym large) (let goal : k < (count + 4095) / 4096 = omega (arith, here, room) in goal)

pub room_for_page : (p : Profile) (size count first slot placed : ℕ) (tail : Need) (pages : List PageView) → IsBuilt p size count first slot placed tail pages → placed < count → length pages < (count + (size - 1)) / size
room_for_page p size count first slot placed tail pages built room = room_of size count (length pages) placed built.sized (built.all ∙ full_words size pages (built.whole room)) room

-- Places for small pages are enough for large ones.
pub enough_places : (size n most : ℕ) → IsPageSize size → n ≤ most → (n + (size - 1)) / size ≤ (most + 1023) / 1024
enough_places size n most (inl small) few = subst (λ s. (n + (s - 1)) / s ≤ (most + 1023) / 1024) (sym small) (let goal : (n + 1023) / 1024 ≤ (most + 1023) / 1024 = omega (arith, few) in goal)
enough_places size n most (inr large) few = subst (λ s. (n + (s - 1)) / s ≤ (most + 1023) / 1024) (sym large) (let goal : (n + 4095) / 4096 ≤ (most + 1023) / 1024 = omega (arith, few) in goal)

-- The pages of an extent are of one of the two sizes.
pub sized : (profile : Profile) (size : ℕ) → HasPages profile size → IsPageSize size
sized profile size (inl small) = inl small
sized profile size (inr large) = inr large.1

-- The word size * k + r of pages is the word r of the page k.
pub word_in_page : (size : ℕ) (ps : List PageView) → AreFull size ps → (i k r : ℕ) (d : PageView) → i ≡ size * k + r → r < size → i < length (words_in ps)
    → (k < length ps) × (r < length (words_of (get_or ps k d).bytes)) × (get_or (words_of (get_or ps k d).bytes) r 0 ≡ get_or (words_in ps) i 0)
word_in_page size [] full i k r d e low within = absurd (omega (arith, within))
word_in_page size (p ∷ []) full i zero r d e low within =
    let long : length (words_of p.bytes ++ []) ≡ length (words_of p.bytes) = ap length (append-nil (words_of p.bytes)) in
    let same : r ≡ i = omega (arith, e, mul-zero size) in
    (omega arith, omega (arith, same, long, within), ap (λ j. get_or (words_of p.bytes) j 0) same ∙ ap (λ l. get_or l i 0) (sym (append-nil (words_of p.bytes))))
word_in_page size (p ∷ []) full i (suc k) r d e low within =
    let long : length (words_of p.bytes ++ []) ≡ length (words_of p.bytes) = ap length (append-nil (words_of p.bytes)) in
    absurd (omega (arith, e, long, within, full, mul-suc size k))
word_in_page size (p ∷ q ∷ ps) full i zero r d e low within =
    let len : length (words_of p.bytes) ≡ size = full.0 in
    let same : r ≡ i = omega (arith, e, mul-zero size) in
    (omega arith, omega (arith, len, low), ap (λ j. get_or (words_of p.bytes) j 0) same ∙ sym (get_or_append_left (words_of p.bytes) (words_in (q ∷ ps)) 0 i (omega (arith, len, low, same))))
word_in_page size (p ∷ q ∷ ps) full i (suc k) r d e low within =
    let len : length (words_of p.bytes) ≡ size = full.0 in
    let rest = words_in (q ∷ ps) in
    let place : i ≡ length (words_of p.bytes) + (size * k + r) = omega (arith, e, len, mul-suc size k) in
    let more = word_in_page size (q ∷ ps) full.1 (size * k + r) k r d refl low (omega (arith, within, place, length-append (words_of p.bytes) rest)) in
    (omega (arith, more.0), more.1, more.2 ∙ sym (get_or-append-add (words_of p.bytes) rest (size * k + r) 0) ∙ ap (λ j. get_or (words_of p.bytes ++ rest) j 0) (sym place))

abbrev WordAt : (ps : List PageView) (i : ℕ) (d : PageView) (s : ℕ) → Type 0
WordAt ps i d s = (i / s < length ps) × (i % s < length (words_of (get_or ps (i / s) d).bytes)) × (get_or (words_of (get_or ps (i / s) d).bytes) (i % s) 0 ≡ get_or (words_in ps) i 0)

pub word_of_page : (size : ℕ) (ps : List PageView) → IsPageSize size → AreFull size ps → (i : ℕ) (d : PageView) → i < length (words_in ps)
    → (i / size < length ps) × (i % size < length (words_of (get_or ps (i / size) d).bytes)) × (get_or (words_of (get_or ps (i / size) d).bytes) (i % size) 0 ≡ get_or (words_in ps) i 0)
word_of_page size ps (inl small) full i d within =
    subst (λ s. WordAt ps i d s) (sym small)
    (word_in_page 1024 ps (subst (λ s. AreFull s ps) small full) i (i / 1024) (i % 1024) d (omega arith) (omega arith) within)
word_of_page size ps (inr large) full i d within =
    subst (λ s. WordAt ps i d s) (sym large)
    (word_in_page 4096 ps (subst (λ s. AreFull s ps) large full) i (i / 4096) (i % 4096) d (omega arith) (omega arith) within)

pub at_size : (s size : ℕ) (ps : List PageView) → s ≡ size → IsPageSize size → AreFull size ps → (i : ℕ) (d : PageView) → i < length (words_in ps)
    → (i / s < length ps) × (i % s < length (words_of (get_or ps (i / s) d).bytes)) × (get_or (words_of (get_or ps (i / s) d).bytes) (i % s) 0 ≡ get_or (words_in ps) i 0)
at_size s size ps same is full i d within = subst (λ z. WordAt ps i d z) (sym same) (word_of_page size ps is full i d within)

-- A page that was judged at the place and in the module of a builder.
pub judged_there : (p q : Profile) (page : List ℕ) (first place words n : ℕ) (verdict : PageVerdict) → p ≡ q → first ≡ place → words ≡ n → Judges p page first words verdict → Judges q page place n verdict
judged_there p q page first place words n verdict goes at same judged =
    subst (λ x. Judges x page place n verdict) goes (subst (λ k. Judges p page k n verdict) at (subst (λ k. Judges p page first k verdict) same judged))

-- The same fault, told of the module that a builder is.
pub told_of : (p q : Profile) (pages ws page : List ℕ) (words n : ℕ) (found fault : Option Fault) → p ≡ q → pages ≡ ws → words ≡ n → found ≡ fault → FirstFault p (pages ++ page) words found → FirstFault q (ws ++ page) n fault
told_of p q pages ws page words n found fault goes same size is first =
    subst (λ x. FirstFault x (ws ++ page) n fault) goes
    (subst (λ f. FirstFault p (ws ++ page) n f) is (subst (λ k. FirstFault p (ws ++ page) k found) size (subst (λ l. FirstFault p (l ++ page) words found) same first)))
