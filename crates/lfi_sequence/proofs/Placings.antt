-- What the verifier has placed of a module, after one more item.
use Rattle.lfi_module.specs.Extents.{ExtentView}
use Rattle.lfi_rules.specs.declared.rule.Rule.{Rule}
use Rattle.std.proofs.Common.{◌≡◌, ℕ, ◌+◌, ◌-◌, ◌*◌, ◌/◌, ◌<◌, ◌≤◌, List, [], ◌∷◌, ◌++◌, length, Option, Some, None, refl, sym, ◌∙◌, ap, subst, inl, inr, arith, true, min, length-append, append_assoc}
use Rattle.std.specs.Prelude.{is_some}
use Rattle.std.specs.Option.{option_map}
use Rattle.std.proofs.lemmas.List.{append-nil}
use Rattle.std.proofs.lemmas.List.Concat.{flat_map-append}
use Rattle.a64_word.specs.Words.{words_of}
use Rattle.a64_word.proofs.WordLaws.{words_count}
use Rattle.lfi_module.specs.Pages.{IsPageSize, words_due, words_in_page, bytes_in_page}
use Rattle.lfi_model.specs.Item.{ItemView, IsItem, KindFits, KindView}
use Rattle.lfi_model.specs.declared.item.ItemKind.TheVariants.{Open, Page, End}
use Rattle.lfi_model.specs.declared.item.Reason.{Reason}
use Rattle.lfi_rules.specs.declared.fault.Fault.{Fault}
use Rattle.lfi_rules.specs.Faults.{Breaks, FirstFault}
use Rattle.lfi_rules.specs.Verdicts.{all_words}
use Rattle.lfi_image.specs.Image.{Module}
use Rattle.lfi_image.specs.Built.{due, with_placed}
use Rattle.lfi_model.specs.Modules.{OpensFirst, IsNext, IsModule}
use Rattle.lfi_model.specs.Outcomes.{page_of, pages_of, end_of, reason_at, Begins, Placed}
use Rattle.lfi_rules.proofs.Following.{breaks_within, fault_stays}
use Rattle.lfi_image.proofs.Building.{sized}
use Rattle.lfi_model.proofs.Faults.{placed_to_fault, placed_whole, placed_on, all_words-append}
use Rattle.lfi_model.proofs.Numbered.{end_snoc}
use Rattle.lfi_sequence.specs.Refused.{AreNear, IsRefusedFor, judged_words}
use Rattle.lfi_sequence.proofs.Refusals.{judged_more, judged_next, not_all_placed}
use Rattle.lfi_sequence.specs.declared.refused.Refusal.{Refusal}
use Rattle.lfi_sequence.specs.declared.placing.Placing.{Placing}
use Rattle.lfi_sequence.specs.declared.placing.Ended.{Ended}
use Rattle.lfi_sequence.specs.Placed.{extent_at, builder_with, builder_of, fault_of, HasPlaced, IsPlacing}

-- the first fault of the words of a module of this extent
abbrev First : List ℕ → ExtentView → Option Fault → Type 0
First ws extent fault = FirstFault extent.profile ws extent.words fault

-- a beginning that is no shorter is the whole
begins_whole : {A : Type 0} (us pages : List A) → Begins us pages → length pages ≤ length us → us ≡ pages
begins_whole [] [] b l = refl
begins_whole [] (p ∷ pages) b l = absurd (omega arith)
begins_whole (u ∷ us) [] b l = let e = b.1 in absurd (cc)
begins_whole (u ∷ us) (p ∷ pages) b l =
    let e = b.1 in
    let tails : us ≡ pages = begins_whole us pages (b.0, cc) (omega arith) in cc

-- where all pages are lawful, all have been placed
pub placed_all : (n : ExtentView) (pages us : List (List ℕ)) → Placed n pages us → First (all_words pages) n None → us ≡ pages
placed_all n pages us placed lawful = begins_whole us pages placed.beginning (placed.longest pages ([], sym (append-nil pages)) lawful)

pub pages_snoc : (items : List ItemView) (x : ItemView) → pages_of (items ++ x ∷ []) ≡ pages_of items ++ page_of x.kind
pages_snoc items x = flat_map-append (λ item. page_of item.kind) items (x ∷ []) ∙ ap (λ l. pages_of items ++ l) (append-nil (page_of x.kind))

words_snoc : (pages : List (List ℕ)) (page : List ℕ) → all_words (pages ++ page ∷ []) ≡ all_words pages ++ page
words_snoc pages page = all_words-append pages (page ∷ []) ∙ ap (λ l. all_words pages ++ l) (append-nil page)

-- a beginning of a module's items is numbered too
pub module_prefix : (xs ys : List ItemView) → IsModule (xs ++ ys) → IsModule xs
module_prefix xs ys numbered before after x is = numbered before (after ++ ys) x (ap (λ l. l ++ ys) is ∙ append_assoc before (x ∷ after) ys)

-- after the Open all items but an End are pages
pages_rest : (first : ItemView) (before ys : List ItemView) → IsModule ((first ∷ before) ++ ys) → end_of ys ≡ None → length (pages_of ys) ≡ length ys
pages_rest first before [] numbered none = refl
pages_rest first before (y ∷ ys) numbered none =
    by (λ e. pages_rest first (before ++ y ∷ []) ys (subst (λ l. IsModule l) (sym (append_assoc (first ∷ before) (y ∷ []) ys)) numbered) e) y.kind refl ((numbered (first ∷ before) ys y refl).opens)
  where
    by : (end_of ys ≡ None → length (pages_of ys) ≡ length ys) → (kind : KindView) → y.kind ≡ kind → OpensFirst (first ∷ before) kind → length (pages_of (y ∷ ys)) ≡ length (y ∷ ys)
    by rest Open is h = absurd h
    by rest (Page bytes) is h =
        let e : end_of ys ≡ None = sym (ap (λ k. reason_at k (end_of ys)) is) ∙ none in
        let l = rest e in
        let page : length (pages_of (y ∷ ys)) ≡ length (words_of bytes ∷ pages_of ys) = ap (λ k. length (page_of k ++ pages_of ys)) is in
        page ∙ (omega arith)
    by rest (End reason) is h = absurd (let e : Some reason ≡ None = sym (ap (λ k. reason_at k (end_of ys)) is) ∙ none in cc)

opens_no_page : (kind : KindView) → OpensFirst [] kind → (page_of kind ≡ []) × (reason_at kind None ≡ None)
opens_no_page Open h = (refl, refl)
opens_no_page (Page bytes) h = absurd h
opens_no_page (End reason) h = absurd h

end_later : (kind : KindView) (later : Option Reason) → reason_at kind later ≡ None → later ≡ None
end_later Open later e = e
end_later (Page bytes) later e = e
end_later (End reason) later e = absurd (cc)

-- there is the Open, and then a page each
pub counted : (first : ItemView) (rest : List ItemView) → IsModule (first ∷ rest) → end_of (first ∷ rest) ≡ None → length (first ∷ rest) ≡ length (pages_of (first ∷ rest)) + 1
counted first rest numbered none =
    let opens = opens_no_page first.kind (numbered [] rest first refl).opens in
    let no_end : end_of rest ≡ None = end_later first.kind (end_of rest) none in
    let more = pages_rest first [] rest numbered no_end in
    let all : length (pages_of (first ∷ rest)) ≡ length (pages_of rest) = ap (λ l. length (l ++ pages_of rest)) opens.0 in
    omega arith

-- Of the next page of a module of n words, in pages of one of the two sizes, of which k pages have come and are placed: it has the words due,
length_due : (size n k ordinal bytes words placed : ℕ) → IsPageSize size → bytes ≡ 4 * min size (n - size * (ordinal - 1)) → bytes / 4 ≡ words → ordinal ≡ k + 1 → placed ≡ min n (size * k)
    → words ≡ min size (n - placed)
length_due size n k ordinal bytes words placed (inl small) long count next come = subst (λ s. bytes ≡ 4 * min s (n - s * (ordinal - 1)) → placed ≡ min n (s * k) → words ≡ min s (n - placed)) (sym small) (λ l p. omega arith) long come
length_due size n k ordinal bytes words placed (inr large) long count next come = subst (λ s. bytes ≡ 4 * min s (n - s * (ordinal - 1)) → placed ≡ min n (s * k) → words ≡ min s (n - placed)) (sym large) (λ l p. omega arith) long come

-- it begins where the words placed end,
place_of : (size n k ordinal placed : ℕ) → IsPageSize size → 0 < min size (n - size * (ordinal - 1)) → ordinal ≡ k + 1 → placed ≡ min n (size * k) → size * (ordinal - 1) ≡ placed
place_of size n k ordinal placed (inl small) some next come = subst (λ s. 0 < min s (n - s * (ordinal - 1)) → placed ≡ min n (s * k) → s * (ordinal - 1) ≡ placed) (sym small) (λ f p. omega arith) some come
place_of size n k ordinal placed (inr large) some next come = subst (λ s. 0 < min s (n - s * (ordinal - 1)) → placed ≡ min n (s * k) → s * (ordinal - 1) ≡ placed) (sym large) (λ f p. omega arith) some come

-- and with it the words of one page more are placed.
whole_of : (size n k after before words placed : ℕ) → IsPageSize size → before ≡ min n (size * k) → words ≡ min size (n - before) → placed ≡ before + words → after ≡ k + 1 → placed ≡ min n (size * after)
whole_of size n k after before words placed (inl small) come long sum next =
    subst (λ s. before ≡ min n (s * k) → words ≡ min s (n - before) → placed ≡ min n (s * after)) (sym small) (λ b w. omega arith) come long
whole_of size n k after before words placed (inr large) come long sum next =
    subst (λ s. before ≡ min n (s * k) → words ≡ min s (n - before) → placed ≡ min n (s * after)) (sym large) (λ b w. omega arith) come long

-- where no page has come, no word is placed
none_placed : (size n k : ℕ) → k ≡ 0 → 0 ≡ min n (size * k)
none_placed size n k none = subst (λ j. 0 ≡ min n (size * j)) (sym none) (omega arith)

-- One more item of a module.
module _ (m : ℕ) (p : Placing) (taken : List ItemView) (item : ItemView) (was : IsPlacing m p taken) (numbered : IsModule (taken ++ item ∷ [])) where
  next : IsNext taken item
  next = numbered taken [] item refl

  not_ended_by : (l : List ItemView) → l ≡ was.first ∷ was.rest → IsNext l item → end_of l ≡ None
  not_ended_by [] e h = absurd (cc)
  not_ended_by (first ∷ rest) e h = h.fits.1

  not_ended : end_of taken ≡ None
  not_ended = not_ended_by taken was.opened next

  words_by : (l : List ItemView) → l ≡ was.first ∷ was.rest → IsNext l item → item.extent ≡ extent_at l
  words_by [] e h = absurd (cc)
  words_by (first ∷ rest) e h = h.fits.0

  words : item.extent ≡ extent_at taken
  words = words_by taken was.opened next

  count_by : (l : List ItemView) → l ≡ was.first ∷ was.rest → IsModule l → end_of l ≡ None → length l ≡ length (pages_of l) + 1
  count_by [] e h none = absurd (cc)
  count_by (first ∷ rest) e h none = counted first rest h none

  pub ordinal : item.ordinal ≡ length (pages_of taken) + 1
  ordinal = next.ordinal ∙ count_by taken was.opened (module_prefix taken (item ∷ []) numbered) not_ended

  same_first : (l : List ItemView) → l ≡ was.first ∷ was.rest → extent_at (l ++ item ∷ []) ≡ extent_at l
  same_first [] e = absurd (cc)
  same_first (first ∷ rest) e = refl

  same_words : extent_at (taken ++ item ∷ []) ≡ extent_at taken
  same_words = same_first taken was.opened

  same_builder : (us : List (List ℕ)) → builder_of m (taken ++ item ∷ []) us ≡ builder_of m taken us
  same_builder us = λ i. builder_with m (same_words i) (all_words us)

  none_ended : (o : Option Ended) → option_map (λ e. e.reason) o ≡ None → o ≡ None
  none_ended None h = refl
  none_ended (Some e) h = absurd (cc)

  no_ended : p.ended ≡ None
  no_ended = none_ended p.ended (was.reason ∙ not_ended)

  -- a page
  module _ (bytes : List ℕ) (is : item.kind ≡ Page bytes) where
    pages : pages_of (taken ++ item ∷ []) ≡ pages_of taken ++ words_of bytes ∷ []
    pages = pages_snoc taken item ∙ ap (λ k. pages_of taken ++ page_of k) is

    words_now : all_words (pages_of (taken ++ item ∷ [])) ≡ all_words (pages_of taken) ++ words_of bytes
    words_now = ap all_words pages ∙ words_snoc (pages_of taken) (words_of bytes)

    -- of which it is known what is placed
    pub page_by : (q : Placing) → q.builder.extent ≡ p.builder.extent → q.ended ≡ p.ended → HasPlaced m q q.builder (taken ++ item ∷ []) → IsPlacing m q (taken ++ item ∷ [])
    page_by q same_n same_ended built = record {
      first = was.first;
      rest = was.rest ++ item ∷ [];
      opened = ap (λ l. l ++ item ∷ []) was.opened;
      extent = same_n ∙ was.extent;
      built = built;
      reason = ap (λ o. option_map (λ e. e.reason) o) same_ended ∙ was.reason ∙ not_ended ∙ sym (end_snoc taken item not_ended ∙ ap (λ k. reason_at k None) is);
      pages = λ e some. absurd (let none : p.ended ≡ None = no_ended in cc);
    }

    -- an earlier one brought a fault
    pub page_after_fault : (refusal : Refusal) → p.refusal ≡ Some refusal → IsPlacing m p (taken ++ item ∷ [])
    page_after_fault refusal found =
        let h = was.built in
        let fault : Fault = refusal.fault in
        let n : ExtentView = extent_at taken in
        let first : First (all_words (pages_of taken)) n (Some fault) = subst (λ o. First (all_words (pages_of taken)) n (option_map (λ z. z.fault) o)) found h.fault in
        let on : First (all_words (pages_of taken ++ words_of bytes ∷ [])) n (Some fault) =
        subst (λ l. First l n (Some fault)) (sym (words_snoc (pages_of taken) (words_of bytes))) (fault_stays n.profile (all_words (pages_of taken)) (words_of bytes) n.words fault first) in
        page_by p refl refl (record {
          us = h.us;
          placed = subst (λ k. Placed k (pages_of (taken ++ item ∷ [])) h.us) (sym same_words) (subst (λ l. Placed n l h.us) (sym pages) (placed_on n (pages_of taken) h.us (words_of bytes) fault h.placed first));
          builder = h.builder ∙ sym (same_builder h.us);
          fault = subst (λ k. First (all_words (pages_of (taken ++ item ∷ []))) k (fault_of p)) (sym same_words)
              (subst (λ l. First (all_words l) n (fault_of p)) (sym pages) (subst (λ o. First (all_words (pages_of taken ++ words_of bytes ∷ [])) n (option_map (λ z. z.fault) o)) (sym found) on));
          refused = subst (λ ws. IsRefusedFor ws p.refusal) (sym (ap (λ l. judged_words h.us l) pages ∙ judged_more h.us (pages_of taken) (words_of bytes ∷ []) (not_all_placed n (pages_of taken) h.us fault h.placed first))) h.refused;
          whole = λ none. absurd (cc);
        })

    -- so none can be placed any more
    pub page_over : is_some p.refusal ≡ true → IsPlacing m p (taken ++ item ∷ [])
    page_over some = by p.refusal refl some
      where
        by : (o : Option Refusal) → p.refusal ≡ o → is_some o ≡ true → IsPlacing m p (taken ++ item ∷ [])
        by None found some = absurd (cc)
        by (Some refusal) found some = page_after_fault refusal found

    fits : IsItem item → KindFits item.extent.pages item.extent.words item.ordinal (Page bytes)
    fits typed = subst (λ k. KindFits item.extent.pages item.extent.words item.ordinal k) is typed.kind_fits

    -- its pages are of one of the two sizes
    taken_size : IsItem item → IsPageSize (extent_at taken).pages
    taken_size typed = subst (λ e. IsPageSize e.pages) words (sized item.extent.profile item.extent.pages typed.pages_in_range)

    -- it has the length due
    pub page_length : p.refusal ≡ None → IsItem item → length (words_of bytes) ≡ due p.builder
    page_length none typed =
        let h = was.built in
        let b : Module = p.builder in
        let f = fits typed in
        let n : ExtentView = extent_at taken in
        let count : length bytes / 4 ≡ length (words_of bytes) = words_count bytes in
        let long : length bytes ≡ bytes_in_page n.pages n.words (item.ordinal - 1) = f.1 ∙ (λ i. bytes_in_page (words i).pages (words i).words (item.ordinal - 1)) in
        let exact = length_due n.pages n.words (length (pages_of taken)) item.ordinal (length bytes) (length (words_of bytes)) (length b.placed) (taken_size typed) long count ordinal (h.whole none) in
        exact ∙ (λ i. words_due ((sym (ap (λ z. z.extent.pages) h.builder)) i) ((sym (ap (λ z. z.extent.words) h.builder)) i) (length b.placed))

    -- it stands where the words placed end, in a module of the same extent
    pub page_place : p.refusal ≡ None → IsItem item
        → (item.extent.pages * (item.ordinal - 1) ≡ length p.builder.placed) × (item.extent ≡ p.builder.extent)
    page_place none typed =
        let h = was.built in
        let b : Module = p.builder in
        let n : ExtentView = extent_at taken in
        let f = fits typed in
        let some : 0 < words_in_page n.pages n.words (item.ordinal - 1) = subst (λ e. 0 < words_in_page e.pages e.words (item.ordinal - 1)) words f.2 in
        let place : n.pages * (item.ordinal - 1) ≡ length b.placed = place_of n.pages n.words (length (pages_of taken)) item.ordinal (length b.placed) (taken_size typed) some ordinal (h.whole none) in (
          (λ i. (words i).pages * (item.ordinal - 1)) ∙ place,
          words ∙ sym (ap (λ z. z.extent) h.builder),
        )

    -- it is placed
    pub page_placed : (q : Placing) → q.builder.extent ≡ p.builder.extent → q.ended ≡ p.ended → p.refusal ≡ None → IsItem item → q.builder ≡ with_placed p.builder (words_of bytes)
        → q.refusal ≡ None → FirstFault p.builder.extent.profile (p.builder.placed ++ words_of bytes) p.builder.extent.words None → IsPlacing m q (taken ++ item ∷ [])
    page_placed q same_n same_ended none typed grown lawful_now lawful =
        let h = was.built in
        let b : Module = p.builder in
        let c : Module = q.builder in
        let n : ExtentView = extent_at taken in
        let faultless : First (all_words (pages_of taken)) n None = subst (λ o. First (all_words (pages_of taken)) n (option_map (λ z. z.fault) o)) none h.fault in
        let all : h.us ≡ pages_of taken = placed_all n (pages_of taken) h.us h.placed faultless in
        let us : List (List ℕ) = pages_of taken ++ words_of bytes ∷ [] in
        let b_words : b.placed ≡ all_words (pages_of taken) = ap (λ z. z.placed) h.builder ∙ ap all_words all in
        let b_count : b.extent.words ≡ n.words = ap (λ z. z.extent.words) h.builder in
        let lawful_one : First (b.placed ++ words_of bytes) n None =
        subst (λ k. FirstFault n.profile (b.placed ++ words_of bytes) k None) b_count (subst (λ x. FirstFault x (b.placed ++ words_of bytes) b.extent.words None) (ap (λ z. z.extent.profile) h.builder) lawful) in
        let whole_us : First (all_words us) n None =
        subst (λ l. First l n None) (sym (words_snoc (pages_of taken) (words_of bytes))) (subst (λ l. First (l ++ words_of bytes) n None) b_words lawful_one) in
        let c_words : c.placed ≡ b.placed ++ words_of bytes = ap (λ z. z.placed) grown in
        let words_us : c.placed ≡ all_words us = c_words ∙ ap (λ l. l ++ words_of bytes) b_words ∙ sym (words_snoc (pages_of taken) (words_of bytes)) in
        let as_built : c ≡ builder_of m taken us = grown ∙ (λ i. record { extent = (ap (λ z. z.extent) h.builder) i; slot = (ap (λ z. z.slot) h.builder) i; placed = (sym c_words ∙ words_us) i }) in
        let long : length (words_of bytes) ≡ due b = page_length none typed in
        let before = h.whole none in
        let split : length c.placed ≡ length b.placed + length (words_of bytes) = ap length c_words ∙ length-append b.placed (words_of bytes) in
        let more : length (pages_of (taken ++ item ∷ [])) ≡ length (pages_of taken) + 1 = ap length pages ∙ length-append (pages_of taken) (words_of bytes ∷ []) in
        page_by q same_n same_ended (record {
          us = us;
          placed = subst (λ k. Placed k (pages_of (taken ++ item ∷ [])) us) (sym same_words) (subst (λ l. Placed n l us) (sym pages) (placed_whole n us whole_us));
          builder = as_built ∙ sym (same_builder us);
          fault = subst (λ k. First (all_words (pages_of (taken ++ item ∷ []))) k (fault_of q)) (sym same_words)
              (subst (λ l. First (all_words l) n (fault_of q)) (sym pages) (subst (λ o. First (all_words us) n (option_map (λ z. z.fault) o)) (sym lawful_now) whole_us));
          refused = subst (λ o. IsRefusedFor (judged_words us (pages_of (taken ++ item ∷ []))) o) (sym lawful_now) tt;
          whole = λ _.
              whole_of n.pages n.words (length (pages_of taken)) (length (pages_of (taken ++ item ∷ []))) (length b.placed) (length (words_of bytes)) (length c.placed) (taken_size typed) before
              (long ∙ (λ i. words_due ((ap (λ z. z.extent.pages) h.builder) i) ((ap (λ z. z.extent.words) h.builder) i) (length b.placed))) split more
              ∙ (λ i. min (sym same_words i).words ((sym same_words i).pages * length (pages_of (taken ++ item ∷ []))));
        })

    -- it brings the first fault
    pub page_refused : (q : Placing) (refusal : Refusal) → q.builder.extent ≡ p.builder.extent → q.ended ≡ p.ended → p.refusal ≡ None → q.builder ≡ p.builder
        → q.refusal ≡ Some refusal → FirstFault p.builder.extent.profile (p.builder.placed ++ words_of bytes) p.builder.extent.words (Some refusal.fault)
        → AreNear (p.builder.placed ++ words_of bytes) refusal.fault.word refusal.near → IsPlacing m q (taken ++ item ∷ [])
    page_refused q refusal same_n same_ended none now found first is =
        let h = was.built in
        let fault : Fault = refusal.fault in
        let b : Module = p.builder in
        let n : ExtentView = extent_at taken in
        let faultless : First (all_words (pages_of taken)) n None = subst (λ o. First (all_words (pages_of taken)) n (option_map (λ z. z.fault) o)) none h.fault in
        let all : h.us ≡ pages_of taken = placed_all n (pages_of taken) h.us h.placed faultless in
        let b_words : b.placed ≡ all_words (pages_of taken) = ap (λ z. z.placed) h.builder ∙ ap all_words all in
        let b_count : b.extent.words ≡ n.words = ap (λ z. z.extent.words) h.builder in
        let first_one : First (b.placed ++ words_of bytes) n (Some fault) =
        subst (λ k. FirstFault n.profile (b.placed ++ words_of bytes) k (Some fault)) b_count (subst (λ x. FirstFault x (b.placed ++ words_of bytes) b.extent.words (Some fault)) (ap (λ z. z.extent.profile) h.builder) first) in
        let here : First (all_words (pages_of taken) ++ words_of bytes) n (Some fault) =
        subst (λ l. First (l ++ words_of bytes) n (Some fault)) b_words first_one in
        let on : First (all_words (pages_of taken ++ words_of bytes ∷ [])) n (Some fault) = subst (λ l. First l n (Some fault)) (sym (words_snoc (pages_of taken) (words_of bytes))) here in
        let judged : judged_words h.us (pages_of (taken ++ item ∷ [])) ≡ b.placed ++ words_of bytes =
        ap (λ l. judged_words h.us l) pages ∙ judged_next h.us (pages_of taken) (words_of bytes) all ∙ words_snoc (pages_of taken) (words_of bytes) ∙ ap (λ l. l ++ words_of bytes) (sym b_words) in
        let near : AreNear (judged_words h.us (pages_of (taken ++ item ∷ []))) fault.word refusal.near = subst (λ ws. AreNear ws fault.word refusal.near) (sym judged) is in
        let stays : Placed n (pages_of taken ++ words_of bytes ∷ []) h.us =
        subst (λ u. Placed n (pages_of taken ++ words_of bytes ∷ []) u) (sym all) (placed_to_fault n (pages_of taken) [] (words_of bytes) fault faultless here) in
        page_by q same_n same_ended (record {
          us = h.us;
          placed = subst (λ k. Placed k (pages_of (taken ++ item ∷ [])) h.us) (sym same_words) (subst (λ l. Placed n l h.us) (sym pages) stays);
          builder = now ∙ h.builder ∙ sym (same_builder h.us);
          fault = subst (λ k. First (all_words (pages_of (taken ++ item ∷ []))) k (fault_of q)) (sym same_words)
              (subst (λ l. First (all_words l) n (fault_of q)) (sym pages) (subst (λ o. First (all_words (pages_of taken ++ words_of bytes ∷ [])) n (option_map (λ z. z.fault) o)) (sym found) on));
          refused = subst (λ o. IsRefusedFor (judged_words h.us (pages_of (taken ++ item ∷ []))) o) (sym found) near;
          whole = λ none'. absurd (cc);
        })

  -- the End
  pub end_noted : (e : Ended) → item.kind ≡ End e.reason → item.ordinal ≡ e.pages + 1 → IsPlacing m (record p { ended = Some e }) (taken ++ item ∷ [])
  end_noted e is number =
      let q : Placing = record p { ended = Some e } in
      let pages : pages_of (taken ++ item ∷ []) ≡ pages_of taken = pages_snoc taken item ∙ ap (λ k. pages_of taken ++ page_of k) is ∙ append-nil (pages_of taken) in
      record {
        first = was.first;
        rest = was.rest ++ item ∷ [];
        opened = ap (λ l. l ++ item ∷ []) was.opened;
        extent = was.extent;
        built = built q refl refl pages was.built;
        reason = sym (end_snoc taken item not_ended ∙ ap (λ k. reason_at k None) is);
        pages = λ e' some.
            let same : e ≡ e' = cc in
            let o = ordinal in
            let count : length (pages_of (taken ++ item ∷ [])) ≡ length (pages_of taken) = ap length pages in
            let es : e.pages ≡ e'.pages = ap (λ z. z.pages) same in omega arith;
      }
    where
      built : (q : Placing) → q.refusal ≡ p.refusal → q.builder ≡ p.builder → pages_of (taken ++ item ∷ []) ≡ pages_of taken → HasPlaced m p p.builder taken → HasPlaced m q q.builder (taken ++ item ∷ [])
      built q same same_b pages h = record {
        us = h.us;
        placed = subst (λ k. Placed k (pages_of (taken ++ item ∷ [])) h.us) (sym same_words) (subst (λ l. Placed (extent_at taken) l h.us) (sym pages) h.placed);
        builder = same_b ∙ h.builder ∙ sym (same_builder h.us);
        fault = subst (λ k. First (all_words (pages_of (taken ++ item ∷ []))) k (fault_of q)) (sym same_words)
            (subst (λ l. First (all_words l) (extent_at taken) (fault_of q)) (sym pages) (subst (λ o. First (all_words (pages_of taken)) (extent_at taken) (option_map (λ z. z.fault) o)) (sym same) h.fault));
        refused = subst (λ l. IsRefusedFor (judged_words h.us l) q.refusal) (sym pages) (subst (λ o. IsRefusedFor (judged_words h.us (pages_of taken)) o) (sym same) h.refused);
        whole = λ none. ap (λ z. length z.placed) same_b ∙ h.whole (sym same ∙ none) ∙ (λ i. min (sym same_words i).words ((sym same_words i).pages * length (sym pages i)));
      }

pub no_break : (e : ExtentView) (k : ℕ) (r : Rule) → Breaks e.profile [] e.words k r → ⊥
no_break e k r h = let within : k < 0 = breaks_within e.profile [] e.words k r h in omega arith

-- nothing but the Open has come
pub just_opened : (m : ℕ) (q : Placing) (first : ItemView) → first.extent ≡ q.builder.extent → first.kind ≡ Open → q.refusal ≡ None → q.ended ≡ None
    → q.builder ≡ builder_with m q.builder.extent [] → IsPlacing m q (first ∷ [])
just_opened m q first extent is no_fault no_end new =
    let no_page : pages_of (first ∷ []) ≡ [] = ap (λ k. page_of k ++ []) is in
    let lawful : First [] first.extent None = λ k r h. no_break first.extent k r h in
    record {
      first = first;
      rest = [];
      opened = refl;
      extent = sym extent;
      built = built no_page lawful;
      reason = ap (λ o. option_map (λ e. e.reason) o) no_end ∙ sym (ap (λ k. reason_at k None) is);
      pages = λ e some. absurd (cc);
    }
  where
    built : pages_of (first ∷ []) ≡ [] → First [] first.extent None → HasPlaced m q q.builder (first ∷ [])
    built no_page lawful = record {
      us = [];
      placed = subst (λ l. Placed first.extent l []) (sym no_page) (placed_whole first.extent [] lawful);
      builder = new ∙ (λ i. builder_with m (sym extent i) []);
      fault = subst (λ o. First (all_words (pages_of (first ∷ []))) first.extent (option_map (λ z. z.fault) o)) (sym no_fault) (subst (λ l. First (all_words l) first.extent None) (sym no_page) lawful);
      refused = subst (λ o. IsRefusedFor (judged_words [] (pages_of (first ∷ []))) o) (sym no_fault) tt;
      whole = λ none. ap (λ z. length z.placed) new ∙ none_placed first.extent.pages first.extent.words (length (pages_of (first ∷ []))) (ap length no_page);
    }
