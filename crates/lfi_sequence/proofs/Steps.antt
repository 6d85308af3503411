-- What a sequencer holds, after one more item is kept, and after one more has come.
use Rattle.std.proofs.Common.{◌≡◌, ◌≢◌, ℕ, zero, suc, ◌+◌, ◌<◌, ◌≤◌, ◌==◌, Bool, true, false, cond, List, [], ◌∷◌, ◌++◌, length, get_or, Option, Some, None, ◌⊎◌, refl, sym, ◌∙◌, ap, subst, inl, inr, arith, length-append}
use Rattle.std.specs.Prelude.{nat_lt, is_some, not, ◌&&◌, if◌then◌else◌}
use Rattle.std.proofs.Math.ListN.{set}
use Rattle.std.specs.Option.{option_map}
use Rattle.std.proofs.lemmas.Bool.{eqb-true, eq-eqb, lt-ltb, le-ltb, cases_lt, and_parts, cond-true, cond-false}
use Rattle.std.proofs.lemmas.Bool.Decides.{eqb_tells}
use Rattle.std.proofs.lemmas.List.{get_or-set_same, get_or-set_other}
use Rattle.lfi_rules.specs.declared.fault.Fault.{Fault}
use Rattle.lfi_rules.specs.Faults.{FirstFault}
use Rattle.lfi_rules.specs.Verdicts.{all_words}
use Rattle.lfi_model.specs.Item.{ItemView, IsItem, KindFits, KindView}
use Rattle.lfi_model.specs.declared.item.ItemKind.TheVariants.{Open, Page, End}
use Rattle.lfi_model.specs.declared.item.Reason.{Reason}
use Rattle.lfi_model.specs.Modules.{Member, FitsAfter, OpensFirst, IsModule}
use Rattle.lfi_model.specs.Outcomes.{end_of, pages_of, page_of}
use Rattle.lfi_rules.proofs.Following.{fault_stays}
use Rattle.lfi_model.proofs.Faults.{all_words-append}
use Rattle.lfi_module.specs.Extents.{ExtentView}
use Rattle.lfi_sequence.proofs.SameExtent.{same_is, is_same_as}
use Rattle.lfi_sequence.specs.Come.{first_of, Comes}
use Rattle.lfi_model.proofs.Numbered.{numbered_more}
use Rattle.lfi_sequence.proofs.Comes.{found_is_member}
use Rattle.lfi_sequence.proofs.Placings.{pages_snoc}
use Rattle.lfi_sequence.specs.declared.placing.Placing.{Placing}
use Rattle.lfi_sequence.specs.declared.placing.Ended.{Ended}
use Rattle.lfi_sequence.specs.declared.sequence.BoardNotice.TheVariants.{Nothing}
use Rattle.lfi_sequence.specs.declared.sequence.Sequence.{Sequence}
use Rattle.lfi_sequence.specs.Placed.{IsPlacing, HandledBy, fault_of, extent_at}
use Rattle.lfi_board.specs.Known.{module_of}
use Rattle.lfi_sequence.specs.Sequenced.{waiting, fits_state, told_of, told_by, Holds, Sequenced, Steps, is_same}
use Rattle.lfi_sequence.specs.declared.sequence.Stepped.TheVariants.{Placed, Waits}

-- the first of an ordinal, with one more item taken
abbrev or_last : Option ItemView → Bool → ItemView → Option ItemView
or_last (Some y) b x = Some y
or_last None b x = cond b (Some x) None

pub first_more : (taken : List ItemView) (x : ItemView) (k : ℕ) → first_of (taken ++ x ∷ []) k ≡ or_last (first_of taken k) (x.ordinal == k) x
first_more [] x k = refl
first_more (y ∷ ys) x k = by (y.ordinal == k) (first_more ys x k)
  where
    by : (b : Bool) → first_of (ys ++ x ∷ []) k ≡ or_last (first_of ys k) (x.ordinal == k) x → cond b (Some y) (first_of (ys ++ x ∷ []) k) ≡ or_last (cond b (Some y) (first_of ys k)) (x.ordinal == k) x
    by true e = refl
    by false e = e

-- an item of another ordinal, or after one of its own, is not the first
pub first_same : (taken : List ItemView) (x : ItemView) (k : ℕ) → x.ordinal ≢ k → first_of (taken ++ x ∷ []) k ≡ first_of taken k
first_same taken x k apart = first_more taken x k ∙ by (first_of taken k)
  where
    no : (x.ordinal == k) ≡ false
    no = elim (eqb_tells x.ordinal k) [ inl e ↦ absurd (apart e.1) | inr n ↦ n.0 ]

    by : (o : Option ItemView) → or_last o (x.ordinal == k) x ≡ o
    by (Some y) = refl
    by None = cond-false (x.ordinal == k) (Some x) None no

pub first_known : (taken : List ItemView) (x y : ItemView) (k : ℕ) → first_of taken k ≡ Some y → first_of (taken ++ x ∷ []) k ≡ first_of taken k
first_known taken x y k known = first_more taken x k ∙ ap (λ o. or_last o (x.ordinal == k) x) known ∙ sym known

pub first_new : (taken : List ItemView) (x : ItemView) (k : ℕ) → x.ordinal ≡ k → first_of taken k ≡ None → first_of (taken ++ x ∷ []) k ≡ Some x
first_new taken x k here none = first_more taken x k ∙ ap (λ o. or_last o (x.ordinal == k) x) none ∙ cond-true (x.ordinal == k) (Some x) None (eq-eqb x.ordinal k here)

member_more : (taken : List ItemView) (x y : ItemView) → Member (taken ++ x ∷ []) y → Member taken y ⊎ (x ≡ y)
member_more [] x y h = elim h [ inl e ↦ inr e | inr m ↦ absurd m ]
member_more (z ∷ taken) x y h = elim h [ inl e ↦ inl (inl e) | inr m ↦ elim (member_more taken x y m) [ inl t ↦ inl (inr t) | inr e ↦ inr e ] ]

pub typed_more : (taken : List ItemView) (x : ItemView) → ((y : ItemView) → Member taken y → IsItem y) → IsItem x → (y : ItemView) → Member (taken ++ x ∷ []) y → IsItem y
typed_more taken x typed one y here = elim (member_more taken x y here) [ inl m ↦ typed y m | inr e ↦ subst (λ z. IsItem z) e one ]

-- the choice by a bound
pub at_least : {A : Type 0} (k n : ℕ) (a b : A) → n ≤ k → (if nat_lt k n then a else b) ≡ b
at_least k n a b h = cond-false (nat_lt k n) a b (le-ltb k n h)

pub below : {A : Type 0} (k n : ℕ) (a b : A) → k < n → (if nat_lt k n then a else b) ≡ a
below k n a b h = cond-true (nat_lt k n) a b (lt-ltb k n h)

waits_at : (table : List (Option ItemView)) (k : ℕ) (o : Option ItemView) → get_or table k None ≡ o → waiting table k ≡ o
waits_at table k o e = e

module _ (s : Sequence) (taken come : List ItemView) (holds : Holds s taken come) (x : ItemView) (typed : IsItem x) where
  -- it came after one of its ordinal: nothing is kept
  pub kept_seen : x.ordinal < s.count → Holds s (taken ++ x ∷ []) come
  kept_seen before = record {
    typed = typed_more taken x holds.typed typed;
    numbered = holds.numbered;
    count = holds.count;
    built = holds.built;
    waits = λ k. holds.waits k ∙ by k (cases_lt k (length come));
  }
    where
      by : (k : ℕ) → (k < length come) ⊎ (length come ≤ k) → (if nat_lt k (length come) then None else first_of taken k) ≡ (if nat_lt k (length come) then None else first_of (taken ++ x ∷ []) k)
      by k (inl h) = below k (length come) None (first_of taken k) h ∙ sym (below k (length come) None (first_of (taken ++ x ∷ []) k) h)
      by k (inr h) = ap (λ o. if nat_lt k (length come) then None else o) (sym (first_same taken x k (λ e. let c = holds.count in absurd (omega arith))))

  pub kept_waiting : (j : ItemView) → s.count ≤ x.ordinal → get_or s.table.items x.ordinal None ≡ Some j → Holds s (taken ++ x ∷ []) come
  kept_waiting j after there = record {
    typed = typed_more taken x holds.typed typed;
    numbered = holds.numbered;
    count = holds.count;
    built = holds.built;
    waits = λ k. holds.waits k ∙ ap (λ o. if nat_lt k (length come) then None else o) (sym (by k));
  }
    where
      known : first_of taken x.ordinal ≡ Some j
      known = sym (at_least x.ordinal (length come) None (first_of taken x.ordinal) (let c = holds.count in omega arith)) ∙ sym (holds.waits x.ordinal) ∙ waits_at s.table.items x.ordinal (Some j) there

      by : (k : ℕ) → first_of (taken ++ x ∷ []) k ≡ first_of taken k
      by k = elim (eqb_tells x.ordinal k) [
        | inl e ↦ first_known taken x j k (subst (λ z. first_of taken z ≡ Some j) e.1 known)
        | inr n ↦ first_same taken x k n.1
      ]

  pub kept_by : (o : Option ItemView) → is_some o ≡ true → s.count ≤ x.ordinal → get_or s.table.items x.ordinal None ≡ o → Holds s (taken ++ x ∷ []) come
  kept_by None some after is = absurd (cc)
  kept_by (Some j) some after is = kept_waiting j after is

  -- it is kept at its place, where none waits yet
  pub kept_new : (r : Sequence) → s.count ≤ x.ordinal → get_or s.table.items x.ordinal None ≡ None → module_of r.seat ≡ module_of s.seat → r.count ≡ s.count → r.placing ≡ s.placing
      → get_or r.table.items x.ordinal None ≡ Some x → ((k : ℕ) → x.ordinal ≢ k → get_or r.table.items k None ≡ get_or s.table.items k None) → Holds r (taken ++ x ∷ []) come
  kept_new r after free same_m same_count same_p here there = record {
    typed = typed_more taken x holds.typed typed;
    numbered = holds.numbered;
    count = same_count ∙ holds.count;
    built = subst (λ m. HandledBy m r.placing come) (sym same_m) (subst (λ b. HandledBy (module_of s.seat) b come) (sym same_p) holds.built);
    waits = λ k. elim (eqb_tells x.ordinal k) as (λ _. waiting r.table.items k ≡ (if nat_lt k (length come) then None else first_of (taken ++ x ∷ []) k)) [
      | inl e ↦ subst (λ z. waiting r.table.items z ≡ (if nat_lt z (length come) then None else first_of (taken ++ x ∷ []) z)) e.1 at_place
      | inr n ↦ there k n.1 ∙ holds.waits k ∙ ap (λ o. if nat_lt k (length come) then None else o) (sym (first_same taken x k n.1))
    ];
  }
    where
      free_first : first_of taken x.ordinal ≡ None
      free_first = sym (at_least x.ordinal (length come) None (first_of taken x.ordinal) (let c = holds.count in omega arith)) ∙ sym (holds.waits x.ordinal) ∙ free

      at_place : waiting r.table.items x.ordinal ≡ (if nat_lt x.ordinal (length come) then None else first_of (taken ++ x ∷ []) x.ordinal)
      at_place = here ∙ sym (at_least x.ordinal (length come) None (first_of (taken ++ x ∷ []) x.ordinal) (let c = holds.count in omega arith) ∙ first_new taken x x.ordinal refl free_first)

-- whether an item fits, where the extent and an End are known
fits_by : (come rest : List ItemView) (first x : ItemView) (n : ExtentView) (over : Bool) → come ≡ first ∷ rest → n ≡ first.extent → over ≡ is_some (end_of come) → (is_same x.extent n && not over) ≡ true → FitsAfter come x
fits_by come rest first x n over opened extent is test =
    let parts = and_parts (is_same x.extent n) (not over) test in
    subst (λ l. FitsAfter l x) (sym opened) (same_is x.extent n parts.0 ∙ extent, none (end_of (first ∷ rest)) (ap not (sym (is ∙ ap (λ l. is_some (end_of l)) opened)) ∙ parts.1))
  where
    none : (o : Option Reason) → not (is_some o) ≡ true → o ≡ None
    none None h = refl
    none (Some r) h = absurd (cc)

fitting_by : (come rest : List ItemView) (first x : ItemView) (n : ExtentView) (over : Bool) → come ≡ first ∷ rest → n ≡ first.extent → over ≡ is_some (end_of come) → FitsAfter come x → (is_same x.extent n && not over) ≡ true
fitting_by come rest first x n over opened extent is fits =
    let f : FitsAfter (first ∷ rest) x = subst (λ l. FitsAfter l x) opened fits in
    let same : is_same x.extent n ≡ true = is_same_as x.extent n (f.0 ∙ sym extent) in
    let open_yet : over ≡ false = is ∙ ap (λ l. is_some (end_of l)) opened ∙ ap is_some f.1 in
    (λ i. same i && not (open_yet i))

some_mapped : {A B : Type 0} → (f : A → B) (o : Option A) → is_some o ≡ is_some (option_map f o)
some_mapped f None = refl
some_mapped f (Some x) = refl

over_is : (m : ℕ) (p : Placing) (come : List ItemView) → IsPlacing m p come → is_some p.ended ≡ is_some (end_of come)
over_is m p come h = some_mapped (λ e. e.reason) p.ended ∙ ap is_some h.reason

pub fits_true : (m : ℕ) (b : Option Placing) (come : List ItemView) (x : ItemView) → HandledBy m b come → fits_state b x.extent ≡ true → FitsAfter come x
fits_true m None come x h t = subst (λ l. FitsAfter l x) (sym h) tt
fits_true m (Some p) come x h t = fits_by come h.rest h.first x p.builder.extent (is_some p.ended) h.opened h.extent (over_is m p come h) t

pub fitting : (m : ℕ) (b : Option Placing) (come : List ItemView) (x : ItemView) → HandledBy m b come → FitsAfter come x → fits_state b x.extent ≡ true
fitting m None come x h f = refl
fitting m (Some p) come x h f = fitting_by come h.rest h.first x p.builder.extent (is_some p.ended) h.opened h.extent (over_is m p come h) f

opens_first : (come : List ItemView) (size words ordinal : ℕ) (kind : KindView) → KindFits size words ordinal kind → ordinal ≡ length come → OpensFirst come kind
opens_first [] size words ordinal Open h e = tt
opens_first [] size words ordinal (Page bytes) h e = absurd (let some = h.0 in omega arith)
opens_first [] size words ordinal (End reason) h e = absurd (omega arith)
opens_first (y ∷ come) size words ordinal Open h e = absurd (omega arith)
opens_first (y ∷ come) size words ordinal (Page bytes) h e = tt
opens_first (y ∷ come) size words ordinal (End reason) h e = tt

-- what was told stays so
same_words : (come rest : List ItemView) (first x : ItemView) → come ≡ first ∷ rest → extent_at (come ++ x ∷ []) ≡ extent_at come
same_words come rest first x opened = ap (λ l. extent_at (l ++ x ∷ [])) opened ∙ sym (ap extent_at opened)

never_both : (ws : List ℕ) (n : ExtentView) (fault : Fault) → FirstFault n.profile ws n.words (Some fault) → FirstFault n.profile ws n.words None → ⊥
never_both ws n fault some none = none fault.word fault.rule some.breaks

told_more : (f g : Option Fault) (e d : Option Ended) (ws more : List ℕ) (n : ExtentView) → FirstFault n.profile ws n.words f → FirstFault n.profile (ws ++ more) n.words g → e ≡ None → told_of f e ≢ Nothing → told_of g d ≡ told_of f e
told_more (Some f) (Some g) e d ws more n was is none some = refl
told_more (Some f) None e d ws more n was is none some = absurd (never_both (ws ++ more) n f (fault_stays n.profile ws more n.words f was) is)
told_more None g None d ws more n was is none some = absurd (some refl)
told_more None g (Some e) d ws more n was is none some = absurd (cc)

not_ended : (m : ℕ) (p : Placing) (come : List ItemView) (x : ItemView) → IsPlacing m p come → FitsAfter come x → p.ended ≡ None
not_ended m p come x h fits = by p.ended refl
  where
    by : (o : Option Ended) → p.ended ≡ o → o ≡ None
    by None e = refl
    by (Some e) is = absurd (
        let f : FitsAfter (h.first ∷ h.rest) x = subst (λ l. FitsAfter l x) h.opened fits in
        let none : end_of come ≡ None = ap end_of h.opened ∙ f.1 in
        let some : option_map (λ (z : Ended). z.reason) (Some e) ≡ end_of come = ap (λ o. option_map (λ (z : Ended). z.reason) o) (sym is) ∙ h.reason in
        cc)

not_empty : (come : List ItemView) (x : ItemView) → come ++ x ∷ [] ≡ [] → ⊥
not_empty [] x e = absurd (cc)
not_empty (y ∷ come) x e = absurd (cc)

pub told_stays : (m : ℕ) (b c : Option Placing) (come : List ItemView) (x : ItemView) → HandledBy m b come → HandledBy m c (come ++ x ∷ []) → FitsAfter come x → told_by b ≢ Nothing → told_by c ≡ told_by b
told_stays m None c come x was is fits some = absurd (some refl)
told_stays m (Some p) None come x was is fits some = absurd (not_empty come x is)
told_stays m (Some p) (Some q) come x was is fits some =
    let n = extent_at come in
    let now : FirstFault n.profile (all_words (pages_of come) ++ all_words (page_of x.kind)) n.words (fault_of q) =
    subst (λ l. FirstFault n.profile l n.words (fault_of q)) (ap all_words (pages_snoc come x) ∙ all_words-append (pages_of come) (page_of x.kind))
    (subst (λ k. FirstFault k.profile (all_words (pages_of (come ++ x ∷ []))) k.words (fault_of q)) (same_words come was.rest was.first x was.opened) is.built.fault) in
    told_more (fault_of p) (fault_of q) p.ended q.ended (all_words (pages_of come)) (all_words (page_of x.kind)) n was.built.fault now (not_ended m p come x was fits) some

module _ (s : Sequence) (taken come : List ItemView) (holds : Holds s taken come) where
  -- what waits at the next place is the first of the next ordinal
  next_first : first_of taken (length come) ≡ waiting s.table.items s.count
  next_first = sym (at_least (length come) (length come) None (first_of taken (length come)) (omega arith)) ∙ sym (holds.waits (length come)) ∙ ap (waiting s.table.items) (sym holds.count)

  same_holds : (r : Sequence) → module_of r.seat ≡ module_of s.seat → r.count ≡ s.count → r.placing ≡ s.placing → r.table.items ≡ s.table.items → Holds r taken come
  same_holds r same_m same_count same_b same_table = record {
    typed = holds.typed;
    numbered = holds.numbered;
    count = same_count ∙ holds.count;
    built = subst (λ m. HandledBy m r.placing come) (sym same_m) (subst (λ b. HandledBy (module_of s.seat) b come) (sym same_b) holds.built);
    waits = λ k. ap (λ t. waiting t k) same_table ∙ holds.waits k;
  }

  -- none comes next
  pub none_next : (r : Sequence) → module_of r.seat ≡ module_of s.seat → r.count ≡ s.count → r.placing ≡ s.placing → r.table.items ≡ s.table.items
      → ((j : ItemView) → get_or s.table.items s.count None ≡ Some j → fits_state s.placing j.extent ≡ false) → Steps Waits r taken come
  none_next r same_m same_count same_b same_table none = (same_holds r same_m same_count same_b same_table, λ x comes. at (get_or s.table.items s.count None) refl x comes)
    where
      at : (o : Option ItemView) → get_or s.table.items s.count None ≡ o → (x : ItemView) → Comes taken come x → ⊥
      at None is x comes = (let known = sym (next_first ∙ waits_at s.table.items s.count None is) ∙ comes.first in cc)
      at (Some j) is x comes =
          let known : Some j ≡ Some x = sym (next_first ∙ waits_at s.table.items s.count (Some j) is) ∙ comes.first in
          let same : j ≡ x = cc in
          let yes : fits_state s.placing x.extent ≡ true = fitting (module_of s.seat) s.placing come x holds.built comes.fits in
          let no : fits_state s.placing x.extent ≡ false = subst (λ z. fits_state s.placing z.extent ≡ false) same (none j is) in
          cc

  module _ (j : ItemView) (there : get_or s.table.items s.count None ≡ Some j) (fits : fits_state s.placing j.extent ≡ true) where
    is_first : first_of taken (length come) ≡ Some j
    is_first = next_first ∙ waits_at s.table.items s.count (Some j) there

    place : ((j.ordinal == length come) ≡ true) × Member taken j
    place = found_is_member (λ item. item.ordinal == length come) taken j is_first

    ordinal : j.ordinal ≡ length come
    ordinal = eqb-true j.ordinal (length come) place.0

    typed : IsItem j
    typed = holds.typed j place.1

    pub fits_after : FitsAfter come j
    fits_after = fits_true (module_of s.seat) s.placing come j holds.built fits

    pub numbered_now : IsModule (come ++ j ∷ [])
    numbered_now = numbered_more come j holds.numbered (record { ordinal = ordinal; opens = opens_first come j.extent.pages j.extent.words j.ordinal j.kind typed.kind_fits ordinal; fits = fits_after })

    -- it has come
    pub one_next : (r : Sequence) → module_of r.seat ≡ module_of s.seat → r.count ≡ s.count + 1 → r.table.items ≡ set s.table.items s.count None → s.count < length s.table.items
        → HandledBy (module_of s.seat) r.placing (come ++ j ∷ []) → Steps Placed r taken come
    one_next r same_m more table within built = (
      j,
      record { first = is_first; fits = fits_after },
      record {
        typed = holds.typed;
        numbered = numbered_now;
        count = (let c = holds.count in let l = length-append come (j ∷ []) in omega arith);
        built = subst (λ m. HandledBy m r.placing (come ++ j ∷ [])) (sym same_m) built;
        waits = λ k. ap (λ t. waiting t k) table ∙ elim (eqb_tells k s.count) as (λ _. waiting (set s.table.items s.count None) k ≡ (if nat_lt k (length (come ++ j ∷ [])) then None else first_of taken k)) [
          | inl e ↦ at_place k e.1
          | inr n ↦ at_other k n.1
        ];
      },
    )
      where
        longer : length (come ++ j ∷ []) ≡ length come + 1
        longer = length-append come (j ∷ [])

        at_place : (k : ℕ) → k ≡ s.count → waiting (set s.table.items s.count None) k ≡ (if nat_lt k (length (come ++ j ∷ [])) then None else first_of taken k)
        at_place k here =
            waits_at (set s.table.items s.count None) k None (ap (λ z. get_or (set s.table.items s.count None) z None) here ∙ get_or-set_same s.table.items s.count None None within)
            ∙ sym (below k (length (come ++ j ∷ [])) None (first_of taken k) (let c = holds.count in let l = longer in omega arith))

        at_other : (k : ℕ) → k ≢ s.count → waiting (set s.table.items s.count None) k ≡ (if nat_lt k (length (come ++ j ∷ [])) then None else first_of taken k)
        at_other k apart =
            waits_at (set s.table.items s.count None) k (get_or s.table.items k None) (get_or-set_other s.table.items s.count k None None apart)
            ∙ holds.waits k ∙ (elim (cases_lt k (length come)) as (λ _. (if nat_lt k (length come) then None else first_of taken k) ≡ (if nat_lt k (length (come ++ j ∷ [])) then None else first_of taken k)) [
              | inl h ↦ below k (length come) None (first_of taken k) h ∙ sym (below k (length (come ++ j ∷ [])) None (first_of taken k) (let l = longer in omega arith))
              | inr h ↦ at_least k (length come) None (first_of taken k) h ∙ sym (at_least k (length (come ++ j ∷ [])) None (first_of taken k) (let c = holds.count in let l = longer in omega arith))
            ])

-- the same with another table in which the same items wait
pub holds_as : (s r : Sequence) (taken come : List ItemView) → Holds s taken come → module_of r.seat ≡ module_of s.seat → r.count ≡ s.count → r.placing ≡ s.placing
    → ((k : ℕ) → get_or r.table.items k None ≡ get_or s.table.items k None) → Holds r taken come
holds_as s r taken come holds same_m same_count same_p same_table = record {
  typed = holds.typed;
  numbered = holds.numbered;
  count = same_count ∙ holds.count;
  built = subst (λ m. HandledBy m r.placing come) (sym same_m) (subst (λ b. HandledBy (module_of s.seat) b come) (sym same_p) holds.built);
  waits = λ k. same_table k ∙ holds.waits k;
}

-- and with another seat of the same module
pub sequenced_as : (s r : Sequence) (taken : List ItemView) → module_of r.seat ≡ module_of s.seat → r.count ≡ s.count → r.placing ≡ s.placing → r.table ≡ s.table → Sequenced s taken → Sequenced r taken
sequenced_as s r taken same_m same_count same_p same_table is =
    record { come = is.come; has_come = is.has_come; holds = holds_as s r taken is.come is.holds same_m same_count same_p (λ k. ap (λ t. get_or t.items k None) same_table) }

-- a place at which nothing waits changes nothing
pub longer_same : {A : Type 0} → (xs : List (Option A)) (k : ℕ) → get_or (xs ++ None ∷ []) k None ≡ get_or xs k None
longer_same [] zero = refl
longer_same [] (suc k) = refl
longer_same (x ∷ xs) zero = refl
longer_same (x ∷ xs) (suc k) = longer_same xs k

-- nothing is some
pub none_is : {A : Type 0} → (o : Option A) → is_some o ≡ false → o ≡ None
none_is None h = refl
none_is (Some x) h = absurd (cc)
