-- Each step keeps the rule of the board.
use Rattle.std.proofs.Common.{◌≡◌, ◌≢◌, ℕ, zero, suc, ◌+◌, ◌*◌, ◌%◌, ◌^◌, ◌<◌, ◌≤◌, Bool, true, false, eqb, List, [], ◌∷◌, ◌++◌, length, get_or, set, sym, refl, ap, ◌∙◌, subst, ⊎_elim, arith, replicate, length-set, get_or-set_same, get_or-set_other, eq-eqb, ne_eqb, if◌then◌else◌}
use mathlib.Core.Logic.{dite}
use mathlib.Core.Option.{none, some, some-injective, some-ne-none}
use native.Mathlib.Decide.{ℕ_discrete}
use lib.ListN.{get_elem?}
use lib.Seq.{set-get_or}
use prog.Atomic.{either}
use Rattle.atomic_table.specs.Table.{State, Me, step, keeps, stepped, Allows, Enters, Splits, Joins, opening}
use Rattle.atomic_table.proofs.Lists.{at_set, at_snoc, set_again, set_else}
use Rattle.lfi_board.specs.declared.knowledge.Knowledge.{Knowledge}
use Rattle.lfi_board.specs.declared.knowledge.SeenWord.{SeenWord}
use Rattle.lfi_board.specs.Knowledge.{total, times, IsSince, receiver_knowledge, onlooker, knowledge_of, sees, claims, ends, Follows}
use Rattle.lfi_board.specs.inner.Rule.{View, receiving, claims_of, ending, taken, AllSince, AllKnow, Kept, first_of, rest_of}
use Rattle.lfi_board.specs.inner.Plays.{sat, claimed, changed, looked, ended, asked, AllFollow, board_size}

abbrev St : Type 0
St = State (Unit {0}) View

abbrev M : Type 0
M = Me (Unit {0}) View

-- ---- sums

module _ {X : Type 0} (f : X → ℕ) where
  total_set : (l : List X) (i : ℕ) (v w : X) → get_elem? l i ≡ some v → total f (set l i w) + f v ≡ total f l + f w
  total_set [] i v w e = absurd (some-ne-none v (sym e))
  total_set (x ∷ xs) zero v w e = let is : f x ≡ f v = ap f (some-injective x v e) in omega arith
  total_set (x ∷ xs) (suc i) v w e = let r = total_set xs i v w e in omega arith

  pub total_append : (l k : List X) → total f (l ++ k) ≡ total f l + total f k
  total_append [] k = omega arith
  total_append (x ∷ xs) k = let r = total_append xs k in omega arith

module _ {X : Type 0} (f g : X → ℕ) where
  total_le : ((x : X) → f x ≤ g x) → (l : List X) → total f l ≤ total g l
  total_le h [] = omega arith
  total_le h (x ∷ xs) = let a = h x in let r = total_le h xs in omega arith

  total_lt : ((x : X) → f x ≤ g x) → (l : List X) (i : ℕ) (v : X) → get_elem? l i ≡ some v → f v < g v → total f l < total g l
  total_lt h [] i v e lt = absurd (some-ne-none v (sym e))
  total_lt h (x ∷ xs) zero v e lt = let is = some-injective x v e in let a : f x ≡ f v = ap f is in let b : g x ≡ g v = ap g is in let r = total_le h xs in omega arith
  total_lt h (x ∷ xs) (suc i) v e lt = let a = h x in let r = total_lt h xs i v e lt in omega arith

  total_has : (l : List X) (i : ℕ) (v : X) → get_elem? l i ≡ some v → g v ≤ total g l
  total_has [] i v e = absurd (some-ne-none v (sym e))
  total_has (x ∷ xs) zero v e = let is : g x ≡ g v = ap g (some-injective x v e) in omega arith
  total_has (x ∷ xs) (suc i) v e = let r = total_has xs i v e in omega arith

  total_none : ((x : X) → g x ≡ 0 → f x ≡ 0) → (l : List X) → total g l ≡ 0 → total f l ≡ 0
  total_none h [] e = refl
  total_none h (x ∷ xs) e = let a = h x (omega arith) in let r = total_none h xs (omega arith) in omega arith

  -- what f is of all is what it is of the one that has all of g
  total_of_one : ((x : X) → g x ≡ 0 → f x ≡ 0) → (l : List X) (i : ℕ) (v : X) → get_elem? l i ≡ some v → total g l ≡ g v → total f l ≡ f v
  total_of_one h [] i v e t = absurd (some-ne-none v (sym e))
  total_of_one h (x ∷ xs) zero v e t =
      let is = some-injective x v e in let same : g x ≡ g v = ap g is in let fis : f x ≡ f v = ap f is in
      let none_left : total g xs ≡ 0 = omega arith in let r = total_none h xs none_left in omega arith
  total_of_one h (x ∷ xs) (suc i) v e t =
      let has = total_has xs i v e in let z : g x ≡ 0 = omega arith in let fz = h x z in let r = total_of_one h xs i v e (omega arith) in omega arith

-- ---- what was seen

since_trans : (i p x y : ℕ) → IsSince i p x → IsSince i x y → IsSince i p y
since_trans i p x y a b = let le = a.0 in let le' = b.0 in (omega arith, λ lt two. b.1 lt (omega arith) ∙ a.1 lt two)

since_same : (i x : ℕ) → IsSince i x x
since_same i x = (omega arith, λ _ _. refl)

module _ (ws : List ℕ) (i x y : ℕ) (inside : i < length ws) (is : x ≡ get_or ws i 0) (since : IsSince i x y) where
  since_later : (word p : ℕ) → IsSince word p (get_or ws word 0) → IsSince word p (get_or (set ws i y) word 0)
  since_later word p a = dite (ℕ_discrete word i)
      (λ e. subst (λ k. IsSince k p (get_or (set ws i y) k 0)) (sym e)
      (subst (IsSince i p) (sym (get_or-set_same ws i y 0 inside)) (since_trans i p x y (subst (λ (k : ℕ × ℕ). IsSince k.0 p k.1) (λ j. (e j, (ap (λ k. get_or ws k 0) e ∙ sym is) j)) a) since)))
      (λ ne. subst (IsSince word p) (sym (get_or-set_other ws i word y 0 ne)) a)

  all_since_later : (ss : List SeenWord) → AllSince ws ss → AllSince (set ws i y) ss
  all_since_later [] a = tt
  all_since_later (s ∷ ss) a = (since_later s.word s.number a.0, all_since_later ss a.1)

  all_know_later : (n : ℕ) (v : View) → AllKnow n ws v → AllKnow n (set ws i y) v
  all_know_later n [] a = tt
  all_know_later n (h ∷ hs) a = ((a.0.0, all_since_later h.seen a.0.1), all_know_later n hs a.1)

follows : (ws : List ℕ) (ss : List SeenWord) (word found : ℕ) → found ≡ get_or ws word 0 → AllSince ws ss → Follows ss word found
follows ws [] word found is a = tt
follows ws (s ∷ ss) word found is a = ((λ e. subst (λ (k : ℕ × ℕ). IsSince k.0 s.number k.1) (λ j. (e j, (ap (λ k. get_or ws k 0) e ∙ sym is) j)) a.0), follows ws ss word found is a.1)

-- ---- steps

module _ (n : ℕ) (s : St) (r : Kept n s) (i y id : ℕ) (me : M) (at : get_elem? s.views id ≡ some me.0) (lt : i < 17) where
  abbrev x : ℕ
  x = get_or s.words i 0

  inside : i < length s.words
  inside = let w = r.wide in omega arith

  -- the word i becomes y, and the seat knows w
  moves : (w : View) → IsSince i x y → (i < 16 → y < 4)
      → ((m : ℕ) → m < 16 → total (claims_of m) w + taken (get_or s.words m 0) ≡ total (claims_of m) me.0 + taken (get_or (set s.words i y) m 0))
      → total ending w + get_or s.words 16 0 ≡ total ending me.0 + get_or (set s.words i y) 16 0
      → total receiving w ≡ total receiving me.0 → AllKnow n (set s.words i y) w → Kept n (stepped s i y id me.1 w keeps)
  moves w since phase claim end same know = record {
    few = r.few;
    wide = length-set s.words i y ∙ r.wide;
    phases = λ m l. dite (ℕ_discrete m i)
        (λ e. subst (λ k. k < 4) (sym (ap (λ k. get_or (set s.words i y) k 0) e ∙ get_or-set_same s.words i y 0 inside)) (phase (let l' = l in omega arith)))
        (λ ne. subst (λ k. k < 4) (sym (get_or-set_other s.words i m y 0 ne)) (r.phases m l));
    claims = λ m l. let a = r.claims m l in let b = total_set (total (claims_of m)) s.views id me.0 w at in let c = claim m l in omega arith;
    ends = let a = r.ends in let b = total_set (total ending) s.views id me.0 w at in omega arith;
    receivers = let a = r.receivers in let b = total_set (total receiving) s.views id me.0 w at in omega arith;
    known = λ j v e. ⊎_elim (λ (t : (j ≡ id) × (w ≡ v)). subst (AllKnow n (set s.words i y)) t.1 know)
        (λ (t : (j ≢ id) × (get_elem? s.views j ≡ some v)). all_know_later s.words i x y inside refl since n v (r.known j v t.1)) (at_set s.views id j w v e);
  }

  module _ (one : me.0 ≡ knowledge_of me.0 ∷ []) where
    abbrev h : Knowledge
    h = knowledge_of me.0

    knows : (h.receivers ≡ n) × AllSince s.words h.seen
    knows = (subst (AllKnow n s.words) one (r.known id me.0 at)).0

    was : (f : Knowledge → ℕ) → total f me.0 ≡ f h + 0
    was f = ap (total f) one

    follows_here : Follows h.seen i x
    follows_here = follows s.words h.seen i x refl knows.1

    -- a step that the seat only sees
    sees_step : IsSince i x y → (i < 16 → y < 4) → (i < 16 → taken y ≡ taken x) → (i ≡ 16 → y ≡ x) → Kept n (stepped s i y id me.1 (sees i y h ∷ []) keeps)
    sees_step since phase as_taken count = moves (sees i y h ∷ []) since phase
        (λ m l. let a = was (claims_of m) in dite (ℕ_discrete m i)
        (λ e. let b : taken (get_or s.words m 0) ≡ taken x = ap (λ k. taken (get_or s.words k 0)) e in
        let c : taken (get_or (set s.words i y) m 0) ≡ taken y = ap (λ k. taken (get_or (set s.words i y) k 0)) e ∙ ap taken (get_or-set_same s.words i y 0 inside) in
        let d = as_taken (let l' = l in omega arith) in omega arith)
        (λ ne. let b : taken (get_or (set s.words i y) m 0) ≡ taken (get_or s.words m 0) = ap taken (get_or-set_other s.words i m y 0 ne) in omega arith))
        (let a = was ending in dite (ℕ_discrete 16 i)
        (λ e. let b : get_or s.words 16 0 ≡ x = ap (λ k. get_or s.words k 0) e in
        let c : get_or (set s.words i y) 16 0 ≡ y = ap (λ k. get_or (set s.words i y) k 0) e ∙ get_or-set_same s.words i y 0 inside in let d = count (sym e) in omega arith)
        (λ ne. let b = get_or-set_other s.words i 16 y 0 ne in omega arith))
        (sym (was receiving))
        ((knows.0, (subst (IsSince i y) (sym (get_or-set_same s.words i y 0 inside)) (since_same i y), all_since_later s.words i x y inside refl since h.seen knows.1)), tt)

-- ---- what each step asks

abbrev delta : ℕ → ℕ → ℕ
delta m k = if eqb m k then 1 else 0

claims_more : (h : Knowledge) → h.is_receiver ≡ true → (k m : ℕ) → claims_of k (claims m h) ≡ delta m k + claims_of k h
claims_more h rc k m = subst (λ (b : Bool). (if b then times k (m ∷ h.claimed) else 0) ≡ delta m k + (if b then times k h.claimed else 0)) (sym rc) refl

by_both : (a b : Bool) → (if a then (if b then 1 else 0) else 0) ≤ (if a then 1 else 0)
by_both true true = omega arith
by_both true false = omega arith
by_both false b = omega arith

ending_le : (h : Knowledge) → ending h ≤ receiving h
ending_le h = by_both h.is_receiver h.ended

ending_before : (h : Knowledge) → h.is_receiver ≡ true → h.ended ≡ false → ending h ≡ 0
ending_before h rc out = λ i. if rc i then (if out i then 1 else 0) else 0

ending_after : (h : Knowledge) → h.is_receiver ≡ true → (x : ℕ) → ending (ends x h) ≡ 1
ending_after h rc x = ap (λ b. if b then 1 else 0) rc

abbrev when : Bool → ℕ → ℕ
when b k = if b then k else 0

either_way : (b : Bool) (k : ℕ) → when b 1 ≡ 0 → when b k ≡ 0
either_way true k e = absurd (omega arith)
either_way false k e = refl

claims_none : (m : ℕ) (h : Knowledge) → receiving h ≡ 0 → claims_of m h ≡ 0
claims_none m h = either_way h.is_receiver (times m h.claimed)

open_taken : (x to : ℕ) → x ≡ 1 → 2 ≤ to → taken to ≡ taken x
open_taken x to one two = ap (λ b. if b then 0 else 1) (ne_eqb to 0 (λ e. omega arith)) ∙ sym (ap taken one)

module _ (n slots id m : ℕ) (me : M) (one : me.0 ≡ knowledge_of me.0 ∷ []) where
  abbrev mine : Knowledge
  mine = knowledge_of me.0

  -- the phase that is found stays as it is
  stays : (s : St) (r : Kept n s) → m < 17 → get_elem? s.views id ≡ some me.0 → Kept n (stepped s m (get_or s.words m 0) id me.1 (sees m (get_or s.words m 0) mine ∷ []) keeps)
  stays s r lt at = let y = get_or s.words m 0 in sees_step n s r m y id me at lt one (since_same m y) (r.phases m) (λ _. refl) (λ _. refl)

  all_ended : (s : St) (r : Kept n s) → get_or s.words 16 0 ≤ n
  all_ended s r = let a = r.ends in let b = r.receivers in let c = total_le (total ending) (total receiving) (total_le ending receiving ending_le) s.views in omega arith

  pub looks : m < 17 → Allows (Kept n) slots id me m (λ x. x) (looked (step slots m 0 0 none) me)
  looks lt s r _ at _ = let f = follows_here n s r m (get_or s.words m 0) id me at lt one in let k = knows n s r m (get_or s.words m 0) id me at lt one in (
    sees m (get_or s.words m 0) mine ∷ [],
    keeps,
    tt,
    stays s r lt at,
    (r.phases m, (λ e. let a = all_ended s r in let b : get_or s.words m 0 ≡ get_or s.words 16 0 = ap (λ k. get_or s.words k 0) e in let c = k.0 in omega arith), (f, refl, refl)),
  )

  pub changes : (to : ℕ) → 2 ≤ to → to < 4 → m < 16 → Allows (Kept n) slots id me m (λ x. either (eqb x 1) to x) (changed (step slots m 1 to none) me)
  changes to low high lt s r _ at _ = let x : ℕ = get_or s.words m 0 in let lt' : m < 17 = omega arith in
      let f = follows_here n s r m x id me at lt' one in dite (ℕ_discrete x 1)
      (λ hit. (
        sees m to mine ∷ [],
        keeps,
        tt,
        subst (λ b. Kept n (stepped s m (either b to x) id me.1 (sees m to mine ∷ []) keeps)) (sym (eq-eqb x 1 hit))
            (sees_step n s r m to id me at lt' one (omega arith, λ _ two. absurd (omega arith)) (λ _. high) (λ _. open_taken x to hit low) (λ e. absurd (omega arith))),
        (r.phases m lt, (f, subst (λ b. sees m to mine ∷ [] ≡ sees m (if b then to else x) mine ∷ []) (sym (eq-eqb x 1 hit)) refl, refl)),
      ))
      (λ miss. (
        sees m x mine ∷ [],
        keeps,
        tt,
        subst (λ b. Kept n (stepped s m (either b to x) id me.1 (sees m x mine ∷ []) keeps)) (sym (ne_eqb x 1 miss)) (stays s r lt' at),
        (r.phases m lt, (f, subst (λ b. sees m x mine ∷ [] ≡ sees m (if b then to else x) mine ∷ []) (sym (ne_eqb x 1 miss)) refl, refl)),
      ))

  claim_step : (s : St) (r : Kept n s) (lt : m < 16) → get_elem? s.views id ≡ some me.0 → mine.is_receiver ≡ true → get_or s.words m 0 ≡ 0 → Kept n (stepped s m 1 id me.1 (claims m mine ∷ []) keeps)
  claim_step s r lt at rc free = let lt' : m < 17 = omega arith in let x : ℕ = get_or s.words m 0 in let w = r.wide in let here : m < length s.words = omega arith in
      let since : IsSince m x 1 = (omega arith, λ _ two. absurd (omega arith)) in let k = knows n s r m 1 id me at lt' one in let set_here = get_or-set_same s.words m 1 0 here in
      moves n s r m 1 id me at lt' (claims m mine ∷ []) since (λ _. omega arith)
      (λ j l. let a = was n s r m 1 id me at lt' one (claims_of j) in let b = claims_more mine rc j m in dite (ℕ_discrete j m)
      (λ e. let c : taken (get_or s.words j 0) ≡ 0 = ap (λ k. taken (get_or s.words k 0)) e ∙ ap taken free in
      let d : taken (get_or (set s.words m 1) j 0) ≡ 1 = ap (λ k. taken (get_or (set s.words m 1) k 0)) e ∙ ap taken set_here in
      let z : delta m j ≡ 1 = ap (λ b. if b then 1 else 0) (eq-eqb m j (sym e)) in omega arith)
      (λ ne. let c : taken (get_or (set s.words m 1) j 0) ≡ taken (get_or s.words j 0) = ap taken (get_or-set_other s.words m j 1 0 ne) in
      let z : delta m j ≡ 0 = ap (λ b. if b then 1 else 0) (ne_eqb m j (λ e. ne (sym e))) in omega arith))
      (let a = was n s r m 1 id me at lt' one ending in let b = get_or-set_other s.words m 16 1 0 (λ e. omega arith) in omega arith)
      (sym (was n s r m 1 id me at lt' one receiving))
      ((k.0, (subst (IsSince m 1) (sym set_here) (since_same m 1), all_since_later s.words m x 1 here refl since mine.seen k.1)), tt)

  pub claims_keeps : m < 16 → mine.is_receiver ≡ true → Allows (Kept n) slots id me m (λ x. either (eqb x 0) 1 x) (claimed (step slots m 0 1 none) me)
  claims_keeps lt rc s r _ at _ = let x : ℕ = get_or s.words m 0 in let lt' : m < 17 = omega arith in let f = follows_here n s r m x id me at lt' one in dite (ℕ_discrete x 0)
      (λ hit. (
        claims m mine ∷ [],
        keeps,
        tt,
        subst (λ b. Kept n (stepped s m (either b 1 x) id me.1 (claims m mine ∷ []) keeps)) (sym (eq-eqb x 0 hit)) (claim_step s r lt at rc hit),
        (refl, r.phases m lt, (f, subst (λ b. claims m mine ∷ [] ≡ (if b then claims m mine else sees m x mine) ∷ []) (sym (eq-eqb x 0 hit)) refl, refl)),
      ))
      (λ miss. (
        sees m x mine ∷ [],
        keeps,
        tt,
        subst (λ b. Kept n (stepped s m (either b 1 x) id me.1 (sees m x mine ∷ []) keeps)) (sym (ne_eqb x 0 miss)) (stays s r lt' at),
        (refl, r.phases m lt, (f, subst (λ b. sees m x mine ∷ [] ≡ (if b then claims m mine else sees m x mine) ∷ []) (sym (ne_eqb x 0 miss)) refl, refl)),
      ))

  end_step : (s : St) (r : Kept n s) → get_elem? s.views id ≡ some me.0 → mine.is_receiver ≡ true → mine.ended ≡ false
      → (get_or s.words 16 0 < n) × Kept n (stepped s 16 (get_or s.words 16 0 + 1) id me.1 (ends (get_or s.words 16 0) mine ∷ []) keeps)
  end_step s r at rc not_yet = let x : ℕ = get_or s.words 16 0 in let w = r.wide in let here : 16 < length s.words = omega arith in let lt : 16 < 17 = omega arith in
      let since : IsSince 16 x (x + 1) = (omega arith, λ l _. absurd (omega arith)) in let k = knows n s r 16 (x + 1) id me at lt one in let set_here = get_or-set_same s.words 16 (x + 1) 0 here in
      let e0 : ending mine ≡ 0 = ending_before mine rc not_yet in let e1 : ending (ends x mine) ≡ 1 = ending_after mine rc x in let r1 : receiving mine ≡ 1 = ap (λ b. if b then 1 else 0) rc in
      let we = was n s r 16 (x + 1) id me at lt one ending in let wr = was n s r 16 (x + 1) id me at lt one receiving in
      let less = total_lt (total ending) (total receiving) (total_le ending receiving ending_le) s.views id me.0 at (omega arith) in let re = r.ends in let rr = r.receivers in (
        omega arith,
        moves n s r 16 (x + 1) id me at lt (ends x mine ∷ []) since (λ l. absurd (omega arith))
            (λ j l. let a = was n s r 16 (x + 1) id me at lt one (claims_of j) in let b : taken (get_or (set s.words 16 (x + 1)) j 0) ≡ taken (get_or s.words j 0) = ap taken (get_or-set_other s.words 16 j (x + 1) 0 (λ e. omega arith)) in omega arith)
            (omega arith)
            (sym wr)
            ((k.0, (subst (IsSince 16 (x + 1)) (sym set_here) (since_same 16 (x + 1)), all_since_later s.words 16 x (x + 1) here refl since mine.seen k.1)), tt),
      )

  pub ends_keeps : mine.is_receiver ≡ true → mine.ended ≡ false → Allows (Kept n) slots id me 16 (λ x. (x + 1) % 2 ^ 64) (ended (step slots 16 1 0 none) me)
  ends_keeps rc not_yet s r _ at _ = let x : ℕ = get_or s.words 16 0 in let lt : 16 < 17 = omega arith in let f = follows_here n s r 16 x id me at lt one in let k = knows n s r 16 x id me at lt one in
      let go = end_step s r at rc not_yet in let few = r.few in let less = go.0 in let e : x + 1 ≡ (x + 1) % 18446744073709551616 = omega arith in let is = k.0 in
      (ends x mine ∷ [], keeps, tt, subst (λ (y : ℕ). Kept n (stepped s 16 y id me.1 (ends x mine ∷ []) keeps)) e go.1, (omega arith, (f, refl, refl)))

-- ---- seats that come, split and join

module _ (n : ℕ) where
  all_know_append : (ws : List ℕ) (v w : View) → AllKnow n ws v → AllKnow n ws w → AllKnow n ws (v ++ w)
  all_know_append ws [] w a b = b
  all_know_append ws (h ∷ hs) w a b = (a.0, all_know_append ws hs w a.1 b)

  splits : (id : ℕ) (v left right : View) → ((f : Knowledge → ℕ) → total f left + total f right ≡ total f v) → ((ws : List ℕ) → AllKnow n ws v → AllKnow n ws left × AllKnow n ws right) → Splits (Kept n) id v left right
  splits id v left right sums parts s r at =
      let both : (f : Knowledge → ℕ) → total (total f) (set s.views id left ++ right ∷ []) ≡ total (total f) s.views = λ f. let a = total_append (total f) (set s.views id left) (right ∷ []) in let b = total_set (total f) s.views id v left at in let c = sums f in omega arith in
      let know = parts s.words (r.known id v at) in record {
        few = r.few;
        wide = r.wide;
        phases = r.phases;
        claims = λ m l. both (claims_of m) ∙ r.claims m l;
        ends = both ending ∙ r.ends;
        receivers = both receiving ∙ r.receivers;
        known = λ j u e. ⊎_elim (λ (old : get_elem? (set s.views id left) j ≡ some u). ⊎_elim (λ (t : (j ≡ id) × (left ≡ u)). subst (AllKnow n s.words) t.1 know.0) (λ (t : (j ≢ id) × (get_elem? s.views j ≡ some u)). r.known j u t.1) (at_set s.views id j left u old))
            (λ (is : right ≡ u). subst (AllKnow n s.words) is know.1) (at_snoc (set s.views id left) right u j e);
      }

  pub splits_whole : (id : ℕ) (v : View) → Splits (Kept n) id v [] v
  splits_whole id v = splits id v [] v (λ f. omega arith) (λ ws a. (tt, a))

  pub splits_first : (id : ℕ) (v : View) → Splits (Kept n) id v (rest_of v) (first_of v)
  splits_first id [] = splits id [] [] [] (λ f. omega arith) (λ ws a. (tt, tt))
  splits_first id (h ∷ hs) = splits id (h ∷ hs) hs (h ∷ []) (λ f. omega arith) (λ ws a. (a.1, (a.0, tt)))

  pub joins_push : (id : ℕ) (v : View) (other : ℕ) (w : View) → Joins (Kept n) id v other w (w ++ v) []
  joins_push id v other w s r at ne there =
      let held : get_elem? s.views other ≡ some w = sym (set_else s.views id other (w ++ v) ne) ∙ there in
      let both : (f : Knowledge → ℕ) → total (total f) (set (set s.views id (w ++ v)) other []) ≡ total (total f) s.views = λ f.
      let a = total_set (total f) (set s.views id (w ++ v)) other w [] there in let b = total_set (total f) s.views id v (w ++ v) at in let c = total_append f w v in omega arith in
      let know = all_know_append s.words w v (r.known other w held) (r.known id v at) in record {
        few = r.few;
        wide = r.wide;
        phases = r.phases;
        claims = λ m l. both (claims_of m) ∙ r.claims m l;
        ends = both ending ∙ r.ends;
        receivers = both receiving ∙ r.receivers;
        known = λ j u e. ⊎_elim (λ (t : (j ≡ other) × ([] ≡ u)). subst (AllKnow n s.words) t.1 tt)
            (λ (t : (j ≢ other) × (get_elem? (set s.views id (w ++ v)) j ≡ some u)). ⊎_elim (λ (z : (j ≡ id) × (w ++ v ≡ u)). subst (AllKnow n s.words) z.1 know) (λ (z : (j ≢ id) × (get_elem? s.views j ≡ some u)). r.known j u z.1) (at_set s.views id j (w ++ v) u t.1))
            (at_set (set s.views id (w ++ v)) other j [] u e);
      }

  pub first_receivers : (k : ℕ) → (knowledge_of (replicate k (receiver_knowledge k))).receivers ≡ k
  first_receivers zero = refl
  first_receivers (suc k) = refl

  pub sits : (slots : ℕ) → Enters (Kept n) slots 0 (λ found w. sat (step slots 0 0 0 none) (replicate n (receiver_knowledge n), []) found (w, []))
  sits slots s r _ _ = let w : View = onlooker n ∷ [] in
      let same : (f : Knowledge → ℕ) → f (onlooker n) ≡ 0 → total (total f) (s.views ++ w ∷ []) ≡ total (total f) s.views = λ f z. let a = total_append (total f) s.views (w ∷ []) in omega arith in (
        w,
        record {
          few = r.few;
          wide = r.wide;
          phases = r.phases;
          claims = λ m l. same (claims_of m) refl ∙ r.claims m l;
          ends = same ending refl ∙ r.ends;
          receivers = same receiving refl ∙ r.receivers;
          known = λ j u e. ⊎_elim (λ (old : get_elem? s.views j ≡ some u). r.known j u old) (λ (is : w ≡ u). subst (AllKnow n s.words) is ((refl, tt), tt)) (at_snoc s.views w u j e);
        },
        ap (λ (k : ℕ). let v : View = onlooker k ∷ [] in v) (sym (first_receivers n)),
      )

  total_replicate : (f : Knowledge → ℕ) (k : ℕ) (h : Knowledge) → total f (replicate k h) ≡ k * f h
  total_replicate f zero h = omega arith
  total_replicate f (suc k) h = let r = total_replicate f k h in omega arith

  all_know_first : (ws : List ℕ) (k : ℕ) → AllKnow n ws (replicate k (receiver_knowledge n))
  all_know_first ws zero = tt
  all_know_first ws (suc k) = ((refl, tt), all_know_first ws k)

  first_known : (ws : List ℕ) (v : View) → AllKnow n ws v → (j : ℕ) (u : View) → get_elem? (v ∷ []) j ≡ some u → AllKnow n ws u
  first_known ws v a zero u e = subst (AllKnow n ws) (some-injective v u e) a
  first_known ws v a (suc j) u e = absurd (some-ne-none u (sym e))

  pub opens : (ws : List ℕ) → n ≤ 8 → length ws ≡ 17 → ((m : ℕ) → get_or ws m 0 ≡ 0) → Kept n (opening ws [] (replicate n (receiver_knowledge n)))
  opens ws few wide zeros = record {
    few = few;
    wide = wide;
    phases = λ m l. let z = zeros m in omega arith;
    claims = λ m l. let t = total_replicate (claims_of m) n (receiver_knowledge n) in let z : taken (get_or ws m 0) ≡ 0 = ap taken (zeros m) in omega arith;
    ends = let t = total_replicate ending n (receiver_knowledge n) in let z = zeros 16 in omega arith;
    receivers = let t = total_replicate receiving n (receiver_knowledge n) in omega arith;
    known = λ j u e. first_known ws (replicate n (receiver_knowledge n)) (all_know_first ws n) j u e;
  }

module _ (n slots id m : ℕ) (me : M) where
  size_is : (ws : List ℕ) (v : View) → AllKnow n ws v → 0 < length v → board_size v ≡ n
  size_is ws [] a lt = absurd (omega arith)
  size_is ws (h ∷ []) a lt = a.0.0
  size_is ws (h ∷ k ∷ hs) a lt = size_is ws (k ∷ hs) a.1 (omega arith)

  all_may_follow : (ws : List ℕ) (word : ℕ) (v : View) → AllKnow n ws v → AllFollow v word (get_or ws word 0)
  all_may_follow ws word [] a = tt
  all_may_follow ws word (h ∷ hs) a = (follows ws h.seen word (get_or ws word 0) refl a.0.1, all_may_follow ws word hs a.1)

  -- who knows what all receivers know learns how often each module was claimed
  pub asks : m < 16 → Allows (Kept n) slots id me m (λ x. x) (asked (step slots m 0 0 none) me)
  asks lt s r _ at _ = let all_follow : (v : View) → AllKnow n s.words v → AllFollow v m (get_or s.words m 0) = λ v a. all_may_follow s.words m v a in (
    me.0,
    keeps,
    tt,
    subst (λ (p : List ℕ × List View). Kept n record { words = p.0; homes = s.homes; views = p.1 }) (λ j. (sym (set-get_or s.words m 0) j, sym (set_again s.views id me.0 at) j)) r,
    (
      refl,
      (
        r.phases m lt,
        all_follow me.0 (r.known id me.0 at),
        λ some_hand all. let is = size_is s.words me.0 (r.known id me.0 at) some_hand in
            sym (total_of_one (total (claims_of m)) (total receiving) (total_none (claims_of m) receiving (claims_none m)) s.views id me.0 at (r.receivers ∙ sym (all ∙ is))) ∙ r.claims m lt,
      ),
    ),
  )
