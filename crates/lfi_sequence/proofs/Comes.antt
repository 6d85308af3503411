-- Laws of what has come.
use Rattle.std.proofs.Common.{◌≡◌, ℕ, zero, suc, None, ◌<◌, ◌≤◌, ◌+◌, ◌==◌, List, [], ◌∷◌, ◌++◌, length, Option, Some, ◌⊎◌, refl, sym, ◌∙◌, ap, subst, inl, inr, append_assoc, arith, Bool, true, false, cond, eq-eqb, length-append}
use Rattle.std.proofs.lemmas.Bool.{eqb-true}
use Rattle.std.specs.List.{find}
use Rattle.lfi_model.specs.Item.{ItemView}
use Rattle.lfi_model.specs.declared.item.Reason.{Reason}
use Rattle.lfi_model.specs.Modules.{Member, FitsAfter, IsModule}
use Rattle.lfi_model.specs.Outcomes.{end_of}
use Rattle.lfi_model.proofs.Numbered.{split_push, nothing_before}
use Rattle.lfi_sequence.proofs.SameExtent.{same_or}
use Rattle.lfi_sequence.specs.Come.{first_of, Comes, Coming, Come}

append-nil' : {A : Type 0} (xs : List A) → xs ++ [] ≡ xs
append-nil' [] = refl
append-nil' (x ∷ xs) = ap (λ ys. x ∷ ys) (append-nil' xs)

-- two lists that have come go on alike after a common beginning
pub one_rest : (taken pre us vs : List ItemView) → Come taken (pre ++ us) → Come taken (pre ++ vs) → us ≡ vs
one_rest taken pre [] [] hx hy = refl
one_rest taken pre [] (v ∷ vs) hx hy = absurd (hx.stops v (subst (λ l. Comes taken l v) (sym (append-nil' pre)) (hy.each pre vs v refl)))
one_rest taken pre (u ∷ us) [] hx hy = absurd (hy.stops u (subst (λ l. Comes taken l u) (sym (append-nil' pre)) (hx.each pre us u refl)))
one_rest taken pre (u ∷ us) (v ∷ vs) hx hy =
    let first_u : first_of taken (length pre) ≡ Some u = (hx.each pre us u refl).first in
    let first_v : first_of taken (length pre) ≡ Some v = (hy.each pre vs v refl).first in
    let same : u ≡ v = cc in
    let hx' : Come taken ((pre ++ u ∷ []) ++ us) = subst (λ l. Come taken l) (sym (append_assoc pre (u ∷ []) us)) hx in
    let hy' : Come taken ((pre ++ u ∷ []) ++ vs) = subst (λ l. Come taken l) (ap (λ w. pre ++ w ∷ vs) (sym same) ∙ sym (append_assoc pre (u ∷ []) vs)) hy in
    let tails : us ≡ vs = one_rest taken (pre ++ u ∷ []) us vs hx' hy' in
    cc

pub come_once : (taken xs ys : List ItemView) → Come taken xs → Come taken ys → xs ≡ ys
come_once taken xs ys hx hy = one_rest taken [] xs ys hx hy

-- a place in the list for each member
pub split : {A : Type 0} (xs : List A) (x : A) → Member xs x → (before : List A) × (after : List A) × (xs ≡ before ++ x ∷ after)
split [] x h = absurd h
split (y ∷ ys) x h = elim h [
  | inl e ↦ ([], ys, ap (λ z. z ∷ ys) e)
  | inr t ↦ let s : (before : List _) × (after : List _) × (ys ≡ before ++ x ∷ after) = split ys x t in (y ∷ s.0, s.1, ap (λ zs. y ∷ zs) s.2)
]

pub joined : {A : Type 0} (before after : List A) (x : A) → Member (before ++ x ∷ after) x
joined [] after x = inl refl
joined (y ∷ before) after x = inr (joined before after x)

-- what stands at the same place is the same
pub same_place : {A : Type 0} (before other after more : List A) (x y : A) → length before ≡ length other → before ++ x ∷ after ≡ other ++ y ∷ more → x ≡ y
same_place [] [] after more x y l e = cc
same_place [] (o ∷ other) after more x y l e = absurd (omega arith)
same_place (b ∷ before) [] after more x y l e = absurd (omega arith)
same_place (b ∷ before) (o ∷ other) after more x y l e = same_place before other after more x y (omega arith) (cc)

-- a search finds a member that passes, where there is one
Found : {A : Type 0} (test : A → Bool) (xs : List A) → Option A → Type 0
Found {A} test xs r = (y : A) × (r ≡ Some y) × (test y ≡ true) × Member xs y

found_there : {A : Type 0} (test : A → Bool) (y : A) (ys : List A) (b : Bool) → test y ≡ b → (test y ≡ false → Found test ys (find test ys)) → Found test (y ∷ ys) (cond b (Some y) (find test ys))
unfolding Found
found_there test y ys true t rest = (y, refl, t, inl refl)
found_there test y ys false t rest = let r = rest t in (r.0, r.1, r.2, inr r.3)

pub found : {A : Type 0} (test : A → Bool) (xs : List A) (x : A) → Member xs x → test x ≡ true → (y : A) × (find test xs ≡ Some y) × (test y ≡ true) × Member xs y
unfolding Found
found test [] x h t = absurd h
found test (y ∷ ys) x h t =
    found_there test y ys (test y) refl (λ no. elim h [
      | inl e ↦ absurd (let yes : test y ≡ true = ap test e ∙ t in cc)
      | inr m ↦ found test ys x m t
    ])

member_there : {A : Type 0} (test : A → Bool) (z y : A) (zs : List A) (b : Bool) → test z ≡ b → (cond b (Some z) (find test zs) ≡ Some y) → (find test zs ≡ Some y → (test y ≡ true) × Member zs y) → (test y ≡ true) × Member (z ∷ zs) y
member_there test z y zs true t e rest = let same : z ≡ y = cc in (ap test (sym same) ∙ t, inl same)
member_there test z y zs false t e rest = let r = rest e in (r.0, inr r.1)

pub found_is_member : {A : Type 0} (test : A → Bool) (xs : List A) (y : A) → find test xs ≡ Some y → (test y ≡ true) × Member xs y
found_is_member test [] y e = absurd (cc)
found_is_member test (z ∷ zs) y e = member_there test z y zs (test z) refl e (λ f. found_is_member test zs y f)

-- Of a module's items, taken in any order and no others with them, all have come.
pub whole_come : (taken items : List ItemView) → IsModule items → ((x : ItemView) → Member taken x → Member items x) → ((x : ItemView) → Member items x → Member taken x) → Come taken items
whole_come taken items numbered there back = record {
  each = λ before after x is.
      let here : Member items x = subst (λ l. Member l x) (sym is) (joined before after x) in
      let ordinal : x.ordinal ≡ length before = (numbered before after x is).ordinal in
      let f : (y : ItemView) × (first_of taken (length before) ≡ Some y) × ((y.ordinal == length before) ≡ true) × Member taken y =
      found (λ item. item.ordinal == length before) taken x (back x here) (eq-eqb _ _ ordinal) in
      let s = split items f.0 (there f.0 f.3) in
      let theirs : f.0.ordinal ≡ length s.0 = (numbered s.0 s.1 f.0 s.2).ordinal in
      let place : f.0.ordinal ≡ length before = eqb-true _ _ f.2 in
      let one : x ≡ f.0 = same_place before s.0 after s.1 x f.0 (sym place ∙ theirs) (sym is ∙ s.2) in
      record { first = f.1 ∙ ap Some (sym one); fits = (numbered before after x is).fits };
  stops = λ x comes.
      let m = found_is_member (λ item. item.ordinal == length items) taken x comes.first in
      let s = split items x (there x m.1) in
      let theirs : x.ordinal ≡ length s.0 = (numbered s.0 s.1 x s.2).ordinal in
      let place : x.ordinal ≡ length items = eqb-true _ _ m.0 in
      let long : length items ≡ length s.0 + length (x ∷ s.1) = ap length s.2 ∙ length-append s.0 (x ∷ s.1) in
      absurd (omega (arith, long));
}

pub coming_none : (taken : List ItemView) → Coming taken []
coming_none taken before after x e = absurd (nothing_before before after x e)

-- an item that comes next has come then
pub coming_more : (taken xs : List ItemView) (x : ItemView) → Coming taken xs → Comes taken xs x → Coming taken (xs ++ x ∷ [])
coming_more taken xs x coming comes before after y is = elim (split_push xs before after x y is) [
  | inl h ↦ subst (λ z. Comes taken before z) (sym h.1) (subst (λ l. Comes taken l x) (sym h.0) comes)
  | inr h ↦ coming before h.0 y h.1
]

-- the first that passes stays the first
pub found_stays : {A : Type 0} (test : A → Bool) (xs ys : List A) (x : A) → find test xs ≡ Some x → find test (xs ++ ys) ≡ Some x
found_stays test [] ys x e = absurd (cc)
found_stays test (z ∷ zs) ys x e = stays_by test z x zs ys (test z) e (λ f. found_stays test zs ys x f)
  where
    stays_by : {A : Type 0} (test : A → Bool) (z x : A) (zs ys : List A) (b : Bool) → cond b (Some z) (find test zs) ≡ Some x → (find test zs ≡ Some x → find test (zs ++ ys) ≡ Some x) → cond b (Some z) (find test (zs ++ ys)) ≡ Some x
    stays_by test z x zs ys true e f = e
    stays_by test z x zs ys false e f = f e

-- what is coming stays so when more items are taken
pub coming_stays : (taken more xs : List ItemView) → Coming taken xs → Coming (taken ++ more) xs
coming_stays taken more xs coming before after x is =
    let c = coming before after x is in
    record { first = found_stays (λ item. item.ordinal == length before) taken more x c.first; fits = c.fits }

fits_or_by : (o : Option Reason) (first : ItemView) (before : List ItemView) (x : ItemView) → end_of (first ∷ before) ≡ o → x.extent ≡ first.extent → FitsAfter (first ∷ before) x ⊎ (FitsAfter (first ∷ before) x → ⊥)
fits_or_by None first before x is words = inl (words, is)
fits_or_by (Some reason) first before x is words = inr (λ h. let none = h.1 in cc)

-- an item fits, or doesn't
pub fits_or : (before : List ItemView) (x : ItemView) → FitsAfter before x ⊎ (FitsAfter before x → ⊥)
fits_or [] x = inl tt
fits_or (first ∷ before) x = elim (same_or x.extent first.extent) [ inl e ↦ fits_or_by (end_of (first ∷ before)) first before x refl e | inr n ↦ inr (λ h. n h.0) ]

-- above all ordinals
abbrev top : List ItemView → ℕ
top [] = 0
top (x ∷ xs) = x.ordinal + 1 + top xs

member_top : (taken : List ItemView) (x : ItemView) → Member taken x → x.ordinal < top taken
member_top [] x h = absurd h
member_top (y ∷ ys) x h = elim h [ inl e ↦ (let o = ap (λ z. z.ordinal) e in omega arith) | inr m ↦ (let r = member_top ys x m in omega arith) ]

look : (taken xs : List ItemView) → Coming taken xs → (o : Option ItemView) → first_of taken (length xs) ≡ o → ((x : ItemView) → Comes taken xs x → (ys : List ItemView) × Come taken ys) → (ys : List ItemView) × Come taken ys
look taken xs coming None is on = (xs, record { each = coming; stops = λ x comes. let some = comes.first in cc })
look taken xs coming (Some x) is on = elim (fits_or xs x) [
  | inl fits ↦ on x (record { first = is; fits = fits })
  | inr apart ↦ (xs, record { each = coming; stops = λ y comes. (let some = comes.first in let same : x ≡ y = cc in apart (subst (λ z. FitsAfter xs z) (sym same) comes.fits)) })
]

come_by : (fuel : ℕ) (taken xs : List ItemView) → top taken ≤ length xs + fuel → Coming taken xs → (ys : List ItemView) × Come taken ys
come_by zero taken xs enough coming = look taken xs coming (first_of taken (length xs)) refl (λ x comes.
    let m = found_is_member (λ item. item.ordinal == length xs) taken x comes.first in
    let below : x.ordinal < top taken = member_top taken x m.1 in
    let place : x.ordinal ≡ length xs = eqb-true _ _ m.0 in
    absurd (omega arith))
come_by (suc fuel) taken xs enough coming = look taken xs coming (first_of taken (length xs)) refl (λ x comes.
    let l = length-append xs (x ∷ []) in
    come_by fuel taken (xs ++ x ∷ []) (omega arith) (coming_more taken xs x coming comes))

-- of any items some list has come
pub some_come : (taken : List ItemView) → (xs : List ItemView) × Come taken xs
some_come taken = come_by (top taken) taken [] (omega arith) (coming_none taken)
