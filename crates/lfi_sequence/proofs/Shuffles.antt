-- Shuffles of lists, and what a queue of which nothing is left says of the items that pass a test.
use Rattle.std.proofs.Common.{◌≡◌, ◌≢◌, ℕ, Bool, true, false, cond, eqb, List, [], ◌∷◌, ◌++◌, map, sym, refl, ap, ◌∙◌, subst, append-nil}
use Rattle.std.specs.Prelude.{filter}
use Rattle.std.specs.List.Sorted.{IsPermutation}
use Rattle.std.proofs.lemmas.Bool.{cond-true, eqb-false, eqb-true, eq-eqb}
use Rattle.std.proofs.lemmas.List.{map-append}
use Rattle.std.proofs.lemmas.List.Sorted.{IsPermutation-refl, IsPermutation-sym, IsPermutation-trans, IsPermutation-cons, IsPermutation-middle}
use Rattle.lfi_queues.specs.Kept.{numbered, IsShuffle, Kept}
use Rattle.lfi_queues.proofs.Shares.{parts_of_none, one_putter as kept_putter}

-- a shuffle of lists that are the same at each number
pub shuffle_as : {X : Type 0} → (parts others : ℕ → List X) (whole : List X) → ((k : ℕ) → parts k ≡ others k) → IsShuffle parts whole → IsShuffle others whole
shuffle_as parts others whole same h = (h.0, h.1, λ k. h.2 k ∙ same k)

module _ {X : Type 0} where
  cond-here : (k : ℕ) (x : X) (xs : List X) → cond (eqb k k) (x ∷ xs) xs ≡ x ∷ xs
  cond-here k x xs = cond-true (eqb k k) (x ∷ xs) xs (eq-eqb k k refl)

  nothing_dealt : (ds : List (ℕ × X)) → ((k : ℕ) → numbered k ds ≡ []) → ds ≡ []
  nothing_dealt [] none = refl
  nothing_dealt (d ∷ ds) none = absurd (let some : d.1 ∷ numbered d.0 ds ≡ [] = sym (cond-here d.0 d.1 (numbered d.0 ds)) ∙ none d.0 in cc)

  -- where all parts are empty, so is the whole
  pub none_of_parts : (parts : ℕ → List X) (whole : List X) → ((k : ℕ) → parts k ≡ []) → IsShuffle parts whole → whole ≡ []
  none_of_parts parts whole none h = sym h.1 ∙ ap (map (λ d. d.1)) (nothing_dealt h.0 (λ k. h.2 k ∙ none k))

  -- the first item of a number, pulled out of the dealt ones
  abbrev Pulled : ℕ → X → List (ℕ × X) → Type 0
  Pulled k x es = (before after : List (ℕ × X)) × (es ≡ before ++ (k, x) ∷ after) × ((j : ℕ) → numbered j es ≡ numbered j ((k, x) ∷ (before ++ after)))

  pull : (k : ℕ) (x : X) (xs : List X) (es : List (ℕ × X)) → numbered k es ≡ x ∷ xs → Pulled k x es
  pull k x xs [] e = absurd cc
  pull k x xs (d ∷ es) e = step (eqb d.0 k) refl e (λ h. pull k x xs es h)
    where
      swap : (b c : Bool) (j : ℕ) (l : List X) → eqb d.0 j ≡ b → eqb k j ≡ c → eqb d.0 k ≡ false → cond b (d.1 ∷ cond c (x ∷ l) l) (cond c (x ∷ l) l) ≡ cond c (x ∷ cond b (d.1 ∷ l) l) (cond b (d.1 ∷ l) l)
      swap true true j l p q n = absurd (eqb-false d.0 k n (eqb-true d.0 j p ∙ sym (eqb-true k j q)))
      swap true false j l p q n = refl
      swap false true j l p q n = refl
      swap false false j l p q n = refl

      step : (b : Bool) → eqb d.0 k ≡ b → cond b (d.1 ∷ numbered k es) (numbered k es) ≡ x ∷ xs → (numbered k es ≡ x ∷ xs → Pulled k x es) → Pulled k x (d ∷ es)
      step true p h rest =
          let item : d.1 ≡ x = cc in
          let number : d.0 ≡ k = eqb-true d.0 k p in
          let same : d ∷ es ≡ (k, x) ∷ es = (λ i. (number i, item i) ∷ es) in
          ([], es, same, λ j. ap (numbered j) same)
      step false p h rest =
          let r = rest h in (
            d ∷ r.0,
            r.1,
            ap (λ l. d ∷ l) r.2,
            λ j.
                ap (λ l. cond (eqb d.0 j) (d.1 ∷ l) l) (r.3 j) ∙ swap (eqb d.0 j) (eqb k j) j (numbered j (r.0 ++ r.1)) refl refl p,
          )

  tail_same : (b : Bool) (x : X) (xs ys : List X) → cond b (x ∷ xs) xs ≡ cond b (x ∷ ys) ys → xs ≡ ys
  tail_same true x xs ys e = cc
  tail_same false x xs ys e = e

  dealt_alike : (ds es : List (ℕ × X)) → ((k : ℕ) → numbered k ds ≡ numbered k es) → IsPermutation (map (λ d. d.1) ds) (map (λ d. d.1) es)
  dealt_alike [] es same = subst (λ l. IsPermutation [] (map (λ d. d.1) l)) (sym (nothing_dealt es (λ k. sym (same k)))) (IsPermutation-refl [])
  dealt_alike (d ∷ ds) es same =
      let p : Pulled d.0 d.1 es = pull d.0 d.1 (numbered d.0 ds) es (sym (same d.0) ∙ cond-here d.0 d.1 (numbered d.0 ds)) in
      let left : (k : ℕ) → numbered k ds ≡ numbered k (p.0 ++ p.1) = λ k. tail_same (eqb d.0 k) d.1 (numbered k ds) (numbered k (p.0 ++ p.1)) (same k ∙ p.3 k) in
      let items = λ (l : List (ℕ × X)). map (λ d. d.1) l in
      let rest : IsPermutation (items ds) (items p.0 ++ items p.1) = subst (λ l. IsPermutation (items ds) l) (map-append (λ (y : ℕ × X). y.1) p.0 p.1) (dealt_alike ds (p.0 ++ p.1) left) in
      let all : items es ≡ items p.0 ++ d.1 ∷ items p.1 = ap items p.2 ∙ map-append (λ (y : ℕ × X). y.1) p.0 ((d.0, d.1) ∷ p.1) in
      subst (λ l. IsPermutation (d.1 ∷ items ds) l) (sym all)
      (IsPermutation-trans (d.1 ∷ items ds) (d.1 ∷ (items p.0 ++ items p.1)) (items p.0 ++ d.1 ∷ items p.1)
      (IsPermutation-cons d.1 (items ds) (items p.0 ++ items p.1) rest)
      (IsPermutation-sym (items p.0 ++ d.1 ∷ items p.1) (d.1 ∷ (items p.0 ++ items p.1)) (IsPermutation-middle (items p.0) d.1 (items p.1))))

  -- two shuffles of the same lists have the same items, each as often
  pub shuffled_alike : (parts : ℕ → List X) (one two : List X) → IsShuffle parts one → IsShuffle parts two → IsPermutation one two
  shuffled_alike parts one two g h =
      subst (λ l. IsPermutation l two) g.1 (subst (λ l. IsPermutation (map (λ d. d.1) g.0) l) h.1 (dealt_alike g.0 h.0 (λ k. g.2 k ∙ sym (h.2 k))))

  -- A queue of which nothing is left.
  module _ (puts takes : ℕ → List X) (kept : Kept puts takes []) where
    -- where one pass alone puts items that pass a test, what the takers took of them is dealt from its list
    pub one_putter : (f : X → Bool) (p : ℕ) → ((q : ℕ) → q ≢ p → filter f (puts q) ≡ []) → IsShuffle (λ t. filter f (takes t)) (filter f (puts p))
    one_putter f p none =
        let taken = kept_putter f puts takes [] p kept none in
        subst (λ l. IsShuffle (λ t. filter f (takes t)) l) (sym (taken.2 ∙ append-nil taken.0)) taken.1

    -- where no pass puts items that pass a test, nobody took one
    pub no_putter : (f : X → Bool) → ((q : ℕ) → filter f (puts q) ≡ []) → (t : ℕ) → filter f (takes t) ≡ []
    no_putter f none = parts_of_none (λ t. filter f (takes t)) (filter f (puts 0)) (none 0) (one_putter f 0 (λ q apart. none q))
