-- The last pass of a row.
use Rattle.std.proofs.Common.{◌≡◌, ℕ, zero, suc, ◌+◌, ◌<◌, List, [], ◌∷◌, ◌++◌, length, take, get_or, refl, sym, ◌∙◌, ap, arith, inl, inr, ◌⊎◌}
use Rattle.std.specs.Prelude.{Option, Some, None, slice_get}
use Rattle.std.specs.Option.{option_map_or}
use Rattle.std.proofs.lemmas.Option.{slice_get-get_or}
use Rattle.std.proofs.Math.Seq.{take-suc}
use Rattle.lfi_model.specs.Item.{ItemView}
use Rattle.lfi_queues.specs.Kept.{Kept}
use Rattle.lfi_queues.specs.Passes.{PassView, pass_at, items_at}
use Rattle.lfi_sequence.specs.declared.sequence.Sequence.{Sequence}
use Rattle.lfi_sequence.specs.declared.sequencer.Sequencer.{Sequencer}
use Rattle.lfi_stage.specs.inner.Rows.{Popped, last_of, only_first, DrainedTo}

last_pushed : (xs : List (PassView ItemView)) (x : PassView ItemView) → last_of (xs ++ x ∷ []) ≡ Some x
last_pushed [] x = refl
last_pushed (y ∷ []) x = refl
last_pushed (y ∷ z ∷ ys) x = last_pushed (z ∷ ys) x

pub last_popped : (xs ys : List (PassView ItemView)) (o : Option (PassView ItemView)) → Popped xs o ys → last_of xs ≡ o
last_popped xs ys None h = ap last_of h.0
last_popped xs ys (Some x) h = ap last_of h ∙ last_pushed ys x

-- only the first place has a pass
pub first_only : (places : List (Option (PassView ItemView))) → ((k : ℕ) → 0 < k → pass_at places k ≡ None) → (k : ℕ) → items_at places k ≡ only_first (items_at places 0) k
first_only places none zero = refl
first_only places none (suc k) = ap (λ (o : Option (PassView ItemView)). option_map_or (λ pass. pass.items) o []) (none (suc k) (omega arith))

pub kept_as : (puts lists takes others : ℕ → List ItemView) → ((k : ℕ) → puts k ≡ lists k) → ((k : ℕ) → takes k ≡ others k) → Kept puts takes [] → Kept lists others []
kept_as puts lists takes others same alike kept = record {
  shares = kept.shares;
  left = kept.left;
  put = λ p. (let s = kept.put p in (s.0, s.1, sym (same p) ∙ s.2));
  took = λ t. (let s = kept.took t in (s.0, s.1 ∙ alike t, s.2));
  rest = kept.rest;
}

take-nil : (m : ℕ) → take {A = PassView ItemView} m [] ≡ []
take-nil zero = refl
take-nil (suc m) = refl

snoc_same : {A : Type 0} → (us vs : List A) (p q : A) → us ++ p ∷ [] ≡ vs ++ q ∷ [] → us ≡ vs
snoc_same [] [] p q e = refl
snoc_same [] (v ∷ []) p q e = absurd (cc)
snoc_same [] (v ∷ w ∷ vs) p q e = absurd (cc)
snoc_same (u ∷ []) [] p q e = absurd (cc)
snoc_same (u ∷ w ∷ us) [] p q e = absurd (cc)
snoc_same (u ∷ us) (v ∷ vs) p q e =
    let heads : u ≡ v = cc in
    let tails : us ≡ vs = snoc_same us vs p q cc in cc

nothing_last : {A : Type 0} → (ys : List A) (p : A) → [] ≡ ys ++ p ∷ [] → ⊥
nothing_last [] p e = cc
nothing_last (y ∷ ys) p e = cc

take_one : (xs : List (PassView ItemView)) (m : ℕ) (d : PassView ItemView) → m < length xs → take (m + 1) xs ≡ take m xs ++ get_or xs m d ∷ []
take_one xs m d within = (let more : m + 1 ≡ suc m = omega arith in ap (λ k. take k xs) more ∙ take-suc xs m d within)

-- what is left where the last of the first passes was taken out
pub popped_take : (xs : List (PassView ItemView)) (m : ℕ) (o : Option (PassView ItemView)) (ys : List (PassView ItemView)) → (xs ≡ []) ⊎ (m < length xs) → Popped (take (m + 1) xs) o ys → ys ≡ take m xs
popped_take [] m None ys some h = h.1 ∙ sym (take-nil m)
popped_take [] m (Some p) ys some h = absurd (nothing_last ys p (sym (take-nil (m + 1)) ∙ h))
popped_take (x ∷ xs) m o ys (inl e) h = absurd (cc)
popped_take (x ∷ xs) m None ys (inr within) h = absurd (nothing_last (take m (x ∷ xs)) (get_or (x ∷ xs) m x) (sym h.0 ∙ take_one (x ∷ xs) m x within))
popped_take (x ∷ xs) m (Some p) ys (inr within) h = snoc_same ys (take m (x ∷ xs)) p (get_or (x ∷ xs) m x) (sym h ∙ take_one (x ∷ xs) m x within)

-- the last of the first passes
pub last_take : (xs : List (PassView ItemView)) (m : ℕ) → (xs ≡ []) ⊎ (m < length xs) → last_of (take (m + 1) xs) ≡ slice_get xs m
last_take [] m some = ap last_of (take-nil (m + 1))
last_take (x ∷ xs) m (inl e) = absurd (cc)
last_take (x ∷ xs) m (inr within) = ap last_of (take_one (x ∷ xs) m x within) ∙ last_pushed (take m (x ∷ xs)) (get_or (x ∷ xs) m x) ∙ sym (slice_get-get_or (x ∷ xs) m x within)

pub drained_as : (puts lists : ℕ → List ItemView) (old : Sequencer) (new : Sequence) → ((k : ℕ) → puts k ≡ lists k) → DrainedTo puts old new → DrainedTo lists old new
drained_as puts lists old new same d = record {
  taken = d.taken;
  kept = kept_as puts lists (only_first d.taken) (only_first d.taken) same (λ k. refl) d.kept;
  tie = d.tie;
  same = d.same;
}

-- a list that is empty, or has all places
pub some_left : (xs : List (PassView ItemView)) (n k : ℕ) → k < n → (xs ≡ []) ⊎ (length xs ≡ n) → (xs ≡ []) ⊎ (k < length xs)
some_left xs n k within (inl e) = inl e
some_left xs n k within (inr e) = inr (omega arith)
