-- An item that is carried by hand is as good as one that went through the queues.
use Rattle.std.proofs.Common.{◌≡◌, ◌≢◌, ℕ, ◌==◌, Bool, true, false, cond, List, [], ◌∷◌, ◌++◌, Option, Some, None, refl, sym, ◌∙◌, ap, subst}
use Rattle.std.specs.Prelude.{option_to_list, if◌then◌else◌}
use Rattle.std.proofs.lemmas.Bool.{eq-eqb, eqb-true, cond-true, cond-false}
use Rattle.lfi_model.specs.Item.{ItemView}
use Rattle.lfi_queues.specs.Kept.{Kept, with_last}
use Rattle.lfi_queues.proofs.Keeps.{kept_put, kept_take}
use Rattle.lfi_model.specs.Modules.{of}
use Rattle.lfi_sequence.specs.Hands.{Hands, with_item}
use Rattle.lfi_sequence.specs.Delivers.{Carries, with_last_in, with_held}
use Rattle.lfi_sequence.proofs.HandsOn.{hand_taken, hand_put}

-- a put and a take at once
pub carried : {X : Type 0} → (puts takes : ℕ → List X) (p t : ℕ) (x : X) → Kept puts takes [] → Kept (with_last puts p x) (with_last takes t x) []
carried puts takes p t x kept = kept_take (with_last puts p x) takes [] t x (kept_put puts takes [] p x kept)

carried_by : {X : Type 0} → (b : Bool) (puts takes : ℕ → List X) (p t : ℕ) (x : X) → Kept puts takes [] → Kept (λ j. cond b (with_last puts p x j) (puts j)) (λ j. cond b (with_last takes t x j) (takes j)) []
carried_by true puts takes p t x kept = carried puts takes p t x kept
carried_by false puts takes p t x kept = kept

pub hands_as : (took more : List ItemView) (lanes others : ℕ → List ItemView) (held now : Option ItemView) → took ≡ more → ((m : ℕ) → lanes m ≡ others m) → held ≡ now → Hands took lanes held → Hands more others now
hands_as took more lanes others held now e same h hands m in_range = ap (of m) (sym e) ∙ hands m in_range ∙ (λ i. (same m i) ++ of m (option_to_list (h i)))

cond-both : {A : Type 0} (b : Bool) (a : A) → cond b a a ≡ a
cond-both true a = refl
cond-both false a = refl

module _ (takes : ℕ → List ItemView) (lane_puts lane_takes : ℕ → ℕ → List ItemView) (held : ℕ → Option ItemView) (carries : Carries takes lane_puts lane_takes held) where
  -- what a verifier holds goes to its module's sequencer
  pub hand_carried : (v : ℕ) (j : ItemView) → held v ≡ Some j → Carries takes (with_last_in lane_puts j.«module» v j) (with_last_in lane_takes j.«module» 0 j) (with_held held v None)
  hand_carried v j is = record {
    verifiers = λ w. by w (v == w) refl;
    lanes = λ m in_range. carried_by (j.«module» == m) (lane_puts m) (lane_takes m) v 0 j (carries.lanes m in_range);
    one_taker = λ m t apart. taker m t apart (j.«module» == m);
  }
    where
      taker : (m t : ℕ) → t ≢ 0 → (b : Bool) → cond b (with_last (lane_takes m) 0 j t) (lane_takes m t) ≡ []
      taker m t apart true = at (0 == t) refl
        where
          at : (c : Bool) → (0 == t) ≡ c → cond c (lane_takes m t ++ j ∷ []) (lane_takes m t) ≡ []
          at true e = absurd (apart (sym (eqb-true 0 t e)))
          at false e = carries.one_taker m t apart
      taker m t apart false = carries.one_taker m t apart

      by : (w : ℕ) (b : Bool) → (v == w) ≡ b → Hands (takes w) (λ m. with_last_in lane_puts j.«module» v j m w) (if b then None else held w)
      by w true e =
          let same : v ≡ w = eqb-true v w e in
          subst (λ z. Hands (takes z) (λ m. with_last_in lane_puts j.«module» v j m z) None) same
          (hands_as (takes v) (takes v) (with_item (λ m. lane_puts m v) j) (λ m. with_last_in lane_puts j.«module» v j m v) None None refl
          (λ m. ap (λ l. cond (j.«module» == m) l (lane_puts m v)) (sym (cond-true (v == v) (lane_puts m v ++ j ∷ []) (lane_puts m v) (eq-eqb v v refl)))) refl
          (hand_put (takes v) (λ m. lane_puts m v) j (hands_as (takes v) (takes v) (λ m. lane_puts m v) (λ m. lane_puts m v) (held v) (Some j) refl (λ m. refl) is (carries.verifiers v))))
      by w false e =
          hands_as (takes w) (takes w) (λ m. lane_puts m w) (λ m. with_last_in lane_puts j.«module» v j m w) (held w) (held w) refl
          (λ m. sym (ap (λ l. cond (j.«module» == m) l (lane_puts m w)) (cond-false (v == w) (lane_puts m w ++ j ∷ []) (lane_puts m w) e) ∙ cond-both (j.«module» == m) (lane_puts m w))) refl
          (carries.verifiers w)

  -- an empty-handed verifier takes an item
  pub rest_taken : (v : ℕ) (x : ItemView) → held v ≡ None → Carries (with_last takes v x) lane_puts lane_takes (with_held held v (Some x))
  rest_taken v x none = record {
    verifiers = λ w. by w (v == w) refl;
    lanes = carries.lanes;
    one_taker = carries.one_taker;
  }
    where
      by : (w : ℕ) (b : Bool) → (v == w) ≡ b → Hands (cond b (takes w ++ x ∷ []) (takes w)) (λ m. lane_puts m w) (if b then Some x else held w)
      by w true e =
          let same : v ≡ w = eqb-true v w e in
          subst (λ z. Hands (takes z ++ x ∷ []) (λ m. lane_puts m z) (Some x)) same
          (hand_taken (takes v) (λ m. lane_puts m v) x (hands_as (takes v) (takes v) (λ m. lane_puts m v) (λ m. lane_puts m v) (held v) None refl (λ m. refl) none (carries.verifiers v)))
      by w false e = carries.verifiers w
