-- What a verifier has put and holds, where one of its passes has changed.
use Rattle.std.proofs.Common.{◌≡◌, ◌≢◌, ℕ, ◌+◌, ◌<◌, cond, List, [], ◌∷◌, ◌++◌, length, refl, sym, ◌∙◌, ap, subst, inl, inr}
use Rattle.std.specs.Prelude.{Option, Some, None, MatchOption, slice_get}
use Rattle.std.specs.Option.{option_map_or}
use Rattle.std.proofs.Math.ListN.{set}
use Rattle.std.proofs.lemmas.Bool.Decides.{eqb_tells}
use Rattle.lfi_model.specs.Item.{ItemView}
use Rattle.lfi_queues.specs.Passes.{PassView, IsSamePass, GetsItem}
use Rattle.lfi_sequence.specs.Hands.{Hands, with_item}
use Rattle.lfi_sequence.proofs.HandsOn.{hand_put}
use Rattle.lfi_sequence.proofs.Carrying.{hands_as}
use Rattle.lfi_sequence.specs.declared.verifier.Verifier.{Verifier}
use Rattle.lfi_sequence.specs.declared.verifier.VerifierTurn.{VerifierTurn}
use Rattle.lfi_sequence.specs.declared.verifier.VerifierTurn.TheVariants.{Worked, Idle, Again, Blocked}
use Rattle.lfi_sequence.specs.Handed.{put_in, take_pass_of, lane_puts_of, hand_of, SameLanes, PutsIn, ByHand, TurnsWith}
use Rattle.lfi_sequence.proofs.Slices.{slice_get-set_same, slice_get-set_other}

module _ (lanes : List (PassView ItemView)) (k : ℕ) (p q : (PassView ItemView)) (within : k < length lanes) (at : slice_get lanes k ≡ Some p) where
  items_as : (o r : Option (PassView ItemView)) → o ≡ r → option_map_or (λ (pass : PassView ItemView). pass.items) o [] ≡ option_map_or (λ (pass : PassView ItemView). pass.items) r []
  items_as o r e = ap (λ z. option_map_or (λ (pass : PassView ItemView). pass.items) z []) e

  put_here : put_in (set lanes k q) k ≡ q.items
  put_here = items_as (slice_get (set lanes k q) k) (Some q) (slice_get-set_same lanes k q within)

  put_there : (m : ℕ) → m ≢ k → put_in (set lanes k q) m ≡ put_in lanes m
  put_there m apart = items_as (slice_get (set lanes k q) m) (slice_get lanes m) (slice_get-set_other lanes k m q apart)

  pub handed_on : (took : List ItemView) (j : ItemView) → j.«module» ≡ k → q.items ≡ p.items ++ j ∷ [] → Hands took (put_in lanes) (Some j) → Hands took (put_in (set lanes k q)) None
  handed_on took j of_lane grown hands = hands_as took took (with_item (put_in lanes) j) (put_in (set lanes k q)) None None refl same refl (hand_put took (put_in lanes) j hands)
    where
      here : put_in lanes k ++ j ∷ [] ≡ put_in (set lanes k q) k
      here = ap (λ l. l ++ j ∷ []) (items_as (slice_get lanes k) (Some p) at) ∙ sym grown ∙ sym put_here

      same : (m : ℕ) → with_item (put_in lanes) j m ≡ put_in (set lanes k q) m
      same m = elim (eqb_tells j.«module» m) as (λ _. with_item (put_in lanes) j m ≡ put_in (set lanes k q) m) [
        | inl e ↦ ap (λ b. cond b (put_in lanes m ++ j ∷ []) (put_in lanes m)) e.0 ∙ subst (λ z. put_in lanes z ++ j ∷ [] ≡ put_in (set lanes k q) z) (sym of_lane ∙ e.1) here
        | inr n ↦ ap (λ b. cond b (put_in lanes m ++ j ∷ []) (put_in lanes m)) n.0 ∙ sym (put_there m (λ e. n.1 (of_lane ∙ sym e)))
      ]

  pub held_on : (took : List ItemView) (x y : ItemView) → y ≡ x → q.items ≡ p.items → Hands took (put_in lanes) (Some x) → Hands took (put_in (set lanes k q)) (Some y)
  held_on took x y back kept hands = hands_as took took (put_in lanes) (put_in (set lanes k q)) (Some x) (Some y) refl same (ap Some (sym back)) hands
    where
      same : (m : ℕ) → put_in lanes m ≡ put_in (set lanes k q) m
      same m = elim (eqb_tells m k) as (λ _. put_in lanes m ≡ put_in (set lanes k q) m) [
        | inl e ↦ subst (λ z. put_in lanes z ≡ put_in (set lanes k q) z) (sym e.1) (items_as (slice_get lanes k) (Some p) at ∙ sym kept ∙ sym put_here)
        | inr n ↦ sym (put_there m n.1)
      ]

  -- one call of the pass, which put these items
  pub puts_in : (items : List ItemView) → IsSamePass p q → q.calls ≡ p.calls + 1 → q.items ≡ p.items ++ items → q.rounds ≡ p.rounds → PutsIn k items lanes (set lanes k q)
  puts_in items same calls grown rounds = record {
    pass = p;
    is = at;
    after = ap (λ z. set lanes k z) (λ i. record { queue = same.queue i; number = same.number i; calls = calls i; items = grown i; rounds = rounds i });
  }

  abbrev StaysAt : Option (PassView ItemView) → Option (PassView ItemView) → Type 0
  StaysAt old new = MatchOption old (new ≡ None) (λ pass. (after : PassView ItemView) × (new ≡ Some after) × IsSamePass pass after)

  stays : (o r : Option (PassView ItemView)) → r ≡ o → StaysAt o r
  stays None r e = e
  stays (Some pass) r e = (pass, e, record { queue = refl; number = refl })

  pub same_passes : IsSamePass p q → SameLanes lanes (set lanes k q)
  same_passes same m = elim (eqb_tells m k) as (λ _. StaysAt (slice_get lanes m) (slice_get (set lanes k q) m)) [
    | inl e ↦
        subst (λ z. StaysAt (slice_get lanes z) (slice_get (set lanes k q) z)) (sym e.1)
        (subst (λ o. StaysAt o (slice_get (set lanes k q) k)) (sym at) (q, slice_get-set_same lanes k q within, same))
    | inr n ↦ stays (slice_get lanes m) (slice_get (set lanes k q) m) (slice_get-set_other lanes k m q n.1)
  ]

-- a take that gave an item, with the put of it
pub told_by_take : (did : VerifierTurn) (old new : Verifier) (item : ItemView) → GetsItem (take_pass_of old) (take_pass_of new) item → ByHand did item (hand_of new) (lane_puts_of old) (lane_puts_of new) → TurnsWith None did old new
told_by_take Worked old new item gets h = (item, gets, h)
told_by_take Blocked old new item gets h = (item, gets, h)
told_by_take Idle old new item gets h = absurd h
told_by_take Again old new item gets h = absurd h
