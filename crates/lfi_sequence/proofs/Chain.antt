-- What comes to a module's sequencer is what its claimer made.
use Rattle.std.proofs.Common.{◌≡◌, ◌≢◌, ℕ, ◌<◌, ◌==◌, zero, suc, List, [], ◌∷◌, length, get_or, sym, ◌∙◌, inl, inr, arith, append-nil}
use Rattle.std.specs.List.{Contains}
use Rattle.std.specs.List.Sorted.{IsPermutation}
use Rattle.std.proofs.lemmas.List.Sorted.{IsPermutation-sym, Contains-permutation}
use Rattle.lfi_model.specs.Item.{ItemView}
use Rattle.lfi_queues.specs.Kept.{IsShuffle}
use Rattle.lfi_model.specs.Modules.{Member, IsModule, of}
use Rattle.lfi_sequence.specs.Come.{Come}
use Rattle.lfi_sequence.specs.Delivers.{Delivers}
use Rattle.lfi_sequence.proofs.Comes.{whole_come}
use Rattle.lfi_sequence.proofs.Shuffles.{shuffle_as, shuffled_alike, none_of_parts, one_putter, no_putter}
use Rattle.lfi_queues.proofs.Shares.{one_taker}

-- a member stands at a place, and what stands at a place is a member
pub contains_member : {A : Type 0} → (xs : List A) (x : A) → Contains xs x → Member xs x
contains_member [] x h = absurd (let within = h.1 in omega arith)
contains_member (y ∷ ys) x h = by h.0 h.1 h.2 (λ k. contains_member ys x k)
  where
    by : (k : ℕ) → k < length (y ∷ ys) → get_or (y ∷ ys) k x ≡ x → (Contains ys x → Member ys x) → Member (y ∷ ys) x
    by zero within is rest = inl is
    by (suc k) within is rest = inr (rest (k, (omega arith), is))

pub member_contains : {A : Type 0} → (xs : List A) (x : A) → Member xs x → Contains xs x
member_contains [] x h = absurd h
member_contains (y ∷ ys) x h = elim h [
  | inl e ↦ (0, (omega arith), e)
  | inr m ↦ (let r = member_contains ys x m in let within = r.1 in (suc r.0, (omega arith), r.2))
]

pub member_permutation : {A : Type 0} → (xs ys : List A) → IsPermutation xs ys → (x : A) → Member xs x → Member ys x
member_permutation xs ys p x h = contains_member ys x (Contains-permutation xs ys x p (member_contains xs x h))

-- all items of a module, in any order, have come
pub permuted_come : (items taken : List ItemView) → IsModule items → IsPermutation items taken → Come taken items
permuted_come items taken numbered p = whole_come taken items numbered (member_permutation taken items (IsPermutation-sym items taken p)) (member_permutation items taken p)

module _ (puts takes : ℕ → List ItemView) (lane_puts lane_takes : ℕ → ℕ → List ItemView) (all : Delivers puts takes lane_puts lane_takes) (m : ℕ) (in_range : m < 16) where
  -- what the verifiers took of the module is what they put in its lane
  handed_on : (v : ℕ) → (lane_puts m v) ≡ of m (takes v)
  handed_on v = sym (all.carried.verifiers v m in_range ∙ append-nil (lane_puts m v))

  -- what the lane's taker took is dealt from what the verifiers took of the module
  pub arrives_dealt : IsShuffle (λ v. of m (takes v)) (lane_takes m 0)
  arrives_dealt =
      shuffle_as (λ v. (lane_puts m v)) (λ v. of m (takes v)) (lane_takes m 0) handed_on
      (one_taker (lane_puts m) (lane_takes m) 0 (all.carried.lanes m in_range) (all.carried.one_taker m))

  -- where one receiver alone puts items of the module, they all arrive, each as often
  pub arrives : (c : ℕ) → ((d : ℕ) → d ≢ c → of m (puts d) ≡ []) → IsPermutation (of m (puts c)) (lane_takes m 0)
  arrives c none =
      shuffled_alike (λ v. of m (takes v)) (of m (puts c)) (lane_takes m 0) (one_putter puts takes all.intake (λ item. item.«module» == m) c none) arrives_dealt

  -- where nobody puts any, nothing arrives
  pub nothing_arrives : ((c : ℕ) → of m (puts c) ≡ []) → (lane_takes m 0) ≡ []
  nothing_arrives none =
      none_of_parts (λ v. of m (takes v)) (lane_takes m 0) (no_putter puts takes all.intake (λ item. item.«module» == m) none) arrives_dealt
