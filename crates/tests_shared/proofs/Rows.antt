-- Passes that are placed in a row, one after the other.
use Rattle.std.proofs.Common.{◌≡◌, ◌≢◌, ℕ, zero, suc, ◌+◌, ◌<◌, ◌≤◌, List, [], ◌∷◌, ◌++◌, length, get_or, set, ap, refl, sym, subst, ◌∙◌, arith}
use Rattle.std.specs.Prelude.{Option, Some, None, MatchOption}
use Rattle.lfi_queues.specs.Passes.{QueueId, PassView, IsPass, AreAllPasses, new_pass, new_passes}
use Rattle.lfi_queues.proofs.New.{new_length}

-- what holds at a place after one place was written
set_at : {A : Type 0} (P : A → Type 0) (xs : List A) (n k : ℕ) (x d : A) → n < length xs → (k ≡ n → P x) → (k ≢ n → P (get_or xs k d)) → P (get_or (set xs n x) k d)
set_at P [] n k x d low here there = absurd (omega arith)
set_at P (y ∷ ys) zero zero x d low here there = here refl
set_at P (y ∷ ys) zero (suc k) x d low here there = there (λ e. absurd (omega arith))
set_at P (y ∷ ys) (suc n) zero x d low here there = there (λ e. absurd (omega arith))
set_at P (y ∷ ys) (suc n) (suc k) x d low here there = set_at P ys n k x d (omega arith) (λ e. here (ap suc e)) (λ ne. there (λ e. ne (omega arith)))

module _ {X : Type 0} where
  one_more : (q : QueueId) (n k : ℕ) (place : Option (PassView X)) → k ≢ n → MatchOption place (n ≤ k) (IsPass q n k) → MatchOption place (n + 1 ≤ k) (IsPass q (n + 1) k)
  one_more q n k None ne h = omega arith
  one_more q n k (Some pass) ne h = (let low = h.0 in (omega arith, h.1, h.2))

  pub placed : (q : QueueId) (row : List (Option (PassView X))) (n : ℕ) (pass : PassView X) → n < length row → pass.queue ≡ q → pass.number ≡ n → AreAllPasses q n row → AreAllPasses q (n + 1) (set row n (Some pass))
  placed q row n pass low queue number all k =
      set_at (λ place. MatchOption place (n + 1 ≤ k) (IsPass q (n + 1) k)) row n k (Some pass) None low (λ e. (omega arith, queue, omega arith)) (λ ne. one_more q n k (get_or row k None) ne (all k))

  -- a row of one pass
  pub one_put : (q : QueueId) (pass : PassView X) → IsPass q 1 0 pass → AreAllPasses q 1 (Some pass ∷ [])
  one_put q pass is zero = is
  one_put q pass is (suc k) = omega arith

  -- a row of eight places with one pass
  pub one_take : (q : QueueId) (pass : PassView X) → IsPass q 1 0 pass → AreAllPasses q 1 (Some pass ∷ None ∷ None ∷ None ∷ None ∷ None ∷ None ∷ None ∷ [])
  one_take q pass is zero = is
  one_take q pass is (suc zero) = omega arith
  one_take q pass is (suc (suc zero)) = omega arith
  one_take q pass is (suc (suc (suc zero))) = omega arith
  one_take q pass is (suc (suc (suc (suc zero)))) = omega arith
  one_take q pass is (suc (suc (suc (suc (suc zero))))) = omega arith
  one_take q pass is (suc (suc (suc (suc (suc (suc zero)))))) = omega arith
  one_take q pass is (suc (suc (suc (suc (suc (suc (suc zero))))))) = omega arith
  one_take q pass is (suc (suc (suc (suc (suc (suc (suc (suc k)))))))) = omega arith

  -- two lists with one more at their ends are alike where these are
  snoc_same : (xs ys : List (PassView X)) (x y : PassView X) → length xs ≡ length ys → xs ++ x ∷ [] ≡ ys ++ y ∷ [] → (xs ≡ ys) × (x ≡ y)
  snoc_same [] [] x y same e = (refl, cc)
  snoc_same [] (w ∷ ys) x y same e = absurd (omega (arith, same))
  snoc_same (v ∷ xs) [] x y same e = absurd (omega (arith, same))
  snoc_same (v ∷ xs) (w ∷ ys) x y same e = (let h = snoc_same xs ys x y (omega (arith, same)) cc in (cc, h.1))

  -- a new queue has as many passes as were asked for
  pub count_of_new : (q : QueueId) (n : ℕ) (passes : List (PassView X)) → passes ≡ new_passes q n → length passes ≡ n
  count_of_new q n passes e = ap length e ∙ new_length X q n

  -- the last of the first new passes, and those before it
  pub last_new : (q : QueueId) (n : ℕ) (before : List (PassView X)) (pass : PassView X) → before ++ pass ∷ [] ≡ new_passes q n → length before + 1 ≡ n → (before ≡ new_passes q (length before)) × (pass ≡ new_pass q (length before))
  last_new q zero before pass e counted = absurd (omega (arith, counted))
  last_new q (suc n) before pass e counted =
      let same : length before ≡ n = omega (arith, counted) in
      let h = snoc_same before (new_passes q n) pass (new_pass q n) (same ∙ sym (new_length X q n)) e in
      subst (λ k. (before ≡ new_passes q k) × (pass ≡ new_pass q k)) (sym same) h
