-- New seats, one after another.
use Rattle.std.proofs.Common.{◌≡◌, ℕ, zero, suc, ◌+◌, ◌-◌, ◌<◌, List, [], ◌∷◌, ◌++◌, length, replicate, get_or, set, Some, None, refl, ap, subst, ◌∙◌, arith}
use Rattle.atomic_table.specs.Seated.{TableId}
use Rattle.lfi_board.specs.declared.knowledge.Knowledge.{Knowledge}
use Rattle.lfi_board.specs.declared.seats.SequencerSeat.{SequencerSeat}
use Rattle.lfi_board.specs.declared.seats.ReceiverSeat.{ReceiverSeat}
use Rattle.lfi_board.specs.Knowledge.{knowledge_of, onlooker}
use Rattle.lfi_board.specs.Rows.{Row, IsNewReceiver, NewReceivers, NewSequencers, AllOn, present}

pub one_less : (count i : ℕ) (h : Knowledge) → i < count → replicate (count - i) h ≡ h ∷ replicate (count - (i + 1)) h
one_less count i h lt = let e : count - i ≡ suc (count - (i + 1)) = omega arith in ap (λ k. replicate k h) e

pub NewSequencers-push : (z : TableId) (n i : ℕ) (xs : List SequencerSeat) (x : SequencerSeat) → NewSequencers z n i xs → (x.seat.table_id ≡ z) × (x.of ≡ i + length xs) × (knowledge_of x.seat.me.0 ≡ onlooker n)
    → NewSequencers z n i (xs ++ x ∷ [])
NewSequencers-push z n i [] x a p = ((p.0, (let e : i + 0 ≡ i = omega arith in p.1 ∙ e), p.2), tt)
NewSequencers-push z n i (y ∷ ys) x a p = (a.0, NewSequencers-push z n (suc i) ys x a.1 (p.0, (let e : i + suc (length ys) ≡ suc i + length ys = omega arith in p.1 ∙ e), p.2))

pub zeros : (k m : ℕ) → let o : ℕ = 0 in get_or (replicate k o) m o ≡ o
zeros zero m = refl
zeros (suc k) zero = refl
zeros (suc k) (suc m) = zeros k m

-- one more new receiver's seat, in the next place
put_next : (z : TableId) (n k : ℕ) (ss : Row) (s : ReceiverSeat) → k < length ss → NewReceivers z n k ss → IsNewReceiver z n s → NewReceivers z n (suc k) (set ss k (Some s))
put_next z n zero [] s lt a new = absurd (omega arith)
put_next z n zero (None ∷ ss) s lt a new = (new, a)
put_next z n zero (Some x ∷ ss) s lt a new = absurd a
put_next z n (suc k) [] s lt a new = absurd (omega arith)
put_next z n (suc k) (None ∷ ss) s lt a new = absurd a
put_next z n (suc k) (Some x ∷ ss) s lt a new = (a.0, put_next z n k ss s (omega arith) a.1 new)

pub NewReceivers-put : (z : TableId) (n k : ℕ) (ss : Row) (s : ReceiverSeat) → k < length ss → NewReceivers z n k ss → IsNewReceiver z n s → NewReceivers z n (k + 1) (set ss k (Some s))
NewReceivers-put z n k ss s lt a new = let e : suc k ≡ k + 1 = omega arith in subst (λ j. NewReceivers z n j (set ss k (Some s))) e (put_next z n k ss s lt a new)

pub new_on : (z : TableId) (n k : ℕ) (ss : Row) → NewReceivers z n k ss → AllOn z ss
new_on z n zero [] a = tt
new_on z n zero (None ∷ ss) a = new_on z n zero ss a
new_on z n zero (Some x ∷ ss) a = absurd a
new_on z n (suc k) [] a = absurd a
new_on z n (suc k) (None ∷ ss) a = absurd a
new_on z n (suc k) (Some x ∷ ss) a = (a.0.0, new_on z n k ss a.1)

pub new_present : (z : TableId) (n k : ℕ) (ss : Row) → NewReceivers z n k ss → present ss ≡ k
new_present z n zero [] a = refl
new_present z n zero (None ∷ ss) a = new_present z n zero ss a
new_present z n zero (Some x ∷ ss) a = absurd a
new_present z n (suc k) [] a = absurd a
new_present z n (suc k) (None ∷ ss) a = absurd a
new_present z n (suc k) (Some x ∷ ss) a = let r = new_present z n k ss a.1 in omega arith
