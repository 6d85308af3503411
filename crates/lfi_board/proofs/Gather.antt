-- The seats of all receivers, one taken out and put back.
use Rattle.std.proofs.Common.{◌≡◌, ℕ, zero, suc, ◌+◌, ◌<◌, ◌≤◌, ◌≢◌, [], ◌∷◌, length, get_or, set, take, drop, if◌then◌else◌, refl, sym, ap, subst, ◌∙◌, arith, Option, Some, None, true, false, not, true≢false, eq-eqb, ne_eqb}
use Rattle.std.proofs.lemmas.Option.{none-some}
use Rattle.atomic_table.specs.Seated.{TableId}
use Rattle.lfi_board.specs.declared.seats.ReceiverSeat.{ReceiverSeat}
use mathlib.Core.Logic.{dite}
use native.Mathlib.Decide.{ℕ_discrete}
use Rattle.lfi_board.specs.declared.knowledge.Knowledge.{Knowledge}
use Rattle.lfi_board.specs.Knowledge.{knowledge_of, total, times, onlooker}
use Rattle.lfi_board.specs.inner.Rule.{View, receiving, claims_of, taken}
use Rattle.lfi_board.specs.inner.Plays.{AllFollow, Told, board_size}
use Rattle.lfi_board.specs.Rows.{Row, AllOn, AreSame, MayFollow, OnlyAt, claims_in, claims_at, present}
use Rattle.lfi_board.specs.inner.Gathered.{gathered, claims_by}

abbrev or_else : ReceiverSeat → Option ReceiverSeat → ReceiverSeat
or_else d None = d
or_else d (Some x) = x

some_is : (x y : ReceiverSeat) → Some x ≡ Some y → x ≡ y
some_is x y e = ap (or_else x) e

pub on_at : (z : TableId) (ss : Row) (i : ℕ) (d : Option ReceiverSeat) (s : ReceiverSeat) → i < length ss → get_or ss i d ≡ Some s → AllOn z ss → s.seat.table_id ≡ z
on_at z [] i d s lt e a = absurd (omega arith)
on_at z (None ∷ ss) zero d s lt e a = absurd (none-some s e)
on_at z (Some x ∷ ss) zero d s lt e a = ap (λ (y : ReceiverSeat). y.seat.table_id) (sym (some_is x s e)) ∙ a.0
on_at z (None ∷ ss) (suc i) d s lt e a = on_at z ss i d s (omega arith) e a
on_at z (Some x ∷ ss) (suc i) d s lt e a = on_at z ss i d s (omega arith) e a.1

pub on_without : (z : TableId) (ss : Row) (i : ℕ) → AllOn z ss → AllOn z (set ss i None)
on_without z [] i a = tt
on_without z (None ∷ ss) zero a = a
on_without z (Some x ∷ ss) zero a = a.1
on_without z (None ∷ ss) (suc i) a = on_without z ss i a
on_without z (Some x ∷ ss) (suc i) a = (a.0, on_without z ss i a.1)

module _ (s : ReceiverSeat) (v : View) where
  gathered_at : (ss : Row) (i : ℕ) (d : Option ReceiverSeat) → i < length ss → get_or ss i d ≡ Some s → gathered (drop i ss) v ≡ gathered (drop (suc i) (set ss i None)) (knowledge_of s.seat.me.0 ∷ v)
  gathered_at [] i d lt e = absurd (omega arith)
  gathered_at (None ∷ ss) zero d lt e = absurd (none-some s e)
  gathered_at (Some x ∷ ss) zero d lt e = ap (λ (y : ReceiverSeat). gathered ss (knowledge_of y.seat.me.0 ∷ v)) (some_is x s e)
  gathered_at (x ∷ ss) (suc i) d lt e = gathered_at ss i d (omega arith) e

  pub gathered_some : (ss : Row) (i : ℕ) (d : Option ReceiverSeat) → i < length ss → get_or ss i d ≡ Some s → gathered (drop i ss) v ≡ gathered (drop (i + 1) (set ss i None)) (knowledge_of s.seat.me.0 ∷ v)
  gathered_some ss i d lt e = let k : suc i ≡ i + 1 = omega arith in gathered_at ss i d lt e ∙ ap (λ j. gathered (drop j (set ss i None)) (knowledge_of s.seat.me.0 ∷ v)) k

gathered_gap : (v : View) (ss : Row) (i : ℕ) (d : Option ReceiverSeat) → i < length ss → get_or ss i d ≡ None → gathered (drop i ss) v ≡ gathered (drop (suc i) (set ss i None)) v
gathered_gap v [] i d lt e = absurd (omega arith)
gathered_gap v (None ∷ ss) zero d lt e = refl
gathered_gap v (Some x ∷ ss) zero d lt e = absurd (none-some x (sym e))
gathered_gap v (x ∷ ss) (suc i) d lt e = gathered_gap v ss i d (omega arith) e

pub gathered_none : (v : View) (ss : Row) (i : ℕ) (d : Option ReceiverSeat) → i < length ss → get_or ss i d ≡ None → gathered (drop i ss) v ≡ gathered (drop (i + 1) (set ss i None)) v
gathered_none v ss i d lt e = let k : suc i ≡ i + 1 = omega arith in gathered_gap v ss i d lt e ∙ ap (λ j. gathered (drop j (set ss i None)) v) k

pub all_same : (ss : Row) → AreSame ss ss
all_same [] = tt
all_same (None ∷ ss) = all_same ss
all_same (Some x ∷ ss) = ((refl, refl), all_same ss)

pub same_none : (ss ts : Row) (i : ℕ) (d : Option ReceiverSeat) → i < length ss → get_or ss i d ≡ None → AreSame (set ss i None) ts → AreSame ss ts
same_none [] ts i d lt e a = absurd (omega arith)
same_none (None ∷ ss) ts zero d lt e a = a
same_none (Some x ∷ ss) ts zero d lt e a = absurd (none-some x (sym e))
same_none (None ∷ ss) (None ∷ ts) (suc i) d lt e a = same_none ss ts i d (omega arith) e a
same_none (Some x ∷ ss) (Some y ∷ ts) (suc i) d lt e a = (a.0, same_none ss ts i d (omega arith) e a.1)
same_none (None ∷ ss) [] (suc i) d lt e a = absurd a
same_none (Some x ∷ ss) [] (suc i) d lt e a = absurd a
same_none (None ∷ ss) (Some y ∷ ts) (suc i) d lt e a = absurd a
same_none (Some x ∷ ss) (None ∷ ts) (suc i) d lt e a = absurd a

pub same_put : (s t : ReceiverSeat) → (t.seat.table_id ≡ s.seat.table_id) × (knowledge_of t.seat.me.0 ≡ knowledge_of s.seat.me.0) → (ss ts : Row) (i : ℕ) (d : Option ReceiverSeat) → i < length ss → get_or ss i d ≡ Some s → AreSame (set ss i None) ts → AreSame ss (set ts i (Some t))
same_put s t p [] ts i d lt e a = absurd (omega arith)
same_put s t p (None ∷ ss) ts zero d lt e a = absurd (none-some s e)
same_put s t p (Some x ∷ ss) (None ∷ ts) zero d lt e a = (subst (λ (y : ReceiverSeat). (t.seat.table_id ≡ y.seat.table_id) × (knowledge_of t.seat.me.0 ≡ knowledge_of y.seat.me.0)) (sym (some_is x s e)) p, a)
same_put s t p (Some x ∷ ss) (Some y ∷ ts) zero d lt e a = absurd a
same_put s t p (Some x ∷ ss) [] zero d lt e a = absurd a
same_put s t p (None ∷ ss) (None ∷ ts) (suc i) d lt e a = same_put s t p ss ts i d (omega arith) e a
same_put s t p (Some x ∷ ss) (Some y ∷ ts) (suc i) d lt e a = (a.0, same_put s t p ss ts i d (omega arith) e a.1)
same_put s t p (None ∷ ss) [] (suc i) d lt e a = absurd a
same_put s t p (Some x ∷ ss) [] (suc i) d lt e a = absurd a
same_put s t p (None ∷ ss) (Some y ∷ ts) (suc i) d lt e a = absurd a
same_put s t p (Some x ∷ ss) (None ∷ ts) (suc i) d lt e a = absurd a

pub same_length : (ss ts : Row) → AreSame ss ts → length ts ≡ length ss
same_length [] [] a = refl
same_length [] (y ∷ ts) a = absurd a
same_length (None ∷ ss) (None ∷ ts) a = ap suc (same_length ss ts a)
same_length (Some x ∷ ss) (Some y ∷ ts) a = ap suc (same_length ss ts a.1)
same_length (None ∷ ss) [] a = absurd a
same_length (Some x ∷ ss) [] a = absurd a
same_length (None ∷ ss) (Some y ∷ ts) a = absurd a
same_length (Some x ∷ ss) (None ∷ ts) a = absurd a

-- ---- what all seats together know

module _ (m : ℕ) where
  claims_here : (s : ReceiverSeat) → claims_of m (knowledge_of s.seat.me.0) ≡ times m (knowledge_of s.seat.me.0).claimed
  claims_here s = ap (λ b. if b then times m (knowledge_of s.seat.me.0).claimed else 0) s.receives

  pub gathered_claims : (ss : Row) (v : View) → total (claims_of m) (gathered ss v) ≡ claims_by m ss + total (claims_of m) v
  gathered_claims [] v = omega arith
  gathered_claims (None ∷ ss) v = gathered_claims ss v
  gathered_claims (Some s ∷ ss) v = let r = gathered_claims ss (knowledge_of s.seat.me.0 ∷ v) in let c = claims_here s in omega arith

  pub gathered_follow : (phase : ℕ) (ss : Row) (v : View) → AllFollow (gathered ss v) m phase → MayFollow m phase ss × AllFollow v m phase
  gathered_follow phase [] v a = (tt, a)
  gathered_follow phase (None ∷ ss) v a = gathered_follow phase ss v a
  gathered_follow phase (Some s ∷ ss) v a = let r = gathered_follow phase ss (knowledge_of s.seat.me.0 ∷ v) a in ((r.1.0, r.0), r.1.1)

  -- which seats claimed it doesn't hang on what is the same
  pub same_claims : (ss ts : Row) → AreSame ss ts → claims_by m ts ≡ claims_by m ss
  same_claims [] [] a = refl
  same_claims [] (y ∷ ts) a = absurd a
  same_claims (None ∷ ss) (None ∷ ts) a = same_claims ss ts a
  same_claims (Some x ∷ ss) (Some y ∷ ts) a = let r = same_claims ss ts a.1 in let c : times m (knowledge_of y.seat.me.0).claimed ≡ times m (knowledge_of x.seat.me.0).claimed = ap (λ (h : Knowledge). times m h.claimed) a.0.1 in omega arith
  same_claims (None ∷ ss) [] a = absurd a
  same_claims (Some x ∷ ss) [] a = absurd a
  same_claims (None ∷ ss) (Some y ∷ ts) a = absurd a
  same_claims (Some x ∷ ss) (None ∷ ts) a = absurd a

  pub same_at : (ss ts : Row) → AreSame ss ts → (i : ℕ) → claims_at m ts i ≡ claims_at m ss i
  same_at [] [] a i = refl
  same_at [] (y ∷ ts) a i = absurd a
  same_at (None ∷ ss) (None ∷ ts) a zero = refl
  same_at (None ∷ ss) (None ∷ ts) a (suc i) = same_at ss ts a i
  same_at (Some x ∷ ss) (Some y ∷ ts) a zero = ap (λ (h : Knowledge). times m h.claimed) a.0.1
  same_at (Some x ∷ ss) (Some y ∷ ts) a (suc i) = same_at ss ts a.1 i
  same_at (None ∷ ss) [] a i = absurd a
  same_at (Some x ∷ ss) [] a i = absurd a
  same_at (None ∷ ss) (Some y ∷ ts) a i = absurd a
  same_at (Some x ∷ ss) (None ∷ ts) a i = absurd a

  -- what all seats did is no less than what one did
  claims_least : (ss : Row) (i : ℕ) → claims_at m ss i ≤ claims_by m ss
  claims_least [] i = omega arith
  claims_least (None ∷ ss) zero = omega arith
  claims_least (Some x ∷ ss) zero = omega arith
  claims_least (None ∷ ss) (suc i) = claims_least ss i
  claims_least (Some x ∷ ss) (suc i) = let r = claims_least ss i in omega arith

  pub none_at : (ss : Row) → claims_by m ss ≡ 0 → (j : ℕ) → claims_at m ss j ≡ 0
  none_at ss z j = let r = claims_least ss j in omega arith

  others_not : (ss : Row) (i j : ℕ) → claims_by m ss ≡ 1 → claims_at m ss i ≡ 1 → j ≢ i → claims_at m ss j ≡ 0
  others_not [] i j one here ne = refl
  others_not (None ∷ ss) zero j one here ne = absurd (omega (arith, here))
  others_not (None ∷ ss) (suc i) zero one here ne = refl
  others_not (None ∷ ss) (suc i) (suc j) one here ne = others_not ss i j one here (λ e. ne (ap suc e))
  others_not (Some x ∷ ss) zero zero one here ne = absurd (ne refl)
  others_not (Some x ∷ ss) zero (suc j) one here ne = none_at ss (omega (arith, one, here)) j
  others_not (Some x ∷ ss) (suc i) zero one here ne = let r = claims_least ss i in omega (arith, one, here)
  others_not (Some x ∷ ss) (suc i) (suc j) one here ne = let r = claims_least ss i in others_not ss i j (omega (arith, one, here)) here (λ e. ne (ap suc e))

  pub only_at : (ss : Row) (i : ℕ) → claims_by m ss ≡ 1 → claims_at m ss i ≡ 1 → OnlyAt m ss i
  only_at ss i one here = (here, λ j ne. others_not ss i j one here ne)

  claims_take : (ss : Row) (i : ℕ) (d : Option ReceiverSeat) → i < length ss → claims_by m (take (suc i) ss) ≡ claims_by m (take i ss) + claims_by m (get_or ss i d ∷ [])
  claims_take [] i d lt = absurd (omega arith)
  claims_take (None ∷ ss) zero d lt = refl
  claims_take (Some x ∷ ss) zero d lt = omega arith
  claims_take (None ∷ ss) (suc i) d lt = claims_take ss i d (omega arith)
  claims_take (Some x ∷ ss) (suc i) d lt = let r = claims_take ss i d (omega arith) in omega arith

  pub claims_next : (ss : Row) (i : ℕ) (d : Option ReceiverSeat) → i < length ss → claims_by m (take i ss) ≡ 0 → claims_by m (get_or ss i d ∷ []) ≡ 0 → claims_by m (take (i + 1) ss) ≡ 0
  claims_next ss i d lt a b = let e : i + 1 ≡ suc i = omega arith in ap (λ k. claims_by m (take k ss)) e ∙ (let r = claims_take ss i d lt in omega arith)

pub gathered_receivers : (ss : Row) (v : View) → total receiving (gathered ss v) ≡ present ss + total receiving v
gathered_receivers [] v = omega arith
gathered_receivers (None ∷ ss) v = gathered_receivers ss v
gathered_receivers (Some s ∷ ss) v = let r = gathered_receivers ss (knowledge_of s.seat.me.0 ∷ v) in let c : receiving (knowledge_of s.seat.me.0) ≡ 1 = ap (λ b. if b then 1 else 0) s.receives in omega arith

pub gathered_size : (ss : Row) (h : Knowledge) (v : View) → (board_size (gathered ss (h ∷ v)) ≡ board_size (h ∷ v)) × (0 < length (gathered ss (h ∷ v)))
gathered_size [] h v = (refl, omega arith)
gathered_size (None ∷ ss) h v = gathered_size ss h v
gathered_size (Some s ∷ ss) h v = gathered_size ss (knowledge_of s.seat.me.0) (h ∷ v)

module _ (m : ℕ) where
  claims_most : (ss : Row) (i : ℕ) (d : Option ReceiverSeat) (s : ReceiverSeat) → i < length ss → get_or ss i d ≡ Some s → times m (knowledge_of s.seat.me.0).claimed ≤ claims_by m ss
  claims_most [] i d s lt e = absurd (omega arith)
  claims_most (None ∷ ss) zero d s lt e = absurd (none-some s e)
  claims_most (Some x ∷ ss) zero d s lt e = let c : times m (knowledge_of x.seat.me.0).claimed ≡ times m (knowledge_of s.seat.me.0).claimed = ap (λ (z : ReceiverSeat). times m (knowledge_of z.seat.me.0).claimed) (some_is x s e) in omega arith
  claims_most (None ∷ ss) (suc i) d s lt e = claims_most ss i d s (omega arith) e
  claims_most (Some x ∷ ss) (suc i) d s lt e = let r = claims_most ss i d s (omega arith) e in omega arith

  there : (ss : Row) (i : ℕ) (d x : Option ReceiverSeat) → i < length ss → get_or ss i d ≡ x → get_or ss i None ≡ x
  there [] i d x lt e = absurd (omega arith)
  there (y ∷ ss) zero d x lt e = e
  there (y ∷ ss) (suc i) d x lt e = there ss i d x (omega arith) e

  -- the seat at i claimed it, and all together did once
  pub is_mine : m < 16 → (ss : Row) (i : ℕ) (d : Option ReceiverSeat) (s : ReceiverSeat) → i < length ss → get_or ss i d ≡ Some s → get_or s.mine m false ≡ true → claims_by m ss ≡ 1 → claims_at m ss i ≡ 1
  is_mine lt ss i d s inside e mine one =
      let k : ℕ = times m (knowledge_of s.seat.me.0).claimed in let most = claims_most ss i d s inside e in
      ap (claims_in m) (there ss i d (Some s) inside e) ∙ dite (ℕ_discrete k 0) (λ z. absurd (true≢false (sym mine ∙ (s.knows_mine m lt ∙ ap not (eq-eqb k 0 z))))) (λ ne. let one_here : k ≡ 1 = omega arith in one_here)

  -- a seat that didn't claim it
  pub not_mine : m < 16 → (s : ReceiverSeat) → get_or s.mine m false ≡ false → times m (knowledge_of s.seat.me.0).claimed ≡ 0
  not_mine lt s mine = let k : ℕ = times m (knowledge_of s.seat.me.0).claimed in dite (ℕ_discrete k 0) (λ z. z) (λ ne. absurd (true≢false (sym (ap not (ne_eqb k 0 ne)) ∙ (sym (s.knows_mine m lt) ∙ mine))))

  pub alone : (s : ReceiverSeat) → times m (knowledge_of s.seat.me.0).claimed ≡ 0 → claims_by m (Some s ∷ []) ≡ 0
  alone s z = omega arith

  -- what was told to who knows what all receivers know
  pub tells_all : (phase n : ℕ) (ss : Row) (v : View) → v ≡ onlooker n ∷ [] → present ss ≡ n → Told (gathered ss v) m phase → (phase < 4) × MayFollow m phase ss × (claims_by m ss ≡ taken phase)
  tells_all phase n ss v is all told =
      let t : Told (gathered ss (onlooker n ∷ [])) m phase = subst (λ (u : View). Told (gathered ss u) m phase) is told in
      let size = gathered_size ss (onlooker n) [] in let some_receivers = gathered_receivers ss (onlooker n ∷ []) in let some_claims = gathered_claims m ss (onlooker n ∷ []) in
      let rest = t.2 size.1 (omega (arith, size.0)) in (t.0, (gathered_follow m phase ss (onlooker n ∷ []) t.1).0, omega arith)

  pub held_once : (phase : ℕ) (ss : Row) → phase ≢ 0 → claims_by m ss ≡ taken phase → claims_by m ss ≡ 1
  held_once phase ss ne is = is ∙ ap (λ b. if b then 0 else 1) (ne_eqb phase 0 ne)

pub same_on : (z : TableId) (ss ts : Row) → AreSame ss ts → AllOn z ss → AllOn z ts
same_on z [] [] a o = tt
same_on z [] (y ∷ ts) a o = absurd a
same_on z (None ∷ ss) (None ∷ ts) a o = same_on z ss ts a o
same_on z (Some x ∷ ss) (Some y ∷ ts) a o = (a.0.0 ∙ o.0, same_on z ss ts a.1 o.1)
same_on z (None ∷ ss) [] a o = absurd a
same_on z (Some x ∷ ss) [] a o = absurd a
same_on z (None ∷ ss) (Some y ∷ ts) a o = absurd a
same_on z (Some x ∷ ss) (None ∷ ts) a o = absurd a

pub same_present : (ss ts : Row) → AreSame ss ts → present ts ≡ present ss
same_present [] [] a = refl
same_present [] (y ∷ ts) a = absurd a
same_present (None ∷ ss) (None ∷ ts) a = same_present ss ts a
same_present (Some x ∷ ss) (Some y ∷ ts) a = ap (λ k. 1 + k) (same_present ss ts a.1)
same_present (None ∷ ss) [] a = absurd a
same_present (Some x ∷ ss) [] a = absurd a
same_present (None ∷ ss) (Some y ∷ ts) a = absurd a
same_present (Some x ∷ ss) (None ∷ ts) a = absurd a
