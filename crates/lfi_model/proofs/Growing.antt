-- One more whole message.
use Rattle.std.proofs.Common.{◌≡◌, ◌≢◌, ℕ, ◌+◌, List, [], ◌∷◌, ◌++◌, refl, sym, ◌∙◌, ap, subst, inl, inr, arith, Bool, true, false, cond, if◌then◌else◌, sum_by}
use Rattle.std.specs.List.{filter, fold}
use Rattle.std.proofs.lemmas.List.{append-nil}
use Rattle.std.proofs.lemmas.List.Sums.{sum_by-cons}
use Rattle.std.proofs.lemmas.Bool.Decides.{eqb_tells}
use Rattle.lfi_model.specs.Modules.{Member}
use Rattle.lfi_frame.specs.Streams.{Message}
use Rattle.lfi_frame.specs.Streams.{short}
use Rattle.lfi_model.specs.Items.{Share, nothing_yet, after_message, is_of, share_of}

module _ (claimed : Bool) (m : ℕ) where
  abbrev step : Share → Message → Share
  step s message = after_message claimed m s s.progress message

  fold_snoc : (s : Share) (messages : List Message) (message : Message) → fold step s (messages ++ message ∷ []) ≡ step (fold step s messages) message
  fold_snoc s [] message = refl
  fold_snoc s (first ∷ messages) message = fold_snoc (step s first) messages message

  filter_snoc : (messages : List Message) (message : Message) → filter (is_of m) (messages ++ message ∷ []) ≡ filter (is_of m) messages ++ (if is_of m message then message ∷ [] else [])
  filter_snoc [] message = refl
  filter_snoc (first ∷ messages) message = kept_by (is_of m first) first (filter (is_of m) (messages ++ message ∷ [])) (filter (is_of m) messages) (if is_of m message then message ∷ [] else []) (filter_snoc messages message)
    where
      kept_by : (b : Bool) (x : Message) (all some last : List Message) → all ≡ some ++ last → cond b (x ∷ all) all ≡ cond b (x ∷ some) some ++ last
      kept_by true x all some last e = ap (λ l. x ∷ l) e
      kept_by false x all some last e = e

  taken_by : (b : Bool) (s : Share) (messages : List Message) (message : Message) → fold step s (messages ++ (if b then message ∷ [] else [])) ≡ (if b then step (fold step s messages) message else fold step s messages)
  taken_by true s messages message = fold_snoc s messages message
  taken_by false s messages message = ap (λ l. fold step s l) (append-nil messages)

  -- it is the last that a module's share sees, where it is of this module
  pub share_snoc : (messages : List Message) (message : Message) → share_of claimed m (messages ++ message ∷ []) short ≡ (if is_of m message then step (share_of claimed m messages short) message else share_of claimed m messages short)
  share_snoc messages message = ap (λ l. fold step nothing_yet l) (filter_snoc messages message) ∙ taken_by (is_of m message) nothing_yet (filter (is_of m) messages) message

same_sum : (f g : ℕ → ℕ) (xs : List ℕ) (k : ℕ) → ((m : ℕ) → m ≢ k → g m ≡ f m) → (Member xs k → ⊥) → sum_by g xs ≡ sum_by f xs
same_sum f g [] k others none = refl
same_sum f g (x ∷ xs) k others none =
    sum_by-cons g x xs ∙ ap (λ n. n + sum_by g xs) (others x (λ e. none (inl e))) ∙ ap (λ n. f x + n) (same_sum f g xs k others (λ h. none (inr h))) ∙ sym (sum_by-cons f x xs)

-- no number stands twice in the list
abbrev pub Apart : List ℕ → Type 0
Apart [] = Unit {0}
Apart (x ∷ xs) = (Member xs x → ⊥) × Apart xs

-- where one number of a list gets one more, so does the sum
pub sum_one_more : (f g : ℕ → ℕ) (xs : List ℕ) (k : ℕ) → Apart xs → Member xs k → g k ≡ f k + 1 → ((m : ℕ) → m ≢ k → g m ≡ f m) → sum_by g xs ≡ sum_by f xs + 1
sum_one_more f g [] k apart here more others = absurd here
sum_one_more f g (x ∷ xs) k apart here more others = elim (eqb_tells x k) [
  | inl e ↦
      let is = e.1 in
      let rest : sum_by g xs ≡ sum_by f xs = same_sum f g xs k others (λ h. apart.0 (subst (λ z. Member xs z) (sym is) h)) in
      let head : g x ≡ f x + 1 = subst (λ z. g z ≡ f z + 1) (sym is) more in
      let a = sum_by-cons g x xs in let b = sum_by-cons f x xs in omega arith
  | inr n ↦
      let rest : sum_by g xs ≡ sum_by f xs + 1 = sum_one_more f g xs k apart.1 (elim here [ inl e ↦ absurd (n.1 e) | inr m ↦ m ]) more others in
      let head : g x ≡ f x = others x n.1 in
      let a = sum_by-cons g x xs in let b = sum_by-cons f x xs in omega arith
]
