-- The end of the input.
use Rattle.std.proofs.Common.{◌≡◌, ℕ, ◌<◌, ◌==◌, ◌||◌, List, [], ◌∷◌, length, Option, Some, None, refl, sym, ◌∙◌, ap, subst, inl, inr, arith, Bool, true, false, not, length-take, lit<}
use Rattle.std.specs.List.{list_any}
use Rattle.std.specs.Prelude.{Result, Ok, Err, is_some, is_err, IfSome, IfNone}
use Rattle.std.proofs.lemmas.Bool.Decides.{eqb_tells}
use Rattle.lfi_frame.specs.declared.fault.FrameFault.{FrameFault}
use Rattle.lfi_frame.specs.declared.feed.Feed.{Feed}
use Rattle.lfi_frame.specs.declared.feed.Position.{Position}
use Rattle.lfi_frame.specs.declared.feed.Position.TheVariants as position
use Rattle.lfi_frame.specs.Streams.{Message, Rest, short, faulty, unfinished, whole, rest_of}
use Rattle.lfi_frame.specs.Feeds.{FeedStands, IsAt, IsAtEnd, feed_fault, fault_at}
use Rattle.lfi_frame.proofs.Cuts.{rest_short}
use Rattle.lfi_frame.proofs.Feeding.{page_rest}
use Rattle.lfi_model.specs.declared.connection.EndCause.{EndCause}
use Rattle.lfi_model.specs.declared.connection.Progress.{Progress}
use Rattle.lfi_model.specs.declared.connection.Progress.TheVariants.{Going}
use Rattle.lfi_model.specs.Modules.{Member}
use Rattle.lfi_model.specs.Items.{is_going, modules, connection_fault, fault_by_cause, fault_of, is_inside}
use Rattle.lfi_connection.specs.declared.progress_table.OpenModule.{OpenModule}
use Rattle.lfi_connection.specs.Connections.{made_of, AreAt}

pub numbered : (k : ℕ) → k < 16 → Member modules k
numbered k h =
    elim (eqb_tells 0 k) [
      | inl e ↦ inl e.1
      | inr n0 ↦
          elim (eqb_tells 1 k) [
            | inl e ↦ inr (inl e.1)
            | inr n1 ↦
                elim (eqb_tells 2 k) [
                  | inl e ↦ inr (inr (inl e.1))
                  | inr n2 ↦
                      elim (eqb_tells 3 k) [
                        | inl e ↦ inr (inr (inr (inl e.1)))
                        | inr n3 ↦
                            elim (eqb_tells 4 k) [
                              | inl e ↦ inr (inr (inr (inr (inl e.1))))
                              | inr n4 ↦
                                  elim (eqb_tells 5 k) [
                                    | inl e ↦ inr (inr (inr (inr (inr (inl e.1)))))
                                    | inr n5 ↦
                                        elim (eqb_tells 6 k) [
                                          | inl e ↦ inr (inr (inr (inr (inr (inr (inl e.1))))))
                                          | inr n6 ↦
                                              elim (eqb_tells 7 k) [
                                                | inl e ↦ inr (inr (inr (inr (inr (inr (inr (inl e.1)))))))
                                                | inr n7 ↦
                                                    elim (eqb_tells 8 k) [
                                                      | inl e ↦ inr (inr (inr (inr (inr (inr (inr (inr (inl e.1))))))))
                                                      | inr n8 ↦
                                                          elim (eqb_tells 9 k) [
                                                            | inl e ↦ inr (inr (inr (inr (inr (inr (inr (inr (inr (inl e.1)))))))))
                                                            | inr n9 ↦
                                                                elim (eqb_tells 10 k) [
                                                                  | inl e ↦ inr (inr (inr (inr (inr (inr (inr (inr (inr (inr (inl e.1))))))))))
                                                                  | inr n10 ↦
                                                                      elim (eqb_tells 11 k) [
                                                                        | inl e ↦ inr (inr (inr (inr (inr (inr (inr (inr (inr (inr (inr (inl e.1)))))))))))
                                                                        | inr n11 ↦
                                                                            elim (eqb_tells 12 k) [
                                                                              | inl e ↦ inr (inr (inr (inr (inr (inr (inr (inr (inr (inr (inr (inr (inl e.1))))))))))))
                                                                              | inr n12 ↦
                                                                                  elim (eqb_tells 13 k) [
                                                                                    | inl e ↦ inr (inr (inr (inr (inr (inr (inr (inr (inr (inr (inr (inr (inr (inl e.1)))))))))))))
                                                                                    | inr n13 ↦
                                                                                        elim (eqb_tells 14 k) [
                                                                                          | inl e ↦ inr (inr (inr (inr (inr (inr (inr (inr (inr (inr (inr (inr (inr (inr (inl e.1))))))))))))))
                                                                                          | inr n14 ↦
                                                                                              let a0 = n0.1 in let a1 = n1.1 in let a2 = n2.1 in let a3 = n3.1 in let a4 = n4.1 in let a5 = n5.1 in let a6 = n6.1 in let a7 = n7.1 in
                                                                                              let a8 = n8.1 in let a9 = n9.1 in let a10 = n10.1 in let a11 = n11.1 in let a12 = n12.1 in let a13 = n13.1 in let a14 = n14.1 in
                                                                                              inr (inr (inr (inr (inr (inr (inr (inr (inr (inr (inr (inr (inr (inr (inr (inl (omega arith))))))))))))))))
                                                                                        ]
                                                                                  ]
                                                                            ]
                                                                      ]
                                                                ]
                                                          ]
                                                    ]
                                              ]
                                        ]
                                  ]
                            ]
                      ]
                ]
          ]
    ]

-- a text without a fault so far
pub no_fault : (feed : Feed) (messages : List Message) (rest : List ℕ) → FeedStands feed messages rest → feed_fault feed ≡ None → (fault : FrameFault) → rest_of rest ≡ faulty fault → ⊥
no_fault feed messages rest stands none fault e = by feed.position stands.position none
  where
    by : (p : Position) → IsAt feed.held p rest → fault_at p ≡ None → ⊥
    by (position.Header filled) at n =
        let less : length rest < 12 = (let l = ap length at.1 in let k = length-take filled feed.held in let f = at.0 in omega arith) in
        absurd (let s = rest_short rest less in cc)
    by (position.Payload left) at n = absurd (let u = page_rest rest left at in cc)
    by (position.Faulty f) at n = absurd (cc)

-- so its fault, where the input ends, is by what is left open
fault_without : (rest : Rest) (cause : EndCause) (inside : Bool) → ((fault : FrameFault) → rest ≡ faulty fault → ⊥) → fault_of rest cause inside ≡ fault_by_cause cause inside
fault_without short cause inside h = refl
fault_without (faulty fault) cause inside h = absurd (h fault refl)
fault_without (unfinished m size index len) cause inside h = refl
fault_without whole cause inside h = refl

abbrev Below : List ℕ → Type 0
Below [] = Unit {0}
Below (x ∷ xs) = (x < 16) × Below xs

none_pass : (p : ℕ → Bool) (xs : List ℕ) → Below xs → ((x : ℕ) → x < 16 → p x ≡ false) → list_any p xs ≡ false
none_pass p [] below h = refl
none_pass p (x ∷ xs) below h = rw (h x below.0) (none_pass p xs below.1 h)

all_below : Below modules
all_below = (lit< tt, (lit< tt, (lit< tt, (lit< tt, (lit< tt, (lit< tt, (lit< tt, (lit< tt, (lit< tt, (lit< tt, (lit< tt, (lit< tt, (lit< tt, (lit< tt, (lit< tt, (lit< tt, tt))))))))))))))))

or_true : (b : Bool) → (b || true) ≡ true
or_true true = refl
or_true false = refl

some_passes : (p : ℕ → Bool) (xs : List ℕ) (k : ℕ) → Member xs k → p k ≡ true → list_any p xs ≡ true
some_passes p [] k here t = absurd here
some_passes p (x ∷ xs) k here t = elim here [ inl e ↦ rw (ap p e ∙ t) refl | inr m ↦ rw (some_passes p xs k m t) (or_true (p x)) ]

not_empty : (x : ℕ) (xs : List ℕ) → (length (x ∷ xs) == 0) ≡ false
not_empty x xs = elim (eqb_tells (length (x ∷ xs)) 0) [ inl e ↦ let none = e.1 in absurd (omega arith) | inr n ↦ n.0 ]

-- the end of the input tells whether a message is left open
end_tells : (rest : List ℕ) (r : Result Unit FrameFault) → IsAtEnd None rest r → is_err r ≡ not (length rest == 0)
end_tells rest (Ok u) h = ap (λ l. not (length l == 0)) (sym h)
end_tells [] (Err fault) h = absurd (h.0 refl)
end_tells (x ∷ rest) (Err fault) h = ap not (sym (not_empty x rest))

-- and the modules whether one of them is
going_tells : (o : Option OpenModule) (P : ℕ → Progress) → IfSome o (λ found. found.number < 16) → IfSome o (λ found. P found.number ≡ Going found.extent found.pages) → IfNone o ((m : ℕ) → m < 16 → is_going (P m) ≡ false)
    → is_some o ≡ list_any (λ m. is_going (P m)) modules
going_tells (Some found) P in_range going none = sym (some_passes (λ m. is_going (P m)) modules found.number (numbered found.number in_range) (ap is_going going))
going_tells None P in_range going none = sym (none_pass (λ m. is_going (P m)) modules all_below none)

-- What the connection's fault is where its input is over.
pub ends : (P : ℕ → Progress) (c : ℕ → Bool) (feed : Feed) (ms : List Message) (rest : List ℕ) (cause : EndCause) (r : Result Unit FrameFault) (o : Option OpenModule) → AreAt P (made_of c ms (rest_of rest)) → FeedStands feed ms rest → feed_fault feed ≡ None → IsAtEnd (feed_fault feed) rest r
    → IfSome o (λ found. found.number < 16) → IfSome o (λ found. P found.number ≡ Going found.extent found.pages) → IfNone o ((m : ℕ) → m < 16 → is_going (P m) ≡ false)
    → (b : Bool) → (is_err r || is_some o) ≡ b → fault_by_cause cause b ≡ connection_fault ms rest cause c
ends P c feed ms rest cause r o at stands faultless told in_range going none b is =
    let share : (λ m. is_going (P m)) ≡ (λ m. is_going (made_of c ms (rest_of rest) m).progress) = (λ i m. is_going (at m i)) in
    let message : is_err r ≡ not (length rest == 0) = end_tells rest r (subst (λ f. IsAtEnd f rest r) faultless told) in
    let left : is_some o ≡ list_any (λ m. is_going (made_of c ms (rest_of rest) m).progress) modules = going_tells o P in_range going none ∙ ap (λ p. list_any p modules) share in
    let inside : is_inside ms rest cause c ≡ b = sym (λ i. message i || left i) ∙ is in
    sym (fault_without (rest_of rest) cause (is_inside ms rest cause c) (no_fault feed ms rest stands faultless) ∙ ap (λ z. fault_by_cause cause z) inside)
