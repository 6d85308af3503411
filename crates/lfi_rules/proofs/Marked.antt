-- Places that are marked, one after another.
use Rattle.std.proofs.Common.{◌≡◌, ◌≢◌, true, false, ℕ, ◌+◌, ◌<◌, ◌≤◌, List, length, Option, Some, None, subst, sym, ap, ◌∙◌, arith, inl, inr, set, take}
use Rattle.std.specs.Prelude.{slice_index, is_some, IfSome, IfNone}
use Rattle.std.proofs.lemmas.Bool.{cases_lt}
use Rattle.std.proofs.lemmas.List.{get_or-set_same, get_or-set_other, get_or-take, length-take-le}
use Rattle.lfi_module.specs.declared.profile.Profile.{Profile}
use Rattle.lfi_rules.specs.declared.fault.Fault.{Fault}
use Rattle.lfi_rules.specs.Faults.{IsFirstInside}
use Rattle.lfi_rules.specs.inner.Passing.{IsFine, AreFine, AreMarked, AreMarkedFine, AreWithin, IsFoundIn}
use Rattle.lfi_rules.proofs.Fine.{joined_fine}

-- none yet
pub none_marked : (profile : Profile) (ws : List ℕ) (first n start : ℕ) (places : List ℕ) → AreMarked profile ws first n start start places 0
none_marked profile ws first n start places = record {
  fine = λ i low high. absurd (omega arith);
  low = λ p within. absurd (omega arith);
  high = λ p within. absurd (omega arith);
  rising = λ p q less within. absurd (omega arith);
}

-- the first `count` places of a list, whatever follows them
kept_at : (places : List ℕ) (count p v : ℕ) → p < count → slice_index (set places count v) p ≡ slice_index places p
kept_at places count p v less = let other : p ≢ count = omega arith in get_or-set_other places count p v 0 other

-- a fine word more, which isn't marked
pub fine_more : (profile : Profile) (ws : List ℕ) (first n start i : ℕ) (places : List ℕ) (count v : ℕ) → AreMarked profile ws first n start i places count → IsFine profile ws first n i
    → AreMarked profile ws first n start (i + 1) (set places count v) count
fine_more profile ws first n start i places count v m fine = record {
  fine = λ j low high. elim (cases_lt j i) [
    | inl early ↦ elim (m.fine j low early) [
      | inl ok ↦ inl ok
      | inr among ↦ inr (among.0, among.1, kept_at places count among.0 v among.1 ∙ among.2)
    ]
    | inr late ↦ let e : i ≡ j = omega arith in inl (subst (λ x. IsFine profile ws first n x) e fine)
  ];
  low = λ p within. subst (λ x. start ≤ x) (sym (kept_at places count p v within)) (m.low p within);
  high = λ p within. let h : slice_index places p < i = m.high p within in subst (λ x. x < i + 1) (sym (kept_at places count p v within)) (omega arith);
  rising = λ p q less within.
      let before : p < count = omega arith in
      subst (λ x. x < slice_index (set places count v) q) (sym (kept_at places count p v before))
      (subst (λ x. slice_index places p < x) (sym (kept_at places count q v within)) (m.rising p q less within));
}

-- a word more, which is marked
pub marked_more : (profile : Profile) (ws : List ℕ) (first n start i : ℕ) (places : List ℕ) (count : ℕ) → start ≤ i → count < length places → AreMarked profile ws first n start i places count
    → AreMarked profile ws first n start (i + 1) (set places count i) (count + 1)
marked_more profile ws first n start i places count from room m = record {
  fine = λ j low high. elim (cases_lt j i) [
    | inl early ↦ elim (m.fine j low early) [
      | inl ok ↦ inl ok
      | inr among ↦ let less : among.0 < count = among.1 in inr (among.0, omega arith, kept_at places count among.0 i among.1 ∙ among.2)
    ]
    | inr late ↦ let e : i ≡ j = omega arith in inr (count, omega arith, here ∙ e)
  ];
  low = λ p within. elim (cases_lt p count) [
    | inl before ↦ subst (λ x. start ≤ x) (sym (kept_at places count p i before)) (m.low p before)
    | inr not_before ↦ subst (λ x. start ≤ x) (sym (last p within not_before)) from
  ];
  high = λ p within. elim (cases_lt p count) [
    | inl before ↦ let h : slice_index places p < i = m.high p before in subst (λ x. x < i + 1) (sym (kept_at places count p i before)) (omega arith)
    | inr not_before ↦ subst (λ x. x < i + 1) (sym (last p within not_before)) (omega arith)
  ];
  rising = λ p q less within.
      let before : p < count = omega arith in
      subst (λ x. x < slice_index (set places count i) q) (sym (kept_at places count p i before)) (elim (cases_lt q count) [
        | inl q_before ↦ subst (λ x. slice_index places p < x) (sym (kept_at places count q i q_before)) (m.rising p q less q_before)
        | inr not_before ↦ subst (λ x. slice_index places p < x) (sym (last q within not_before)) (m.high p before)
      ]);
}
  where
    here : slice_index (set places count i) count ≡ i
    here = get_or-set_same places count i 0 room

    last : (p : ℕ) → p < count + 1 → count ≤ p → slice_index (set places count i) p ≡ i
    last p within late = let e : p ≡ count = omega arith in ap (slice_index (set places count i)) e ∙ here

-- where the words at all marked places are fine, all are
pub all_fine : (profile : Profile) (ws : List ℕ) (first n start stop : ℕ) (places : List ℕ) (count : ℕ) → AreMarked profile ws first n start stop places count → AreMarkedFine profile ws first n places count
    → AreFine profile ws first n start stop
all_fine profile ws first n start stop places count m f = record {
  each = λ i low high. elim (m.fine i low high) [
    | inl ok ↦ ok
    | inr among ↦ subst (λ x. IsFine profile ws first n x) among.2 (f.each among.0 among.1)
  ];
}

-- where the words at the places before one are fine, all words before that place are
fine_before : (profile : Profile) (ws : List ℕ) (first n start stop : ℕ) (places : List ℕ) (count p : ℕ) → AreMarked profile ws first n start stop places count → p < count → AreMarkedFine profile ws first n places p
    → AreFine profile ws first n start (slice_index places p)
fine_before profile ws first n start stop places count p m within f = record {
  each = λ i low high.
      let end : slice_index places p < stop = m.high p within in
      elim (m.fine i low (omega arith)) [
        | inl ok ↦ ok
        | inr among ↦ elim (cases_lt among.0 p) [
          | inl before ↦ subst (λ x. IsFine profile ws first n x) among.2 (f.each among.0 before)
          | inr not_before ↦ elim (cases_lt p among.0) [
            | inl later ↦ let more : slice_index places p < slice_index places among.0 = m.rising p among.0 later among.1 in let e : slice_index places among.0 ≡ i = among.2 in absurd (omega arith)
            | inr not_later ↦ let same : among.0 ≡ p = omega arith in let e : slice_index places p ≡ i = ap (slice_index places) (sym same) ∙ among.2 in absurd (omega arith)
          ]
        ]
      ];
}

-- the first fault found at a marked place is the first of all
pub found_first : (profile : Profile) (ws : List ℕ) (first n start stop : ℕ) (places : List ℕ) (fault : Fault) → AreMarked profile ws first n start stop places (length places) → IsFoundIn profile ws first n places fault
    → AreFine profile ws first n 0 start → IsFirstInside profile ws first n (Some fault)
found_first profile ws first n start stop places fault m f fine =
    f.found (joined_fine profile ws first n 0 start (slice_index places f.p) fine (fine_before profile ws first n start stop places (length places) f.p m f.within f.before))

-- the word at one place more is fine
pub one_more_fine : (profile : Profile) (ws : List ℕ) (first n : ℕ) (places : List ℕ) (count : ℕ) → AreMarkedFine profile ws first n places count → IsFine profile ws first n (slice_index places count)
    → AreMarkedFine profile ws first n places (count + 1)
one_more_fine profile ws first n places count f fine = record {
  each = λ p within. elim (cases_lt p count) [
    | inl before ↦ f.each p before
    | inr not_before ↦ let e : count ≡ p = omega arith in subst (λ x. IsFine profile ws first n (slice_index places x)) e fine
  ];
}

-- the marked places as a list by themselves
pub taken : (profile : Profile) (ws : List ℕ) (first n start stop : ℕ) (places : List ℕ) (count : ℕ) → count ≤ length places → AreMarked profile ws first n start stop places count
    → AreMarked profile ws first n start stop (take count places) (length (take count places))
taken profile ws first n start stop places count room m = subst (λ c. AreMarked profile ws first n start stop (take count places) c) (sym (length-take-le count places room)) (record {
  fine = λ i low high. elim (m.fine i low high) [
    | inl ok ↦ inl ok
    | inr among ↦ inr (among.0, among.1, same among.0 among.1 ∙ among.2)
  ];
  low = λ p within. subst (λ x. start ≤ x) (sym (same p within)) (m.low p within);
  high = λ p within. subst (λ x. x < stop) (sym (same p within)) (m.high p within);
  rising = λ p q less within.
      let before : p < count = omega arith in
      subst (λ x. x < slice_index (take count places) q) (sym (same p before)) (subst (λ x. slice_index places p < x) (sym (same q within)) (m.rising p q less within));
})
  where
    same : (p : ℕ) → p < count → slice_index (take count places) p ≡ slice_index places p
    same p within = get_or-take count places p 0 within

-- marked places are among the words
pub marked_within : (profile : Profile) (ws : List ℕ) (first n start stop : ℕ) (places : List ℕ) → stop ≤ length ws → AreMarked profile ws first n start stop places (length places) → AreWithin places (length ws)
marked_within profile ws first n start stop places room m = record { each = λ p within. let h : slice_index places p < stop = m.high p within in omega arith }

-- what holds where nothing was found
pub by_none : (o : Option Fault) (P : Type 0) → is_some o ≡ false → IfNone o P → P
by_none None P e p = p
by_none (Some fault) P e p = cc

pub found_by_look : (profile : Profile) (ws : List ℕ) (first n start stop : ℕ) (places : List ℕ) (o : Option Fault) → AreMarked profile ws first n start stop places (length places)
    → IfSome o (λ fault. IsFoundIn profile ws first n places fault) → IfSome o (λ fault. AreFine profile ws first n 0 start → IsFirstInside profile ws first n (Some fault))
found_by_look profile ws first n start stop places None m found = tt
found_by_look profile ws first n start stop places (Some fault) m found = found_first profile ws first n start stop places fault m found

pub none_by_look : (profile : Profile) (ws : List ℕ) (first n start stop : ℕ) (places : List ℕ) (o : Option Fault) → AreMarked profile ws first n start stop places (length places)
    → IfNone o (AreMarkedFine profile ws first n places (length places)) → IfNone o (AreFine profile ws first n start stop)
none_by_look profile ws first n start stop places None m fine = all_fine profile ws first n start stop places (length places) m fine
none_by_look profile ws first n start stop places (Some fault) m fine = tt

-- what was found is the first fault, where the words before are fine
pub found_of_some : (profile : Profile) (ws : List ℕ) (first n start : ℕ) (o : Option Fault) → AreFine profile ws first n 0 start → is_some o ≡ true
    → IfSome o (λ fault. AreFine profile ws first n 0 start → IsFirstInside profile ws first n (Some fault)) → IsFirstInside profile ws first n o
found_of_some profile ws first n start None fine e found = cc
found_of_some profile ws first n start (Some fault) fine e found = found fine
