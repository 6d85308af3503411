-- Of marked places those are kept whose words aren't told.
use Rattle.std.proofs.Common.{◌≡◌, ◌≢◌, ℕ, ◌+◌, ◌<◌, ◌≤◌, ◌⊎◌, List, length, set, refl, subst, sym, ap, ◌∙◌, arith, inl, inr}
use Rattle.std.specs.Prelude.{slice_index}
use Rattle.std.proofs.lemmas.Bool.{cases_lt}
use Rattle.std.proofs.lemmas.List.{get_or-set_other}
use Rattle.lfi_module.specs.declared.profile.Profile.{Profile}
use Rattle.lfi_rules.specs.inner.Passing.{IsFine, AreMarked, IsNextMarked, AreKept, AreAdded}
use Rattle.lfi_rules.proofs.Marked.{fine_more, marked_more}

-- words more that are fine
fine_up_to : (profile : Profile) (ws : List ℕ) (first n start i stop : ℕ) (places : List ℕ) (count : ℕ) → AreMarked profile ws first n start i places count → i ≤ stop
    → ((j : ℕ) → i ≤ j → j < stop → IsFine profile ws first n j) → AreMarked profile ws first n start stop places count
fine_up_to profile ws first n start i stop places count m up fine = record {
  fine = λ j low high. elim (cases_lt j i) [
    | inl early ↦ m.fine j low early
    | inr late ↦ inl (fine j late high)
  ];
  low = m.low;
  high = λ p within. let h : slice_index places p < i = m.high p within in omega arith;
  rising = m.rising;
}

-- the next place is behind all before it
not_above : (profile : Profile) (ws : List ℕ) (first n start stop : ℕ) (places : List ℕ) (count p q : ℕ) → AreMarked profile ws first n start stop places count → p ≤ q → q < count
    → slice_index places p ≤ slice_index places q
not_above profile ws first n start stop places count p q m less within = elim (cases_lt p q) [
  | inl before ↦ let h : slice_index places p < slice_index places q = m.rising p q before within in omega arith
  | inr not_before ↦ let e : p ≡ q = omega arith in let same : slice_index places p ≡ slice_index places q = ap (slice_index places) e in omega arith
]

-- no word between two places that are marked one after another is marked
fine_between : (profile : Profile) (ws : List ℕ) (first n start stop : ℕ) (places : List ℕ) (count at x j : ℕ) → AreMarked profile ws first n start stop places count → at < count
    → IsNextMarked places count stop (at + 1) x → slice_index places at + 1 ≤ j → j < x → IsFine profile ws first n j
fine_between profile ws first n start stop places count at x j m within next low high =
    let from : start ≤ slice_index places at = m.low at within in
    let end : x ≤ stop = next_within profile ws first n start stop places count (at + 1) x m next in
    elim (m.fine j (omega arith) (omega arith)) [
      | inl ok ↦ ok
      | inr among ↦ elim (cases_lt at among.0) [
        | inl later ↦
            let inside : among.0 < count = among.1 in
            let is : x ≡ slice_index places (at + 1) = next.inside (omega arith) in
            let more : slice_index places (at + 1) ≤ slice_index places among.0 = not_above profile ws first n start stop places count (at + 1) among.0 m (omega arith) inside in
            let e : slice_index places among.0 ≡ j = among.2 in absurd (omega arith)
        | inr not_later ↦
            let less : slice_index places among.0 ≤ slice_index places at = not_above profile ws first n start stop places count among.0 at m not_later within in
            let e : slice_index places among.0 ≡ j = among.2 in absurd (omega arith)
      ]
    ]
  where
    next_within : (profile : Profile) (ws : List ℕ) (first n start stop : ℕ) (places : List ℕ) (count at x : ℕ) → AreMarked profile ws first n start stop places count
        → IsNextMarked places count stop at x → x ≤ stop
    next_within profile ws first n start stop places count at x m next = elim (cases_lt at count) [
      | inl inside ↦ let h : slice_index places at < stop = m.high at inside in let is : x ≡ slice_index places at = next.inside inside in omega arith
      | inr past ↦ let is : x ≡ stop = next.past past in omega arith
    ]

-- the words before the first marked place are fine
none_kept : (profile : Profile) (ws : List ℕ) (first n start stop : ℕ) (places : List ℕ) (count x : ℕ) → AreMarked profile ws first n start stop places count
    → IsNextMarked places count stop 0 x → AreMarked profile ws first n start x places 0
none_kept profile ws first n start stop places count x m next = record {
  fine = λ i low high. elim (cases_lt 0 count) [
    | inl some ↦
        let is : x ≡ slice_index places 0 = next.inside some in
        let end : slice_index places 0 < stop = m.high 0 some in
        elim (m.fine i low (omega arith)) [
          | inl ok ↦ inl ok
          | inr among ↦
              let more : slice_index places 0 ≤ slice_index places among.0 = not_above profile ws first n start stop places count 0 among.0 m (omega arith) among.1 in
              let e : slice_index places among.0 ≡ i = among.2 in absurd (omega arith)
        ]
    | inr none ↦
        let is : x ≡ stop = next.past none in
        elim (m.fine i low (omega arith)) [
          | inl ok ↦ inl ok
          | inr among ↦ let inside : among.0 < count = among.1 in absurd (omega arith)
        ]
  ];
  low = λ p within. absurd (omega arith);
  high = λ p within. absurd (omega arith);
  rising = λ p q less within. absurd (omega arith);
}

-- One place more was looked at: its word is fine, or it is kept.
one_more_kept : (profile : Profile) (ws : List ℕ) (first n begin start stop x : ℕ) (old new : List ℕ) (count at kept more v : ℕ) → begin ≤ start → at < count → kept < length new
    → v ≡ slice_index old at → ((y : ℕ) → IsNextMarked old count stop at y → AreMarked profile ws first n begin y new kept)
    → AreMarked profile ws first n start stop old count → IsNextMarked old count stop (at + 1) x
    → ((more ≡ kept + 1) ⊎ ((more ≡ kept) × IsFine profile ws first n v))
    → AreMarked profile ws first n begin x (set new kept v) more
one_more_kept profile ws first n begin start stop x old new count at kept more v order within room same before m next told =
    fine_up_to profile ws first n begin (slice_index old at + 1) x (set new kept v) more here_too up
    (λ j low high. fine_between profile ws first n start stop old count at x j m within next low high)
  where
    so_far : AreMarked profile ws first n begin (slice_index old at) new kept
    so_far = before (slice_index old at) (record { inside = λ less. refl; past = λ late. absurd (omega arith) })

    up : slice_index old at + 1 ≤ x
    up = elim (cases_lt (at + 1) count) [
      | inl inside ↦ let is : x ≡ slice_index old (at + 1) = next.inside inside in let less : slice_index old at < slice_index old (at + 1) = m.rising at (at + 1) (omega arith) inside in omega arith
      | inr past ↦ let is : x ≡ stop = next.past past in let less : slice_index old at < stop = m.high at within in omega arith
    ]

    here_too : AreMarked profile ws first n begin (slice_index old at + 1) (set new kept v) more
    here_too = elim told [
      | inl e ↦
          let low : start ≤ slice_index old at = m.low at within in
          subst (λ c. AreMarked profile ws first n begin (slice_index old at + 1) (set new kept v) c) (sym e)
          (subst (λ x. AreMarked profile ws first n begin (slice_index old at + 1) (set new kept x) (kept + 1)) (sym same)
          (marked_more profile ws first n begin (slice_index old at) new kept (omega arith) room so_far))
      | inr fine ↦ subst (λ c. AreMarked profile ws first n begin (slice_index old at + 1) (set new kept v) c) (sym fine.0)
          (fine_more profile ws first n begin (slice_index old at) new kept v so_far (subst (λ i. IsFine profile ws first n i) same fine.1))
    ]

-- ---- kept in place
-- no place was looked at
pub kept_none : (profile : Profile) (ws : List ℕ) (first n : ℕ) (places : List ℕ) (count : ℕ) → AreKept profile ws first n places count 0 places 0
kept_none profile ws first n places count = record {
  rest = λ p low. refl;
  marked = λ start stop x m next. none_kept profile ws first n start stop places count x m next;
}

-- one place more
pub kept_more : (profile : Profile) (ws : List ℕ) (first n : ℕ) (old : List ℕ) (count at : ℕ) (new : List ℕ) (kept more : ℕ) → at < count → count ≤ length old → length new ≡ length old
    → kept ≤ at → AreKept profile ws first n old count at new kept → ((more ≡ kept + 1) ⊎ ((more ≡ kept) × IsFine profile ws first n (slice_index new at)))
    → AreKept profile ws first n old count (at + 1) (set new kept (slice_index new at)) more
kept_more profile ws first n old count at new kept more within space size few so_far told = record {
  rest = λ p low. let apart : p ≢ kept = omega arith in get_or-set_other new kept p (slice_index new at) 0 apart ∙ so_far.rest p (omega arith);
  marked = λ start stop x m next. one_more_kept profile ws first n start start stop x old new count at kept more (slice_index new at) (omega arith) within (omega arith) (so_far.rest at (omega arith))
      (λ y before. so_far.marked start stop y m before) m next told;
}

-- all places
pub kept_all : (profile : Profile) (ws : List ℕ) (first n : ℕ) (old : List ℕ) (count at : ℕ) (new : List ℕ) (kept start stop : ℕ) → AreKept profile ws first n old count at new kept → count ≤ at
    → AreMarked profile ws first n start stop old count → AreMarked profile ws first n start stop new kept
kept_all profile ws first n old count at new kept start stop so_far past m = so_far.marked start stop stop m (record { inside = λ less. absurd (omega arith); past = λ late. refl })

-- ---- added behind others
-- no place was looked at
pub added_none : (profile : Profile) (ws : List ℕ) (first n : ℕ) (old : List ℕ) (before : ℕ) (notes : List ℕ) (count : ℕ) → AreAdded profile ws first n old before notes count 0 old before
added_none profile ws first n old before notes count = record {
  marked = λ begin start stop x order down m0 m next.
      let early : AreMarked profile ws first n start x notes 0 = none_kept profile ws first n start stop notes count x m next in
      let up : start ≤ x = elim (cases_lt 0 count) [
        | inl some ↦ let is : x ≡ slice_index notes 0 = next.inside some in let low : start ≤ slice_index notes 0 = m.low 0 some in omega arith
        | inr none ↦ let is : x ≡ stop = next.past none in omega arith
      ] in
      fine_up_to profile ws first n begin start x old before m0 up (λ j low high. elim (early.fine j low high) [
        | inl ok ↦ ok
        | inr among ↦ let none : among.0 < 0 = among.1 in absurd (omega arith)
      ]);
}

-- one place more
pub added_more : (profile : Profile) (ws : List ℕ) (first n : ℕ) (old : List ℕ) (before : ℕ) (notes : List ℕ) (count at : ℕ) (new : List ℕ) (kept more v : ℕ) → at < count → kept < length new
    → v ≡ slice_index notes at → AreAdded profile ws first n old before notes count at new kept → ((more ≡ kept + 1) ⊎ ((more ≡ kept) × IsFine profile ws first n v))
    → AreAdded profile ws first n old before notes count (at + 1) (set new kept v) more
added_more profile ws first n old before notes count at new kept more v within room same so_far told = record {
  marked = λ begin start stop x order down m0 m next. one_more_kept profile ws first n begin start stop x notes new count at kept more v order within room same
      (λ y next_one. so_far.marked begin start stop y order down m0 m next_one) m next told;
}

-- all places
pub added_all : (profile : Profile) (ws : List ℕ) (first n : ℕ) (old : List ℕ) (before : ℕ) (notes : List ℕ) (count at : ℕ) (new : List ℕ) (kept begin start stop : ℕ) → AreAdded profile ws first n old before notes count at new kept → count ≤ at
    → begin ≤ start → start ≤ stop → AreMarked profile ws first n begin start old before → AreMarked profile ws first n start stop notes count → AreMarked profile ws first n begin stop new kept
added_all profile ws first n old before notes count at new kept begin start stop so_far past order down m0 m =
    so_far.marked begin start stop stop order down m0 m (record { inside = λ less. absurd (omega arith); past = λ late. refl })
