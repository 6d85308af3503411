-- Marks of a span, whose places are moved ahead.
use Rattle.std.proofs.Common.{◌≡◌, ◌≢◌, ℕ, ◌+◌, ◌<◌, ◌≤◌, ◌⊎◌, List, length, set, take, Some, subst, sym, arith, inl, inr}
use Rattle.std.specs.Prelude.{slice_get, slice_index}
use Rattle.std.proofs.lemmas.List.{get_or-map, length-map, map-set, take-map}
use Rattle.std.proofs.lemmas.Option.{slice_get-get_or}
use Rattle.lfi_module.specs.declared.profile.Profile.{Profile}
use Rattle.lfi_module.specs.declared.profile.Profile.TheVariants.{Two}
use Rattle.lfi_classes.specs.declared.classes.Reach.{Reach}
use Rattle.lfi_classes.specs.declared.classes.Reach.TheVariants.{Quiet, Ordered}
use Rattle.lfi_classes.specs.Classes.{least_of}
use Rattle.lfi_rules.specs.inner.Passing.{IsFarFromEnds, IsToldFrom, AreFarFromEnds, AreMarked, AreNoted, moved}
use Rattle.lfi_rules.proofs.Fine.{fine_quiet}
use Rattle.lfi_rules.proofs.Marked.{fine_more, marked_more, taken}

-- the place that one of them stands for
pub moved_at : (ahead : ℕ) (places : List ℕ) (p : ℕ) → p < length places → slice_index (moved ahead places) p ≡ slice_index places p + ahead
moved_at ahead places p within = get_or-map (λ place. place + ahead) places p 0 0 within

-- What is known of the words of a span: which classes count as quiet there.
pub record AreCounted (profile : Profile) (ws : List ℕ) (first n start stop least : ℕ) : Type 0 where
  pub within : stop ≤ length ws
  pub reach : Reach
  pub number : least ≡ least_of reach
  pub far : reach ≢ Quiet → AreFarFromEnds (first + start) (first + stop) n
  pub two : reach ≡ Ordered → profile ≡ Two

-- one word more of a span
pub one_more : (profile : Profile) (ws : List ℕ) (first n low high least : ℕ) → AreCounted profile ws first n low high least
    → (start i ahead at next : ℕ) (places new : List ℕ) (count more : ℕ) → at ≡ i + ahead → next ≡ at + 1 → low ≤ at → at < high → start ≤ at → count < length places
    → new ≡ set places count i → ((more ≡ count + 1) ⊎ ((more ≡ count) × IsToldFrom least (slice_index ws at)))
    → AreMarked profile ws first n start at (moved ahead places) count
    → AreMarked profile ws first n start next (moved ahead new) more
one_more profile ws first n low high least known start i ahead at next places new count more here step from to begun room written marks m =
    subst (λ x. AreMarked profile ws first n start x (moved ahead new) more) (sym step) (subst (λ x. AreMarked profile ws first n start (at + 1) (moved ahead x) more) (sym written)
    (subst (λ x. AreMarked profile ws first n start (at + 1) x more) (sym (map-set (λ place. place + ahead) places count i)) (elim marks [
      | inl e ↦ subst (λ c. AreMarked profile ws first n start (at + 1) (set (moved ahead places) count (i + ahead)) c) (sym e)
          (subst (λ x. AreMarked profile ws first n start (at + 1) (set (moved ahead places) count x) (count + 1)) here
          (marked_more profile ws first n start at (moved ahead places) count begun space m))
      | inr quiet ↦ subst (λ c. AreMarked profile ws first n start (at + 1) (set (moved ahead places) count (i + ahead)) c) (sym quiet.0)
          (fine_more profile ws first n start at (moved ahead places) count (i + ahead) m (fine_quiet profile ws first n at (slice_index ws at) word
          (quiet.1 profile known.reach (first + at) n known.number far known.two)))
    ])))
  where
    inside : at < length ws
    inside = let stop : high ≤ length ws = known.within in omega arith

    word : slice_get ws at ≡ Some (slice_index ws at)
    word = slice_get-get_or ws at 0 inside

    space : count < length (moved ahead places)
    space = let same : length (moved ahead places) ≡ length places = length-map places (λ place. place + ahead) in omega arith

    far : known.reach ≢ Quiet → IsFarFromEnds (first + at) n
    far near = let f = known.far near in let least : 2048 ≤ first + low = f.from_start in let end : first + high + 2048 ≤ n = f.to_end in record { start = omega arith; end = omega arith }

-- how many are marked then
pub few_more : (count i more : ℕ) (P : Type 0) → count ≤ i → ((more ≡ count + 1) ⊎ ((more ≡ count) × P)) → more ≤ i + 1
few_more count i more P few (inl e) = omega arith
few_more count i more P few (inr e) = let same : more ≡ count = e.0 in omega arith

-- the marked places as a list by themselves
pub noted : (profile : Profile) (ws : List ℕ) (first n start stop ahead : ℕ) (notes : List ℕ) (count : ℕ) → count ≤ length notes → AreMarked profile ws first n start stop (moved ahead notes) count
    → AreNoted profile ws first n start stop ahead (take count notes)
noted profile ws first n start stop ahead notes count room m =
    let size : length (moved ahead notes) ≡ length notes = length-map notes (λ note. note + ahead) in
    let front : take count (moved ahead notes) ≡ moved ahead (take count notes) = take-map (λ note. note + ahead) count notes in
    let all : AreMarked profile ws first n start stop (moved ahead (take count notes)) (length (moved ahead (take count notes))) =
    subst (λ l. AreMarked profile ws first n start stop l (length l)) front (taken profile ws first n start stop (moved ahead notes) count (omega arith) m) in
    subst (λ c. AreMarked profile ws first n start stop (moved ahead (take count notes)) c) (length-map (take count notes) (λ note. note + ahead)) all

-- the places that notes stand for are among the words
pub noted_within : (profile : Profile) (ws : List ℕ) (first n start stop ahead : ℕ) (notes : List ℕ) → stop ≤ length ws → AreNoted profile ws first n start stop ahead notes
    → (p : ℕ) → p < length notes → slice_index notes p + ahead < length ws
noted_within profile ws first n start stop ahead notes end m p less =
    let high : slice_index (moved ahead notes) p < stop = m.high p less in
    let same : slice_index (moved ahead notes) p ≡ slice_index notes p + ahead = moved_at ahead notes p less in
    omega arith
