-- The words near a place tell what is open there, and what is next, as all words do.
use Rattle.std.proofs.Common.{◌≡◌, ℕ, zero, suc, ◌+◌, ◌-◌, ◌<◌, ◌≤◌, min, List, [], ◌∷◌, length, take, drop, Option, Some, None, refl, sym, ◌∙◌, ap, subst, arith}
use Rattle.std.specs.Prelude.{slice_get}
use Rattle.std.proofs.lemmas.Option.{slice_get_within}
use Rattle.std.proofs.lemmas.List.{length-take, length-drop}
use Rattle.lfi_module.specs.declared.profile.Profile.{Profile}
use Rattle.lfi_rules.specs.declared.needs.Need.{Need}
use Rattle.lfi_rules.specs.declared.needs.Need.TheVariants.{Nothing}
use Rattle.lfi_rules.specs.Needs.{term_of, window}
use Rattle.lfi_rules.specs.Faults.{IsDue, IsOpenAt, some_due, none_due}
use Rattle.lfi_rules.proofs.Broken.{most_of_window, opens_term}
use Rattle.lfi_explain.specs.declared.opener.Opener.{Opener}
use Rattle.lfi_explain.specs.declared.explanation.Explanation.{Explanation}
use Rattle.lfi_explain.specs.declared.explanation.KnownFault.{KnownFault}
use Rattle.lfi_explain.specs.Openers.{IsOpenerIf}
use Rattle.lfi_explain.specs.Mendings.{IsDecoded}
use Rattle.lfi_explain.specs.Explanations.{ExplainsNear}

get_take : (n : ℕ) (xs : List ℕ) (j : ℕ) → j < n → slice_get (take n xs) j ≡ slice_get xs j
get_take zero xs j l = absurd (omega (arith, l))
get_take (suc n) [] j l = refl
get_take (suc n) (x ∷ xs) zero l = refl
get_take (suc n) (x ∷ xs) (suc j) l = get_take n xs j (omega (arith, l))

get_drop : (n : ℕ) (xs : List ℕ) (j : ℕ) → slice_get (drop n xs) j ≡ slice_get xs (n + j)
get_drop zero xs j = ap (λ x. slice_get xs x) (let same : j ≡ 0 + j = omega arith in same)
get_drop (suc n) [] j = refl
get_drop (suc n) (x ∷ xs) j = get_drop n xs j ∙ ap (λ z. slice_get (x ∷ xs) z) (let same : suc (n + j) ≡ suc n + j = omega arith in same)

-- the words near place k of ws
module _ (ws : List ℕ) (k : ℕ) (inside : k < length ws) where
  abbrev pub part : List ℕ
  part = take (min k 4 + 2) (drop (k - 4) ws)

  part_get : (j : ℕ) → j < min k 4 + 2 → slice_get part j ≡ slice_get ws (k - 4 + j)
  part_get j l = get_take (min k 4 + 2) (drop (k - 4) ws) j l ∙ get_drop (k - 4) ws j

  part_long : min k 4 < length part
  part_long =
      let taken : length part ≡ min (min k 4 + 2) (length (drop (k - 4) ws)) = length-take (min k 4 + 2) (drop (k - 4) ws) in
      let dropped : length (drop (k - 4) ws) ≡ length ws - (k - 4) = length-drop (k - 4) ws in
      omega (arith, taken, dropped, inside)

  due_among_all : (p : Profile) (i d : ℕ) (need : Need) → i + d < min k 4 → IsDue p part i d need → IsDue p ws (k - 4 + i) d need
  due_among_all p i d need early due = record {
    opening = due.opening;
    at = sym (part_get i (omega (arith, early))) ∙ due.at;
    opens = due.opens;
    calm = λ j w low high there.
        let same : slice_get part (j - (k - 4)) ≡ slice_get ws (k - 4 + (j - (k - 4))) = part_get (j - (k - 4)) (omega (arith, early, high, low)) in
        let place : k - 4 + (j - (k - 4)) ≡ j = omega (arith, low) in
        due.calm (j - (k - 4)) w (omega (arith, low)) (omega (arith, high, low)) (same ∙ ap (λ x. slice_get ws x) place ∙ there);
    within = omega (arith, early, inside);
    term = due.term;
  }

  due_near : (p : Profile) (i d : ℕ) (need : Need) → k ≡ i + d + 1 → IsDue p ws i d need → (k - 4 ≤ i) × IsDue p part (i - (k - 4)) d need
  due_near p i d need place due =
      let most : window p ≤ 4 = most_of_window p in
      let term : term_of need ≤ window p = opens_term p due.opening need due.opens in
      let short : d < term_of need = due.term in
      let low : k - 4 ≤ i = omega (arith, most, term, short, place) in
      let long = part_long in
      let back : k - 4 + (i - (k - 4)) ≡ i = omega (arith, low) in (
        low,
        record {
          opening = due.opening;
          at = part_get (i - (k - 4)) (omega (arith, place, low)) ∙ ap (λ x. slice_get ws x) back ∙ due.at;
          opens = due.opens;
          calm = λ j w from to there. due.calm (k - 4 + j) w (omega (arith, from, low)) (omega (arith, to, low)) (sym (part_get j (omega (arith, to, place, low))) ∙ there);
          within = omega (arith, place, low, long);
          term = due.term;
        },
      )

  pub opener_among_all : (p : Profile) (o : Option Opener) → IsOpenerIf p part (min k 4) o → IsOpenerIf p ws k o
  opener_among_all p None (some_due i d opened at due is) = some_due (k - 4 + i) d opened (omega (arith, at)) (due_among_all p i d opened (omega (arith, at)) due) is
  opener_among_all p None (none_due is none) =
      none_due is (λ i d opened at due. let near = due_near p i d opened at due in let low = near.0 in none (i - (k - 4)) d opened (omega (arith, at, low)) near.1)
  opener_among_all p (Some o) h = record {
    place = k - 4 + h.place;
    before = let b = h.before in omega (arith, b);
    word = h.word;
    at = sym (part_get h.place (let b = h.before in omega (arith, b))) ∙ h.at;
    spelling = h.spelling;
    due = due_among_all p h.place o.gone _ (let b = h.before in omega (arith, b)) h.due;
  }

  pub explains_by_all : (known : KnownFault) (e : Explanation) → ExplainsNear part (min k 4) known e → ExplainsNear ws k known e
  explains_by_all known e h = record {
    same_fault = h.same_fault;
    same_slot = h.same_slot;
    count = h.count;
    word = h.word;
    here = ap (λ x. slice_get ws x) (let back : k ≡ k - 4 + min k 4 = omega arith in back) ∙ sym (part_get (min k 4) (omega arith)) ∙ h.here;
    at = h.at;
    opener = opener_among_all known.profile e.opener h.opener;
    next = h.next;
    decoded = subst (λ o. IsDecoded known.profile o h.next) (part_get (min k 4 + 1) (omega arith) ∙ ap (λ x. slice_get ws x) (let back : k - 4 + (min k 4 + 1) ≡ k + 1 = omega arith in back)) h.decoded;
    mend = h.mend;
  }
