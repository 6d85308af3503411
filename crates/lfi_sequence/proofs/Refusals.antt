-- The words near which a module is refused stay where more pages follow.
use Rattle.std.proofs.Common.{◌≡◌, ℕ, ◌+◌, ◌-◌, ◌<◌, ◌≤◌, List, [], ◌∷◌, ◌++◌, length, get_or, take, drop, set, Some, None, refl, sym, ◌∙◌, ap, subst, arith, length-append}
use Rattle.std.specs.List.{slice_get}
use Rattle.std.proofs.lemmas.Option.{slice_get-get_or, get_or_from_slice_get}
use Rattle.std.proofs.lemmas.List.{append-nil, get_or_append_left, get_or-append_right, take-append-le, take_all, length_push, length-set, length-drop, take_more, take_more_set, get_or-drop}
use Rattle.lfi_module.specs.declared.profile.Profile.{Profile}
use Rattle.lfi_module.specs.Extents.{ExtentView}
use Rattle.lfi_rules.specs.declared.fault.Fault.{Fault}
use Rattle.lfi_rules.specs.Faults.{Breaks, FirstFault}
use Rattle.lfi_rules.specs.Verdicts.{all_words}
use Rattle.lfi_rules.proofs.Following as following
use Rattle.lfi_model.specs.Outcomes.{Placed}
use Rattle.lfi_sequence.specs.Refused.{judged_words}

-- where the pages have a fault, not all are placed
pub not_all_placed : (e : ExtentView) (pages us : List (List ℕ)) (fault : Fault) → Placed e pages us → FirstFault e.profile (all_words pages) e.words (Some fault) → length us < length pages
not_all_placed e pages us fault placed first = by placed.beginning.0 placed.beginning.1
  where
    by : (rest : List (List ℕ)) → pages ≡ us ++ rest → length us < length pages
    by [] is =
        let same : pages ≡ us = is ∙ append-nil us in
        absurd (placed.lawful fault.word fault.rule (subst (λ l. Breaks e.profile (all_words l) e.words fault.word fault.rule) same first.breaks))
    by (page ∷ rest) is = let long : length pages ≡ length us + length (page ∷ rest) = ap length is ∙ length-append us (page ∷ rest) in omega (arith, long)

-- so further pages aren't judged
pub judged_more : (us pages more : List (List ℕ)) → length us < length pages → judged_words us (pages ++ more) ≡ judged_words us pages
judged_more us pages more fewer = ap all_words (take-append-le (length us + 1) pages more (omega (arith, fewer)))

-- where all pages are placed, the one after them is judged
pub judged_next : (us pages : List (List ℕ)) (page : List ℕ) → us ≡ pages → judged_words us (pages ++ page ∷ []) ≡ all_words (pages ++ page ∷ [])
judged_next us pages page all =
    ap all_words (take_all (length us + 1) (pages ++ page ∷ []) (let long : length (pages ++ page ∷ []) ≡ length pages + 1 = length_push pages page in let same : length us ≡ length pages = ap length all in omega arith))

-- a fault's place is that of a word
pub fault_within : (profile : Profile) (ws : List ℕ) (n : ℕ) (fault : Fault) → FirstFault profile ws n (Some fault) → fault.word < length ws
fault_within profile ws n fault first = following.fault_within profile ws n fault first

-- a word that is read of the first words, or of the others
pub read_left : (ws more : List ℕ) (place word : ℕ) → place < length ws → word ≡ get_or ws place word → slice_get (ws ++ more) place ≡ Some word
read_left ws more place word within is =
    let longer : place < length (ws ++ more) = omega (arith, length-append ws more, within) in
    slice_get-get_or (ws ++ more) place word longer ∙ ap Some (get_or_append_left ws more word place within) ∙ ap Some (sym is)

pub read_right : (ws more : List ℕ) (place word : ℕ) → length ws ≤ place → place < length (ws ++ more) → word ≡ get_or more (place - length ws) word → slice_get (ws ++ more) place ≡ Some word
read_right ws more place word past within is = slice_get-get_or (ws ++ more) place word within ∙ ap Some (get_or-append_right ws more (length ws) place word refl past) ∙ ap Some (sym is)

-- one word more of those that are copied
pub copied_room : (ws : List ℕ) (i w : ℕ) → length ws ≡ 6 → length (set ws i w) ≡ 6
copied_room ws i w long = length-set ws i w ∙ long

pub copied_more : (known ws : List ℕ) (first place w : ℕ) → first ≤ place → place - first < length ws → place < length known → take (place - first) ws ≡ take (place - first) (drop first known)
    → slice_get known place ≡ Some w → take (place + 1 - first) (set ws (place - first) w) ≡ take (place + 1 - first) (drop first known)
copied_more known ws first place w low room within same at =
    let i : ℕ = place - first in
    let next : place + 1 - first ≡ i + 1 = omega (arith, low) in
    let long : length (drop first known) ≡ length known - first = length-drop first known in
    let more : i < length (drop first known) = omega (arith, low, long, within) in
    let back : first + i ≡ place = omega (arith, low) in
    let word : get_or (drop first known) i w ≡ w = get_or-drop first known i w ∙ ap (λ j. get_or known j w) back ∙ get_or_from_slice_get known place w w at in
    ap (λ n. take n (set ws i w)) next ∙ take_more_set ws i w room ∙ ap (λ l. l ++ w ∷ []) same ∙ ap (λ x. take i (drop first known) ++ x ∷ []) (sym word) ∙ sym (take_more (drop first known) i w more)
    ∙ ap (λ n. take n (drop first known)) (sym next)
