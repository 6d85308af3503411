-- Pages one after another, and the first fault of their words.
use Rattle.std.proofs.Common.{◌≡◌, ℕ, ◌+◌, ◌<◌, ◌≤◌, List, [], ◌∷◌, ◌++◌, length, take, drop, get_or, sym, ◌∙◌, ap, subst, arith, Option, Some, None, true, false, length-append}
use Rattle.std.specs.Prelude.{is_some}
use Rattle.std.specs.Global.{Vec}
use Rattle.std.proofs.lemmas.List.{map-append, take_more, take-append-drop, drop_more, append-nil}
use Rattle.lfi_module.specs.Extents.{ExtentView}
use Rattle.lfi_rules.specs.declared.fault.Fault.{Fault}
use Rattle.lfi_rules.specs.Faults.{FirstFault}
use Rattle.lfi_rules.specs.Verdicts.{all_words}
use Rattle.lfi_model.specs.Outcomes.{Placed}
use Rattle.lfi_model.proofs.Faults.{all_words-append, placed_to_fault}
use Rattle.lfi_reference.specs.Pages.{pages_by}

pub words_more : (pages : List (Vec ℕ)) (i : ℕ) (page : Vec ℕ) → i < length pages → page ≡ get_or pages i page →
    all_words (pages_by (take (i + 1) pages)) ≡ all_words (pages_by (take i pages)) ++ page.items
words_more pages i page lt is =
    ap (λ l. all_words (pages_by l)) (take_more pages i page lt)
    ∙ ap all_words (map-append (λ p. p.items) (take i pages) (get_or pages i page ∷ []))
    ∙ all_words-append (pages_by (take i pages)) ((get_or pages i page).items ∷ [])
    ∙ ap (λ l. all_words (pages_by (take i pages)) ++ l) (append-nil (get_or pages i page).items)
    ∙ ap (λ p. all_words (pages_by (take i pages)) ++ p.items) (sym is)

pub words_within : (pages : List (Vec ℕ)) (i : ℕ) → length (all_words (pages_by (take i pages))) ≤ length (all_words (pages_by pages))
words_within pages i =
    let whole : all_words (pages_by pages) ≡ all_words (pages_by (take i pages)) ++ all_words (pages_by (drop i pages)) =
    ap (λ l. all_words (pages_by l)) (sym (take-append-drop i pages)) ∙ ap all_words (map-append (λ p. p.items) (take i pages) (drop i pages)) ∙ all_words-append (pages_by (take i pages)) (pages_by (drop i pages)) in
    let len = ap length whole in
    omega (arith, len, length-append (all_words (pages_by (take i pages))) (all_words (pages_by (drop i pages))))

-- the pages before one with a fault are the longest beginning
placed_here : (n : ExtentView) (pages : List (List ℕ)) (i : ℕ) (fault : Fault) → i < length pages → FirstFault n.profile (all_words (take i pages)) n.words None → FirstFault n.profile (all_words (take (i + 1) pages)) n.words (Some fault) → Placed n pages (take i pages)
placed_here n pages i fault lt lawful first =
    let us = take i pages in let page = get_or pages i [] in
    let split : pages ≡ us ++ page ∷ drop (i + 1) pages = sym (take-append-drop i pages) ∙ ap (λ l. us ++ l) (drop_more pages i [] lt) in
    let words : all_words (take (i + 1) pages) ≡ all_words us ++ page =
    ap all_words (take_more pages i [] lt) ∙ all_words-append us (page ∷ []) ∙ ap (λ l. all_words us ++ l) (append-nil page) in
    let at : FirstFault n.profile (all_words us ++ page) n.words (Some fault) = subst (λ ws. FirstFault n.profile ws n.words (Some fault)) words first in
    subst (λ l. Placed n l us) (sym split) (placed_to_fault n us (drop (i + 1) pages) page fault lawful at)

pub placed_seen : (n : ExtentView) (pages : List (List ℕ)) (i : ℕ) (found : Option Fault) → is_some found ≡ true → i < length pages → FirstFault n.profile (all_words (take i pages)) n.words None → FirstFault n.profile (all_words (take (i + 1) pages)) n.words found → Placed n pages (take i pages)
placed_seen n pages i (Some fault) some lt lawful first = placed_here n pages i fault lt lawful first
placed_seen n pages i None some lt lawful first = absurd (cc)

pub none_seen : (ws : List ℕ) (n : ExtentView) (found : Option Fault) → is_some found ≡ false → FirstFault n.profile ws n.words found → FirstFault n.profile ws n.words None
none_seen ws n (Some fault) none first = absurd (cc)
none_seen ws n None none first = first
