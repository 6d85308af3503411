-- What has been placed up to a fault is the longest beginning without one.
use Rattle.lfi_module.specs.Extents.{ExtentView}
use Rattle.std.proofs.Common.{◌≡◌, ℕ, ◌+◌, ◌<◌, ◌≤◌, List, [], ◌∷◌, ◌++◌, length, Some, None, refl, sym, ◌∙◌, ap, subst, inl, inr, arith, length-append, append_assoc}
use Rattle.std.proofs.lemmas.List.{append-nil}
use Rattle.std.proofs.lemmas.Bool.{cases_lt}
use Rattle.lfi_rules.specs.declared.fault.Fault.{Fault}
use Rattle.lfi_rules.specs.Faults.{Breaks, FirstFault}
use Rattle.lfi_rules.proofs.Following.{breaks_more}
use Rattle.lfi_rules.specs.Verdicts.{all_words}
use Rattle.lfi_model.specs.Outcomes.{Begins, Placed}

pub all_words-append : (us vs : List (List ℕ)) → all_words (us ++ vs) ≡ all_words us ++ all_words vs
all_words-append [] vs = refl
all_words-append (u ∷ us) vs = ap (λ l. u ++ l) (all_words-append us vs) ∙ sym (append_assoc u (all_words us) (all_words vs))

-- a longer beginning goes on as the list does
pub longer_begins : {A : Type 0} (us vs rest more : List A) (x : A) → length us < length vs → us ++ x ∷ rest ≡ vs ++ more → (back : List A) × (vs ≡ us ++ x ∷ back)
longer_begins [] [] rest more x l e = absurd (omega arith)
longer_begins [] (v ∷ vs) rest more x l e = let same : x ≡ v = cc in (vs, ap (λ z. z ∷ vs) (sym same))
longer_begins (u ∷ us) [] rest more x l e = absurd (omega arith)
longer_begins (u ∷ us) (v ∷ vs) rest more x l e =
    let same : u ≡ v = cc in
    let tails : us ++ x ∷ rest ≡ vs ++ more = cc in
    let b = longer_begins us vs rest more x (omega arith) tails in
    let b1 = b.1 in (b.0, cc)

-- what was placed before a page with a fault is the longest beginning without one
pub placed_to_fault : (e : ExtentView) (us rest : List (List ℕ)) (page : List ℕ) (fault : Fault) → FirstFault e.profile (all_words us) e.words None → FirstFault e.profile (all_words us ++ page) e.words (Some fault) → Placed e (us ++ page ∷ rest) us
placed_to_fault e us rest page fault lawful first = record {
  beginning = (page ∷ rest, refl);
  lawful = lawful;
  longest = λ vs begins lawful_vs. elim (cases_lt (length us) (length vs)) [
    | inl shorter ↦
        let b = longer_begins us vs rest begins.0 page shorter begins.1 in
        let words : all_words vs ≡ (all_words us ++ page) ++ all_words b.0 =
        ap all_words b.1 ∙ all_words-append us (page ∷ b.0) ∙ sym (append_assoc (all_words us) page (all_words b.0)) in
        absurd (lawful_vs fault.word fault.rule (subst (λ l. Breaks e.profile l e.words fault.word fault.rule) (sym words) (breaks_more e.profile (all_words us ++ page) (all_words b.0) e.words fault.word fault.rule first.breaks)))
    | inr enough ↦ enough
  ];
}

pub placed_whole : (e : ExtentView) (pages : List (List ℕ)) → FirstFault e.profile (all_words pages) e.words None → Placed e pages pages
placed_whole e pages lawful = record {
  beginning = ([], sym (append-nil pages));
  lawful = lawful;
  longest = λ vs begins _. let l : length pages ≡ length vs + length begins.0 = ap length begins.1 ∙ length-append vs begins.0 in omega (arith, l);
}

-- where an earlier page has a fault, one more page places nothing
pub placed_on : (e : ExtentView) (pages us : List (List ℕ)) (page : List ℕ) (fault : Fault) → Placed e pages us → FirstFault e.profile (all_words pages) e.words (Some fault) → Placed e (pages ++ page ∷ []) us
placed_on e pages us page fault placed first = record {
  beginning = (placed.beginning.0 ++ page ∷ [], ap (λ l. l ++ page ∷ []) placed.beginning.1 ∙ append_assoc us placed.beginning.0 (page ∷ []));
  lawful = placed.lawful;
  longest = λ vs begins lawful. elim (cases_lt (length pages) (length vs)) [
    | inl longer ↦
        let b = longer_begins pages vs [] begins.0 page longer begins.1 in
        let words : all_words vs ≡ all_words pages ++ all_words (page ∷ b.0) = ap all_words b.1 ∙ all_words-append pages (page ∷ b.0) in
        absurd (lawful fault.word fault.rule (subst (λ l. Breaks e.profile l e.words fault.word fault.rule) (sym words) (breaks_more e.profile (all_words pages) (all_words (page ∷ b.0)) e.words fault.word fault.rule first.breaks)))
    | inr enough ↦ placed.longest vs (shorter_begins vs pages begins.0 page enough begins.1) lawful
  ];
}
  where
    shorter_begins : {A : Type 0} (vs pages more : List A) (x : A) → length vs ≤ length pages → pages ++ x ∷ [] ≡ vs ++ more → Begins vs pages
    shorter_begins [] pages more x l e = (pages, refl)
    shorter_begins (v ∷ vs) [] more x l e = absurd (omega arith)
    shorter_begins (v ∷ vs) (p ∷ pages) more x l e =
        let same : p ≡ v = cc in
        let tails : pages ++ x ∷ [] ≡ vs ++ more = cc in
        let b = shorter_begins vs pages more x (omega arith) tails in
        let b1 = b.1 in (b.0, cc)
