-- Objects of modules, one after another.
use Rattle.std.proofs.Common.{◌≡◌, ◌∙◌, ℕ, ◌+◌, ◌<◌, zero, suc, Bool, List, [], ◌∷◌, ◌++◌, length, get_or, take, Option, None, refl, sym, ap, subst, append_assoc, arith}
use Rattle.std.proofs.lemmas.List.{append-nil, take_more}
use Rattle.lfi_explain.specs.declared.explanation.Explanation.{Explanation}
use Rattle.lfi_sequence.specs.declared.report.ModuleReport.{ModuleReport}
use Rattle.lfi_commands.specs.Objects.{IsAskedRefusal, TellModules, module_item}

-- one module more
pub modules_more : (explain : Bool) (holders : List (Option ℕ)) (n : ℕ) (xs : List ModuleReport) (x : ModuleReport) (text : List ℕ) (told : Option Explanation)
    → TellModules explain holders n xs text → IsAskedRefusal explain x.refused told
    → TellModules explain holders n (xs ++ x ∷ []) (text ++ module_item (n + length xs) x.outcome told (get_or holders (n + length xs) None))
modules_more explain holders n [] x text told done is =
    let number : n + 0 ≡ n = omega arith in
    (told, [], is, refl, ap (λ l. l ++ module_item (n + 0) x.outcome told (get_or holders (n + 0) None)) done ∙ ap (λ k. module_item k x.outcome told (get_or holders k None)) number ∙ sym (append-nil _))
modules_more explain holders n (y ∷ xs) x text told done is =
    let number : suc n + length xs ≡ n + suc (length xs) = omega arith in
    let item = λ (k : ℕ). module_item k x.outcome told (get_or holders k None) in
    let first = module_item n y.outcome done.0 (get_or holders n None) in (
      done.0,
      done.1 ++ item (suc n + length xs),
      done.2,
      modules_more explain holders (suc n) xs x done.1 told done.3 is,
      ap (λ l. l ++ item (n + suc (length xs))) done.4 ∙ append_assoc first done.1 (item (n + suc (length xs))) ∙ ap (λ k. first ++ (done.1 ++ item k)) (sym number),
    )

-- the same, of the first ones in a list
pub modules_next : (explain : Bool) (holders : List (Option ℕ)) (xs : List ModuleReport) (k : ℕ) (x : ModuleReport) (text : List ℕ) (told : Option Explanation) → k < length xs → x ≡ get_or xs k x
    → TellModules explain holders 0 (take k xs) text → IsAskedRefusal explain x.refused told
    → TellModules explain holders 0 (take (k + 1) xs) (text ++ module_item k x.outcome told (get_or holders k None))
modules_next explain holders xs k x text told within is done asked =
    let item = λ (n : ℕ). module_item n x.outcome told (get_or holders n None) in
    let count : 0 + length (take k xs) ≡ k = (let e = taken xs k within in omega (arith, e)) in
    subst (λ l. TellModules explain holders 0 l (text ++ item k)) (sym (take_more xs k x within ∙ ap (λ z. take k xs ++ z ∷ []) {x = get_or xs k x} {y = x} (sym is)))
    (subst (λ n. TellModules explain holders 0 (take k xs ++ x ∷ []) (text ++ item n)) count (modules_more explain holders 0 (take k xs) x text told done asked))
  where
    taken : (ys : List ModuleReport) (n : ℕ) → n < length ys → length (take n ys) ≡ n
    taken [] n short = absurd (omega (arith, short))
    taken (y ∷ ys) zero short = refl
    taken (y ∷ ys) (suc n) short = ap suc (taken ys n (omega (arith, short)))
