-- What is told of one module more.
use Rattle.std.proofs.Common.{◌≡◌, ℕ, ◌+◌, ◌<◌, List, [], ◌∷◌, ◌++◌, length, get_or, take, refl, sym, ◌∙◌, ap, subst, append_assoc}
use Rattle.std.proofs.lemmas.List.{append-nil, take_more}
use Rattle.lfi_sequence.specs.declared.report.ModuleReport.{ModuleReport}
use Rattle.lfi_file_commands.specs.Refused.{TellsOfRefused, TellRefused}

pub told_more : (xs : List ModuleReport) (x : ModuleReport) (text here : List ℕ) → TellRefused xs text → TellsOfRefused x here → TellRefused (xs ++ x ∷ []) (text ++ here)
told_more [] x text here told is = (here, [], is, refl, ap (λ l. l ++ here) told ∙ sym (append-nil here))
told_more (y ∷ xs) x text here told is =
    (told.0, told.1 ++ here, told.2, told_more xs x told.1 here told.3 is, ap (λ l. l ++ here) told.4 ∙ append_assoc told.0 told.1 here)

pub told_next : (xs : List ModuleReport) (k : ℕ) (x : ModuleReport) (text here : List ℕ) → k < length xs → x ≡ get_or xs k x → TellRefused (take k xs) text → TellsOfRefused x here
    → TellRefused (take (k + 1) xs) (text ++ here)
told_next xs k x text here within is told tells =
    subst (λ l. TellRefused l (text ++ here)) (sym (take_more xs k x within ∙ ap (λ z. take k xs ++ z ∷ []) {x = get_or xs k x} {y = x} (sym is))) (told_more (take k xs) x text here told tells)
