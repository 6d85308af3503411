-- Items of images that are kept as they are put.
use Rattle.std.proofs.Common.{◌≡◌, ◌≢◌, ◌∙◌, Bool, true, false, ℕ, ◌+◌, suc, List, [], ◌∷◌, ◌++◌, length, Some, None, IfSome, Result, OnOk, Ok, Err, codes, sym, ap, ap₂, arith, rules}
use Rattle.std.specs.Prelude.{if◌then◌else◌, is_ok}
use Rattle.lfi_model.specs.Texts.{lines_from}
use Rattle.lfi_model.proofs.Lines.{one_line_more}
use Rattle.lfi_file_commands.specs.Images.{Fate, image_path_of}
use Rattle.lfi_file_commands.specs.Json.{comma, error_member, image_item, quoted}

comma_more : (n : ℕ) → comma 1 ≡ comma (suc n)
comma_more n = search rules

-- a comma stands before each item but the first
pub comma_of : (folder : List ℕ) (fates : List Fate) (text : List ℕ) (before : ℕ) → text ≡ lines_from (image_item folder) 0 fates → (text ≡ [] → before ≡ 0) → (text ≢ [] → before ≡ 1)
    → comma before ≡ comma (length fates)
comma_of folder [] text before is none some = ap comma (none is)
comma_of folder (f ∷ fs) text before is none some = ap comma (some (λ empty. let wrong : lines_from (image_item folder) 0 (f ∷ fs) ≡ [] = sym is ∙ empty in cc)) ∙ comma_more (length fs)

-- one item more
pub item_more : (folder : List ℕ) (fates : List Fate) (fate : Fate) (old new : List ℕ) (before : ℕ) → comma before ≡ comma (length fates) → old ≡ lines_from (image_item folder) 0 fates
    → new ≡ old ++ image_item folder before fate → new ≡ lines_from (image_item folder) 0 (fates ++ fate ∷ [])
item_more folder fates fate old new before same is pushed =
    let number : 0 + length fates ≡ length fates = omega arith in
    let item : image_item folder before fate ≡ image_item folder (0 + length fates) fate =
    ap (λ c. c ++ codes "{\"path\":" ++ quoted (image_path_of folder fate.image.slot) ++ error_member fate.failure ++ codes "}") (same ∙ ap comma (sym number)) in
    pushed ∙ ap₂ (λ a b. a ++ b) is item ∙ sym (one_line_more (image_item folder) 0 fates fate)

-- of those that are kept it is known
pub kept_known : (P : List ℕ → Type 0) (kept : Bool) (text : List ℕ) → kept ≡ true → IfSome (if kept then Some text else None) P → P text
kept_known P true text is holds = holds
kept_known P false text is holds = absurd cc

-- one that was put is kept, or none are
pub kept_by : {X E : Type 0} (P : List ℕ → Type 0) (pushed : Result X E) (kept : Bool) (text : List ℕ) → kept ≡ is_ok pushed → OnOk pushed (P text) → IfSome (if kept then Some text else None) P
kept_by P (Ok x) true text is holds = holds
kept_by P (Ok x) false text is holds = tt
kept_by P (Err e) true text is holds = absurd cc
kept_by P (Err e) false text is holds = tt
