-- What a verifier hands on, after a take and after a put.
use Rattle.std.proofs.Common.{◌≡◌, ℕ, ◌==◌, Bool, true, false, cond, List, [], ◌∷◌, ◌++◌, Some, None, refl, sym, ◌∙◌, ap, append-nil}
use Rattle.lfi_model.specs.Item.{ItemView}
use Rattle.lfi_model.specs.Modules.{of}
use Rattle.lfi_sequence.specs.Hands.{Hands, with_item}
use Rattle.std.proofs.lemmas.List.Elements.{filter-append}

-- it takes an item
pub hand_taken : (took : List ItemView) (lanes : ℕ → List ItemView) (x : ItemView) → Hands took lanes None → Hands (took ++ x ∷ []) lanes (Some x)
hand_taken took lanes x hands m in_range =
    filter-append (λ item. item.«module» == m) took (x ∷ []) ∙ ap (λ l. l ++ of m (x ∷ [])) (hands m in_range ∙ append-nil (lanes m))

put_by : (b : Bool) (lane : List ItemView) (j : ItemView) → lane ++ cond b (j ∷ []) [] ≡ (cond b (lane ++ j ∷ []) lane) ++ []
put_by true lane j = sym (append-nil (lane ++ j ∷ []))
put_by false lane j = refl

-- it puts what it holds in the lane of its module
pub hand_put : (took : List ItemView) (lanes : ℕ → List ItemView) (j : ItemView) → Hands took lanes (Some j) → Hands took (with_item lanes j) None
hand_put took lanes j hands m in_range = hands m in_range ∙ put_by (j.«module» == m) (lanes m) j
