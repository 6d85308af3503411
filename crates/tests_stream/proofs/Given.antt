-- The passes that are made with new lanes.
use Rattle.std.proofs.Common.{◌≡◌, ℕ, zero, suc, ◌<◌, List, [], ◌∷◌, length, get_or, Some, refl, sym, subst, ap, ◌∙◌, arith}
use Rattle.std.proofs.lemmas.Option.{slice_get_read}
use Rattle.std.specs.Prelude.{slice_get, Result, Ok, IfOk}
use Rattle.std.specs.Option.{option_map, option_map_or}
use Rattle.std.specs.Global.{Vec}
use Rattle.lfi_model.specs.Item.{ItemView}
use Rattle.lfi_queues.specs.Passes.{QueueId, PassView}
use Rattle.lfi_sequence.specs.Lanes.{AreRows, new_row}

-- what holds where a call has succeeded, of what it brings
pub brought : {A B : Type 0} (P : A → Type 0) (r : Result A B) (x : A) → r ≡ Ok x → IfOk r P → P x
brought P r x e h = subst (λ o. IfOk o P) e h

pub row_given : (lanes : List QueueId) (count : ℕ) (rows : List (Vec (PassView ItemView))) (row : Vec (PassView ItemView)) → AreRows lanes count rows → 0 < count → row ≡ get_or rows 0 row → new_row lanes 0 ≡ row.items
row_given lanes count rows row are some value =
    let there : 0 < length rows = (let all = are.all in omega (arith, all, some)) in
    ap (λ o. option_map_or (λ r. r) o row.items) (sym (are.each 0 some) ∙ ap (λ o. option_map (λ (v : Vec (PassView ItemView)). v.items) o) (slice_get_read rows (length rows) 0 row refl there value))

of_lane : (lanes : List QueueId) (k : ℕ) (take : PassView ItemView) → k < length lanes → take ≡ get_or (new_row lanes 0) k take → slice_get lanes k ≡ Some take.queue
of_lane [] k take below value = absurd (omega arith)
of_lane (lane ∷ lanes) zero take below value = ap (λ p. Some p.queue) (sym value)
of_lane (lane ∷ lanes) (suc k) take below value = of_lane lanes k take (omega arith) value

pub take_given : (lanes : List QueueId) (takes : List (PassView ItemView)) (k : ℕ) (take : PassView ItemView) → takes ≡ new_row lanes 0 → k < length lanes → take ≡ get_or takes k take → slice_get lanes k ≡ Some take.queue
take_given lanes takes k take are below value = of_lane lanes k take below (subst (λ l. take ≡ get_or l k take) are value)
