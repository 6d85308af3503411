use Rattle.std.proofs.Common.{◌≡◌, ℕ, ◌-◌, ◌*◌, ◌∙◌, ap, sym, subst}
use Rattle.lfi_module.specs.Extents.{ExtentView}
use Rattle.lfi_image.specs.Judged.{JudgedView}
use Rattle.lfi_model.specs.Item.{IsItem, IfPage, kind_seen}
use Rattle.lfi_model.specs.declared.item.ItemKind.TheVariants.{Page}
use Rattle.lfi_sequence.proofs.placing.Placing.after.Goals as goal

-- what a judged page keeps of its place
abbrev IsAt : (ordinal : ℕ) → ExtentView → JudgedView → Type 0
IsAt ordinal extent page = (page.first ≡ extent.pages * (ordinal - 1)) × (page.extent ≡ extent)

pub returns-in-Page : goal.returns-in-Page
returns-in-Page c = λ m taken was numbered.
    let i = c.item.inside in
    let same = c.item.view_is in
    let typed : IsItem c.args.item = subst IsItem same c.item.invariant.item in
    let at : IsAt i.ordinal i.extent c.in-Page.page = subst (λ k. IfPage (IsAt i.ordinal i.extent) k) c.in-Page.is c.item.invariant.page in
    let kind : c.args.item.kind ≡ Page c.in-Page.page.page.bytes = ap (λ z. z.kind) (sym same) ∙ ap (λ k. kind_seen (λ (page : JudgedView). page.page.bytes) k) c.in-Page.is in
    c.page.ensures.placing m taken c.args.item was numbered typed (at.0 ∙ (λ j. (same j).extent.pages * ((same j).ordinal - 1))) (at.1 ∙ ap (λ z. z.extent) same) kind
