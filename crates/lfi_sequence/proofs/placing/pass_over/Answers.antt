use Rattle.std.proofs.Common.{◌≡◌, ℕ, ◌-◌, ◌*◌, ◌∙◌, ap, subst}
use Rattle.lfi_module.specs.Extents.{ExtentView}
use Rattle.lfi_image.specs.Judged.{JudgedView}
use Rattle.lfi_model.specs.Item.{IfPage}
use Rattle.lfi_sequence.specs.inner.Pools.{Offers}
use Rattle.lfi_sequence.proofs.placing.pass_over.Goals as goal

-- what a judged page keeps of its place
abbrev IsAt : (ordinal : ℕ) → ExtentView → JudgedView → Type 0
IsAt ordinal extent page = (page.first ≡ extent.pages * (ordinal - 1)) × (page.extent ≡ extent)

pub returns-in-Page : goal.returns-in-Page
returns-in-Page c = λ bytes is.
    let i = c.item.inside in
    let at : IsAt i.ordinal i.extent c.in-Page.page = subst (λ k. IfPage (IsAt i.ordinal i.extent) k) c.in-Page.is c.item.invariant.page in
    let sized : c.in-Page.page.page.size ≡ c.in-Page.page.extent.pages = subst (λ (p : JudgedView). p.page.size ≡ p.extent.pages) c.in-Page.page-is c.give_back.ensures.sized in
    let offers : Offers c.in-Page.page.page.size c.args.pool.now c.give_back.new.pool = subst (λ (p : JudgedView). Offers p.page.size c.args.pool.now c.give_back.new.pool) c.in-Page.page-is c.give_back.ensures.offers in
    subst (λ s. Offers s c.args.pool.now c.give_back.new.pool) (sized ∙ ap (λ z. z.pages) at.1 ∙ ap (λ z. z.extent.pages) c.item.view_is) offers
