use Rattle.std.proofs.Common.{◌/◌, ◌^◌, ◌*ℤ◌, ap, ap₂, ◌∙◌, SFits, w64, rules}
use Rattle.std.specs.Int.{w128}
use mir.Val.{of_z}
use Rattle.a64_semantics.proofs.Signed.{product}
use Rattle.a64_semantics.proofs.products.signed_high_product.Goals as goal

pub returns : goal.returns
returns c =
    let f : SFits w64 c.cast_signed.result = search rules in
    let g : SFits w64 c.cast_signed-2.result = search rules in
    ap (λ v. v / 2 ^ 64) (c.cast_unsigned.ensures ∙ product c.cast_signed.result c.cast_signed-2.result f g ∙ ap₂ (λ a b. of_z w128 (a *ℤ b)) c.cast_signed.ensures c.cast_signed-2.ensures)
