use Rattle.std.proofs.Common.{ℕ, ◌^◌, ◌<◌, refl, subst, rules, inr}
use Rattle.lfi_classes.specs.Classes.{IsQuietHere}
use Rattle.lfi_rules.specs.declared.needs.Need.TheVariants.{Nothing}
use Rattle.lfi_rules.specs.inner.Quiet.{IsToldWord}
use Rattle.lfi_rules.proofs.ByKind.{told_here}
use Rattle.lfi_rules.proofs.marks.mark.Goals as goal

pub returns-then-is_quiet_from-clause-step : goal.returns-then-is_quiet_from-clause-step
returns-then-is_quiet_from-clause-step g c = inr (
  refl,
  λ profile reach k n number far two.
      let w : ℕ = c.word.result in
      let fits : w < 2 ^ 32 = search rules in
      let here : IsQuietHere reach w = c.is_quiet_from.ensures w reach c.classes_of-classes.ensures number c.if-is_quiet_from.true in
      subst (λ x. IsToldWord profile x k n Nothing) c.word.ensures (told_here profile w k n reach fits far two here),
)
