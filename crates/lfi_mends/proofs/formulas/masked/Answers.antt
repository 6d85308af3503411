use Rattle.std.proofs.Common.{◌≡◌, ℕ, ◌⊎◌, inl, inr, true, false, refl, sym, subst}
use Rattle.a64_word.specs.declared.operands.Width.{Width}
use Rattle.a64_word.specs.declared.operands.Width.TheVariants as widths
use Rattle.a64_word.specs.Bitmask.{gives_mask}
use Rattle.lfi_mends.proofs.formulas.masked.Goals as goal

mask_legal : (width : Width) (imms : ℕ) → (imms ≡ 39) ⊎ (imms ≡ 15) → gives_mask width false imms ≡ true
unfolding lib.Count.count_leading_zeros
mask_legal widths.W imms (inl e) = subst (λ n. gives_mask widths.W false n ≡ true) (sym e) refl
mask_legal widths.X imms (inl e) = subst (λ n. gives_mask widths.X false n ≡ true) (sym e) refl
mask_legal widths.W imms (inr e) = subst (λ n. gives_mask widths.W false n ≡ true) (sym e) refl
mask_legal widths.X imms (inr e) = subst (λ n. gives_mask widths.X false n ≡ true) (sym e) refl

pub computing-requires-clause-legal : goal.computing-requires-clause-legal
computing-requires-clause-legal c = mask_legal c.args.width c.element.result c.element.ensures
