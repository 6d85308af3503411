-- Of a W form the extended operand is the low half of what an X form has.
use Rattle.std.proofs.Common.{◌≡◌, ℕ, ◌*◌, ◌%◌, ◌^◌, refl, sym, ap, ◌∙◌, arith}
use Rattle.std.proofs.lemmas.Int.{ints}
use Rattle.std.proofs.lemmas.Nat.{mul-mod_first}
use Rattle.a64_word.specs.declared.operands.Width.{Width}
use Rattle.a64_word.specs.declared.operands.Width.TheVariants as widths
use Rattle.a64_word.specs.declared.operands.Extend.{Extend}
use Rattle.a64_word.specs.declared.operands.Extend.TheVariants as extends
use Rattle.a64_semantics.specs.Numbers.{operand}
use Rattle.a64_semantics.specs.Shifts.{extended, extended_operand}

low_half : (extend : Extend) (held : ℕ) → extended widths.X extend held % 2 ^ 32 ≡ extended widths.W extend held
low_half extends.Uxtb held = omega arith
low_half extends.Uxth held = omega arith
low_half extends.Uxtw held = omega arith
low_half extends.Uxtx held = refl
low_half extends.Sxtb held = omega (arith, ints)
low_half extends.Sxth held = omega (arith, ints)
low_half extends.Sxtw held = omega (arith, ints)
low_half extends.Sxtx held = refl

halved : (n : ℕ) → n % 2 ^ 64 % 2 ^ 32 ≡ n % 2 ^ 32
halved n = omega arith

pub operand_of_shifted : (width : Width) (extend : Extend) (held by : ℕ)
    → operand width (extended widths.X extend held * 2 ^ by % 2 ^ 64) ≡ extended_operand width extend held by
operand_of_shifted widths.W extend held by =
    halved (extended widths.X extend held * 2 ^ by) ∙ sym (mul-mod_first (extended widths.X extend held) (2 ^ by) (2 ^ 32))
    ∙ ap (λ x. x * 2 ^ by % 2 ^ 32) (low_half extend held)
operand_of_shifted widths.X extend held by = refl
