-- A shift by 0 changes nothing.
use Rattle.std.proofs.Common.{◌≡◌, ℕ, ◌+◌, ◌*◌, ◌/◌, ◌%◌, ◌^◌, ◌<◌, ap, sym, ◌∙◌, arith}
use Rattle.std.proofs.lemmas.Int.{of_z-to_z}
use Rattle.std.specs.Prelude.{ℤ, pos, negsuc}
use Rattle.std.specs.Int.{cast_signed, cast_unsigned, int_shr, w32, w64}
use Rattle.a64_word.specs.declared.operands.Width.{Width}
use Rattle.a64_word.specs.declared.operands.Width.TheVariants as widths
use Rattle.a64_word.specs.declared.operands.Shift.{Shift}
use Rattle.a64_word.specs.declared.operands.Shift.TheVariants as shifts
use Rattle.a64_word.specs.Operands.{data_size}
use Rattle.a64_semantics.specs.Shifts.{shifted}

no_part : (x d : ℕ) → x / 2 ^ 0 + x % 2 ^ 0 * 2 ^ d ≡ x
no_part x d =
    let nothing : x % 2 ^ 0 ≡ 0 = omega arith in
    ap (λ r. x / 2 ^ 0 + r * 2 ^ d) nothing ∙ omega arith

whole : (z : ℤ) → int_shr z 0 ≡ z
whole (pos n) = ap pos (omega arith)
whole (negsuc n) = ap negsuc (omega arith)

pub unshifted : (width : Width) (shift : Shift) (x : ℕ) → x < 2 ^ data_size width → x ≡ shifted width shift x 0
unshifted widths.W shifts.Lsl x h = omega arith
unshifted widths.W shifts.Lsr x h = omega arith
unshifted widths.W shifts.Asr x h = sym (ap (cast_unsigned w32) (whole (cast_signed w32 x)) ∙ of_z-to_z w32 x h)
unshifted widths.W shifts.Ror x h = omega (arith, no_part x 32)
unshifted widths.X shifts.Lsl x h = omega arith
unshifted widths.X shifts.Lsr x h = omega arith
unshifted widths.X shifts.Asr x h = sym (ap (cast_unsigned w64) (whole (cast_signed w64 x)) ∙ of_z-to_z w64 x h)
unshifted widths.X shifts.Ror x h = omega (arith, no_part x 64)
