-- One access after another state, which agrees but for scratch registers.
use Rattle.std.proofs.Common.{◌≡◌, ℕ, ◌<◌, eqb, Bool, true, false, [], length, refl, sym, subst, ◌∙◌, inl, inr}
use mathlib.Core.Logic.{dite}
use native.Mathlib.Decide.{ℕ_discrete}
use Rattle.std.specs.Prelude.{if◌then◌else◌, not}
use Rattle.std.proofs.lemmas.Bool.{cases_Bool, and_parts, not-true}
use Rattle.std.proofs.lemmas.List.{get_or-set_other}
use Rattle.std.proofs.lemmas.Grind.{get_or-set_at}
use Rattle.a64_word.specs.declared.operands.Width.{Width}
use Rattle.a64_word.specs.declared.operands.Size.{Size}
use Rattle.a64_word.specs.declared.operands.Transfer.{Transfer}
use Rattle.a64_effects.specs.Effects.{is_store}
use Rattle.a64_semantics.specs.declared.registers.Registers.{Registers}
use Rattle.a64_semantics.specs.Registers.{x_at, put_all, to_general}
use Rattle.lfi_mends.specs.Outcomes.{Agree, moves_itself}
use Rattle.lfi_mends.specs.Registers.{may_move}
use Rattle.lfi_mends.proofs.Same.{at_address}

pub put_same : (b : Bool) (rt n value : ℕ) (width : Width) (one two : Registers) → length one.x ≡ length two.x → n < length one.x → x_at one n ≡ x_at two n
    → x_at (put_all (if b then [] else to_general rt width value []) one) n ≡ x_at (put_all (if b then [] else to_general rt width value []) two) n
put_same true rt n value width one two lengths below e = e
put_same false rt n value width one two lengths below e = elim (cases_Bool (eqb rt 31)) [
  | inl zr ↦ rw zr e
  | inr other ↦ rw (other, other) (dite (ℕ_discrete n rt)
      (λ here. get_or-set_at one.x rt n _ 0 here (subst (λ i. i < length one.x) here below)
      ∙ sym (get_or-set_at two.x rt n _ 0 here (subst (λ l. rt < l) lengths (subst (λ i. i < length one.x) here below))))
      (λ there. get_or-set_other one.x rt n _ 0 there ∙ (e ∙ sym (get_or-set_other two.x rt n _ 0 there))))
]

pub put_stack : (b : Bool) (rt value : ℕ) (width : Width) (one two : Registers) → one.sp ≡ two.sp
    → (put_all (if b then [] else to_general rt width value []) one).sp ≡ (put_all (if b then [] else to_general rt width value []) two).sp
put_stack true rt value width one two e = e
put_stack false rt value width one two e = elim (cases_Bool (eqb rt 31)) [
  | inl zr ↦ rw zr e
  | inr other ↦ rw (other, other) e
]

-- The same single access, of registers that agree and of the same bytes, by a data register that is the same in both.
pub agree_after : (size : Size) (transfer : Transfer) (rt : ℕ) (one two : Registers) (memory : ℕ → ℕ) (a : ℕ) → length one.x ≡ 31 → length two.x ≡ 31 → x_at one rt ≡ x_at two rt
    → Agree (record { registers = one; memory = memory }) (record { registers = two; memory = memory })
    → Agree (at_address size transfer rt (record { registers = one; memory = memory }) a) (at_address size transfer rt (record { registers = two; memory = memory }) a)
agree_after size transfer rt one two memory a first second same h = record {
  general = λ n below kept. put_same (is_store transfer) rt n _ _ one two (first ∙ sym second) (subst (λ l. n < l) (sym first) below) (h.general n below kept);
  stack = put_stack (is_store transfer) rt _ _ one two h.stack;
  flags = h.flags;
  memory = λ place. rw same refl;
}

-- The register that such an access moves isn't x22.
pub no_offset : (transfer : Transfer) (rt : ℕ) → moves_itself transfer rt ≡ true → eqb rt 22 ≡ false
no_offset transfer rt h = not-true (eqb rt 22) (and_parts (may_move transfer rt) (not (eqb rt 22)) h).1
