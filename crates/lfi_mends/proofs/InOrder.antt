-- LDAR and STLR, by x18.
use Rattle.std.proofs.Common.{◌≡◌, ℕ, ◌+◌, ◌%◌, ◌^◌, ◌<◌, Bool, false, List, ◌∷◌, [], length, refl, ap, sym, subst, ◌∙◌, arith, lit≤}
use Rattle.std.proofs.lemmas.Bool.{or_parts}
use Rattle.a64_word.specs.declared.instruction.Instruction.{Instruction}
use Rattle.a64_word.specs.declared.instruction.Instruction.TheVariants as instructions
use Rattle.a64_word.specs.declared.operands.Size.{Size}
use Rattle.a64_word.specs.Operands.{size_code}
use Rattle.a64_effects.specs.Effects.{is_store, ordered_transfer}
use Rattle.a64_semantics.specs.Registers.{x_at, x_or_sp_at}
use Rattle.lfi_mends.specs.Registers.{is_reserved}
use Rattle.lfi_mends.specs.Outcomes.{State, Agree, InSlot, DoesTheSame, after, after_all}
use Rattle.lfi_mends.specs.inner.Rows.{index_of, sums, guard_of, ordered_of, in_order}
use Rattle.lfi_mends.proofs.Standing.{unreserved}
use Rattle.lfi_mends.proofs.Same.{at_address, some_bytes}
use Rattle.lfi_mends.proofs.Beside.{agree_after}
use Rattle.lfi_mends.proofs.Summed.{reached, after_more}
use Rattle.lfi_mends.proofs.Paired.{Guarded, guarded_at}

pub at_none : (a : ℕ) → a < 18446744073709551616 → (a + 0) % 18446744073709551616 ≡ a
at_none a small = omega (arith, small)

pub small_reached : (b : ℕ) → reached false 0 b < 18446744073709551616
small_reached b = omega arith

-- An ordered access at x18 does what one does at the address that x18 holds.
by_guard : (size : Size) (load : Bool) (rt a : ℕ) (s s2 : State) → Guarded s2 s a → is_reserved rt ≡ false → length s.registers.x ≡ 31 → a < 18446744073709551616
    → Agree (after (ordered_of size load rt) s2) (at_address size (ordered_transfer load) rt s a)
by_guard size load rt a s s2 h free count small =
    let u = unreserved rt free in
    let r2 = s2.registers in
    let t = ordered_transfer load in
    let address : (x_at r2 18 + 0) % 18446744073709551616 ≡ a = ap (λ x. (x + 0) % 18446744073709551616) h.value ∙ at_none a small in
    let agree : Agree (record { registers = r2; memory = s.memory }) s = record {
      general = λ n below kept. let apart = or_parts _ _ kept in h.general n apart.0 apart.1;
      stack = h.stack;
      flags = h.flags;
      memory = λ place. refl;
    } in
    let same : Agree (at_address size t rt (record { registers = r2; memory = s.memory }) a) (at_address size t rt s a) =
    agree_after size t rt r2 s.registers s.memory a h.count count (h.general rt u.first_address u.offset) agree in
    let here : Agree (at_address size t rt (record { registers = r2; memory = s2.memory }) a) (at_address size t rt s a) =
    subst (λ m. Agree (at_address size t rt (record { registers = r2; memory = m }) a) (at_address size t rt s a)) (sym h.memory) same in
    subst (λ x. Agree (at_address size t rt s2 x) (at_address size t rt s a)) (sym address) here

pub ordered_same : (size : Size) (load : Bool) (rn rt : ℕ) (is : List Instruction) → is_reserved rt ≡ false → is ≡ in_order size load rt rn
    → DoesTheSame [] is (instructions.Ordered (record { size = size; load = load; rn = rn; rt = rt }))
ordered_same size load rn rt is free e s whole lies =
    let b = x_or_sp_at s.registers rn in
    let a = reached false 0 b in
    let refused = instructions.Ordered (record { size = size; load = load; rn = rn; rt = rt }) in
    let lie : InSlot s.registers (record { address = a; bytes = 2 ^ size_code size; stores = is_store (ordered_transfer load) }) = lies in
    let some = some_bytes size in
    let guarded = guarded_at rn false 0 s (lit≤ tt) whole lie.slot lie.base lie.room lie.first (omega (arith, lie.last, some)) in
    let core : Agree (after (ordered_of size load rt) (after (guard_of 18 (index_of 22 rn 0)) (after_all (sums 22 rn false 0) s))) (at_address size (ordered_transfer load) rt s a) =
    by_guard size load rt a s _ guarded free whole.count (small_reached b) in
    subst (λ l. Agree (after_all l s) (after refused s)) (sym e)
    (subst (λ t. Agree t (after refused s)) (sym (after_more (sums 22 rn false 0) (guard_of 18 (index_of 22 rn 0) ∷ ordered_of size load rt ∷ []) s)) core)
