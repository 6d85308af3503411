-- What mends of LDAR and STLR of any register do.
use Rattle.std.proofs.Common.{◌≡◌, ℕ, ◌+◌, ◌*◌, ◌%◌, ◌^◌, ◌<◌, ◌≤◌, eqb, eqb-true, Bool, true, false, List, ◌∷◌, [], length, Some, refl, ap, sym, subst, ◌∙◌, inl, inr, arith, lit≤, true≢false}
use Rattle.std.specs.Prelude.{not, ◌&&◌, if◌then◌else◌}
use mathlib.Core.Logic.{dite}
use native.Mathlib.Decide.{ℕ_discrete}
use Rattle.std.proofs.lemmas.Bool.{cases_Bool, eqb-false, and_parts, or_parts}
use Rattle.std.proofs.lemmas.List.{get_or-set_other, get_or_past, length-set}
use Rattle.std.proofs.lemmas.Grind.{get_or-set_at}
use Rattle.std.specs.Int.Bits.{bit_or, or_zero_l}
use Rattle.a64_word.specs.declared.instruction.Instruction.{Instruction}
use Rattle.a64_word.specs.declared.instruction.Instruction.TheVariants as instructions
use Rattle.a64_word.specs.declared.operands.Width.TheVariants as widths
use Rattle.a64_word.specs.declared.operands.Size.{Size}
use Rattle.a64_word.specs.declared.operands.Size.TheVariants as sizes
use Rattle.a64_word.specs.declared.operands.Transfer.TheVariants as transfers
use Rattle.a64_word.specs.Operands.{size_code}
use Rattle.a64_effects.specs.Effects.{is_store, data_width, ordered_transfer}
use Rattle.a64_effects.specs.Uses.{general}
use Rattle.a64_semantics.specs.Registers.{x_at, x_or_sp_at, low_bits}
use Rattle.a64_semantics.specs.Accesses.{loaded, stored_by}
use Rattle.lfi_mends.specs.Registers.{is_reserved}
use Rattle.lfi_mends.specs.Obstacles.{is_double}
use Rattle.lfi_mends.specs.Outcomes.{State, IsWhole, InSlot, DoesTheSameBounded, AgreeBounded, after, after_all, written_at, bounded_in, is_scratch}
use Rattle.lfi_mends.specs.inner.Rows.{index_of, sums, guard_of, ordered_of, in_order, in_order_reserved, move_of, scratch_of}
use Rattle.lfi_mends.proofs.Standing.{unreserved}
use Rattle.lfi_mends.proofs.Same.{at_address}
use Rattle.lfi_mends.proofs.Summed.{reached, after_more}
use Rattle.lfi_mends.proofs.Paired.{guarded_at}
use Rattle.lfi_mends.proofs.InOrder.{ordered_same, at_none, small_reached}
use Rattle.lfi_mends.proofs.Steps.{Sets, no_stack, unbounded, moved_here, moved_other, moved_stack, link_moved}
use Rattle.lfi_mends.proofs.Bounded.{told, one_written, none_written, is_spare, scratch_is, slot_after, slot_of}

-- ---- of a register that isn't reserved
free_bounded : (size : Size) (load : Bool) (rn rt : ℕ) (is : List Instruction) → is_reserved rt ≡ false → is ≡ in_order size load rt rn
    → DoesTheSameBounded [] is (instructions.Ordered (record { size = size; load = load; rn = rn; rt = rt }))
free_bounded size load rn rt is free e s whole lies =
    let i = instructions.Ordered (record { size = size; load = load; rn = rn; rt = rt }) in
    let t = ordered_transfer load in
    let w = data_width size t in
    let g = ordered_same size load rn rt is free e s whole lies in
    let u = unreserved rt free in
    let base = x_at s.registers 21 in
    record {
      written = λ n below h.
          let which = one_written (is_store t) rt n w below (sym (told i n (if is_store t then [] else general rt w []) refl) ∙ h) in
          let kept : is_scratch n ≡ false = subst (λ k. is_scratch k ≡ false) (sym which.1) (rw (u.first_address, u.offset) refl) in
          g.general n below kept ∙ sym (unbounded base n (x_at (after i s).registers n) (subst (λ k. is_reserved k ≡ false) (sym which.1) free));
      general = λ n below h spare. g.general n below (or_parts _ _ (or_parts _ _ spare).0).0;
      stack = g.stack;
      flags = g.flags;
      memory = g.memory;
    }

-- ---- of a reserved one that is stored
moved_value : (none x : ℕ) → none ≡ 0 → x < 18446744073709551616
    → bit_or none (x * 1 % 18446744073709551616) % 18446744073709551616 ≡ x
moved_value none x e small =
    let y = x * 1 % 18446744073709551616 in
    ap (λ b. bit_or b y % 18446744073709551616) e ∙ (ap (λ b. b % 18446744073709551616) (or_zero_l y) ∙ omega (arith, small))

move_sets : (rd rm : ℕ) (s : State) → length s.registers.x ≡ 31 → rd < 31 → x_at s.registers rm < 18446744073709551616
    → Sets (after (move_of rd rm) s) s rd (x_at s.registers rm)
move_sets rd rm s count below small = let other = no_stack rd below in rw (other, other) (record {
  general = λ n apart. get_or-set_other s.registers.x rd n _ 0 apart;
  value = get_or-set_at s.registers.x rd rd _ 0 refl (subst (λ l. rd < l) (sym count) below)
      ∙ moved_value (x_at s.registers 31) (x_at s.registers rm) (get_or_past s.registers.x 31 0 (omega (arith, count))) small;
  stack = refl;
  flags = refl;
  count = length-set s.registers.x rd _ ∙ count;
  memory = refl;
})

whole_after : (s1 s : State) (rd rm : ℕ) → IsWhole s.registers → Sets s1 s rd (x_at s.registers rm) → IsWhole s1.registers
whole_after s1 s rd rm whole g = record {
  count = g.count;
  fit = λ n. dite (ℕ_discrete n rd)
      (λ here. subst (λ v. v < 18446744073709551616) (sym (ap (λ k. x_at s1.registers k) here ∙ g.value)) (whole.fit rm))
      (λ there. subst (λ v. v < 18446744073709551616) (sym (g.general n there)) (whole.fit n));
  stack = subst (λ v. v < 18446744073709551616) (sym g.stack) whole.stack;
}

same_operand : (s1 s : State) (n : ℕ) → x_at s1.registers n ≡ x_at s.registers n → s1.registers.sp ≡ s.registers.sp → x_or_sp_at s1.registers n ≡ x_or_sp_at s.registers n
same_operand s1 s n e stack = elim (cases_Bool (eqb n 31)) [
  | inl sp ↦ rw sp stack
  | inr other ↦ rw other e
]

stored_bounded : (size : Size) (rn rt : ℕ) (is : List Instruction) → is ≡ in_order_reserved size false rt rn
    → DoesTheSameBounded [] is (instructions.Ordered (record { size = size; load = false; rn = rn; rt = rt }))
stored_bounded size rn rt is e s whole lies =
    let i = instructions.Ordered (record { size = size; load = false; rn = rn; rt = rt }) in
    let r = s.registers in
    let scratch = scratch_of rn in
    let known = scratch_is rn in
    let g = move_sets scratch rt s whole.count known.below (whole.fit rt) in
    let s1 = after (move_of scratch rt) s in
    let b = x_or_sp_at r rn in
    let same : x_or_sp_at s1.registers rn ≡ b = same_operand s1 s rn (g.general rn known.apart) g.stack in
    let lie : InSlot r (record { address = reached false 0 b; bytes = 2 ^ size_code size; stores = true }) = lies in
    let base : x_at s1.registers 21 ≡ x_at r 21 = g.general 21 (λ q. eqb-false scratch 21 (unreserved scratch known.free).base (sym q)) in
    let lies1 : InSlot s1.registers (record { address = reached false 0 (x_or_sp_at s1.registers rn); bytes = 2 ^ size_code size; stores = true }) = record {
      slot = lie.slot;
      base = base ∙ lie.base;
      room = lie.room;
      first = subst (λ q. lie.slot * 4294967296 ≤ reached false 0 q) (sym same) lie.first;
      last = subst (λ q. reached false 0 q + 2 ^ size_code size ≤ (lie.slot + 1) * 4294967296) (sym same) lie.last;
    } in
    let h = ordered_same size false rn scratch (in_order size false scratch rn) known.free refl s1 (whole_after s1 s scratch rt whole g) lies1 in
    let core : AgreeBounded i (x_at r 21) (after_all (in_order size false scratch rn) s1) (after i s) = record {
      written = λ n below hw. absurd (true≢false (one_written true rt n (data_width size transfers.Store) below (sym (told i n [] refl) ∙ hw)).0);
      general = λ n below hw spare. h.general n below (or_parts _ _ (or_parts _ _ spare).0).0 ∙ g.general n (known.working n spare);
      stack = h.stack ∙ g.stack;
      flags = h.flags ∙ g.flags;
      memory = λ place. h.memory place
          ∙ (ap (λ q. written_at (Some (record { address = reached false 0 q; bytes = 2 ^ size_code size; stores = true })) (stored_by size transfers.Store (x_at s1.registers scratch)) s1.memory place) same
          ∙ (ap (λ v. written_at (Some (record { address = reached false 0 b; bytes = 2 ^ size_code size; stores = true })) (stored_by size transfers.Store v) s1.memory place) g.value
          ∙ ap (λ (f : ℕ → ℕ). written_at (Some (record { address = reached false 0 b; bytes = 2 ^ size_code size; stores = true })) (stored_by size transfers.Store (x_at r rt)) f place) g.memory));
    } in
    subst (λ l. AgreeBounded i (x_at r 21) (after_all l s) (after i s)) (sym e) core

-- ---- of x30, which is loaded
link_bounded : (rn : ℕ) (is : List Instruction) → is ≡ in_order_reserved sizes.Double true 30 rn
    → DoesTheSameBounded [] is (instructions.Ordered (record { size = sizes.Double; load = true; rn = rn; rt = 30 }))
link_bounded rn is e s whole lies =
    let i = instructions.Ordered (record { size = sizes.Double; load = true; rn = rn; rt = 30 }) in
    let r = s.registers in
    let base = x_at r 21 in
    let b = x_or_sp_at r rn in
    let a = reached false 0 b in
    let lie : InSlot r (record { address = a; bytes = 8; stores = false }) = lies in
    let first = sums 22 rn false 0 in
    let s1 = after (guard_of 18 (index_of 22 rn 0)) (after_all first s) in
    let g = guarded_at rn false 0 s (lit≤ tt) whole lie.slot lie.base lie.room lie.first (omega (arith, lie.last)) in
    let base1 : x_at s1.registers 21 ≡ base = g.general 21 refl refl in
    let h = slot_of s a 8 false whole lie in
    let m = link_moved 16 a s1 (slot_after s1 s h base1 g.count) in
    let s2 = after (guard_of 30 30) (at_address sizes.Double transfers.Load 30 s1 a) in
    let v = loaded s.memory sizes.Double transfers.Load a in
    let address : (x_at s1.registers 18 + 0) % 18446744073709551616 ≡ a = ap (λ x. (x + 0) % 18446744073709551616) g.value ∙ at_none a (small_reached b) in
    let core : AgreeBounded i base s2 (at_address sizes.Double transfers.Load 30 s a) = record {
      written = λ n below hw.
          let is_30 = (one_written false 30 n widths.X below (sym (told i n (general 30 widths.X []) refl) ∙ hw)).1 in
          let mine : x_at s2.registers 30 ≡ bounded_in base 30 (low_bits widths.X v) =
          m.value refl (lit≤ tt) ∙ (ap (λ q. bounded_in q 30 (low_bits widths.X (loaded s1.memory sizes.Double transfers.Load a))) base1
          ∙ ap (λ (f : ℕ → ℕ). bounded_in base 30 (low_bits widths.X (loaded f sizes.Double transfers.Load a))) g.memory) in
          let theirs : x_at (at_address sizes.Double transfers.Load 30 s a).registers 30 ≡ low_bits widths.X v = moved_here false widths.X 30 v r refl (lit≤ tt) whole.count in
          subst (λ k. x_at s2.registers k ≡ bounded_in base k (x_at (at_address sizes.Double transfers.Load 30 s a).registers k)) (sym is_30) (mine ∙ ap (bounded_in base 30) (sym theirs));
      general = λ n below hw spare.
          let apart = none_written false 30 n widths.X below (sym (told i n (general 30 widths.X []) refl) ∙ hw) refl in
          let two = or_parts _ _ (or_parts _ _ (or_parts _ _ spare).0).0 in
          m.general n (is_spare n spare).2 (λ load. apart) ∙ (g.general n two.0 two.1 ∙ sym (moved_other false widths.X 30 v n r (λ load. apart)));
      stack = m.stack ∙ (g.stack ∙ sym (moved_stack false widths.X 30 v r));
      flags = m.flags ∙ g.flags;
      memory = λ place. ap (λ (f : ℕ → ℕ). f place) m.memory
          ∙ ap (λ (f : ℕ → ℕ). written_at (Some (record { address = a; bytes = 8; stores = false })) [] f place) g.memory;
    } in
    let there : AgreeBounded i base (after (guard_of 30 30) (after (ordered_of sizes.Double true 30) s1)) (after i s) =
    subst (λ x. AgreeBounded i base (after (guard_of 30 30) (at_address sizes.Double transfers.Load 30 s1 x)) (at_address sizes.Double transfers.Load 30 s a)) (sym address) core in
    subst (λ l. AgreeBounded i base (after_all l s) (after i s)) (sym e)
    (subst (λ t. AgreeBounded i base t (after i s)) (sym (after_more first (guard_of 18 (index_of 22 rn 0) ∷ ordered_of sizes.Double true 30 ∷ guard_of 30 30 ∷ []) s)) there)

-- what is known of a reserved register that is loaded
is_link : (size : Size) (rt : ℕ) → not (eqb rt 30 && is_double size) ≡ false → (rt ≡ 30) × (size ≡ sizes.Double)
is_link sizes.Double rt h = let both = and_parts (eqb rt 30) true (not_false (eqb rt 30 && true) h) in (eqb-true rt 30 both.0, refl)
  where
    not_false : (q : Bool) → not q ≡ false → q ≡ true
    not_false true h = refl
    not_false false h = absurd (true≢false h)
is_link sizes.Byte rt h = absurd (no_double (eqb rt 30) h)
  where
    no_double : (q : Bool) → not (q && false) ≡ false → ⊥
    no_double true h = true≢false h
    no_double false h = true≢false h
is_link sizes.Half rt h = absurd (no_double (eqb rt 30) h)
  where
    no_double : (q : Bool) → not (q && false) ≡ false → ⊥
    no_double true h = true≢false h
    no_double false h = true≢false h
is_link sizes.Word rt h = absurd (no_double (eqb rt 30) h)
  where
    no_double : (q : Bool) → not (q && false) ≡ false → ⊥
    no_double true h = true≢false h
    no_double false h = true≢false h

reserved_bounded : (size : Size) (load : Bool) (rn rt : ℕ) (is : List Instruction) → (load ≡ true → (rt ≡ 30) × (size ≡ sizes.Double)) → is ≡ in_order_reserved size load rt rn
    → DoesTheSameBounded [] is (instructions.Ordered (record { size = size; load = load; rn = rn; rt = rt }))
reserved_bounded size false rn rt is link e = stored_bounded size rn rt is e
reserved_bounded size true rn rt is link e =
    let which = link refl in
    subst (λ k. DoesTheSameBounded [] is (instructions.Ordered (record { size = k; load = true; rn = rn; rt = rt }))) (sym which.1)
    (subst (λ k. DoesTheSameBounded [] is (instructions.Ordered (record { size = sizes.Double; load = true; rn = rn; rt = k }))) (sym which.0) (link_bounded rn is e))

pub ordered_bounded : (size : Size) (load : Bool) (rn rt : ℕ) (is : List Instruction) → (load && is_reserved rt && not (eqb rt 30 && is_double size)) ≡ false
    → (is_reserved rt ≡ false → is ≡ in_order size load rt rn) → (is_reserved rt ≡ true → is ≡ in_order_reserved size load rt rn)
    → DoesTheSameBounded [] is (instructions.Ordered (record { size = size; load = load; rn = rn; rt = rt }))
ordered_bounded size load rn rt is loads free reserved = elim (cases_Bool (is_reserved rt)) [
  | inl is_one ↦ reserved_bounded size load rn rt is (λ l. is_link size rt (rw (l, is_one) at loads)) (reserved is_one)
  | inr none ↦ free_bounded size load rn rt is none (free none)
]
