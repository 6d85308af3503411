-- What mends of single accesses do that change sp.
use Rattle.std.proofs.Common.{◌≡◌, ℕ, ◌+◌, ◌*◌, ◌%◌, ◌^◌, ◌<◌, ◌≤◌, eqb, eqb-true, Bool, true, false, List, [], ◌∷◌, length, Some, refl, ap, sym, subst, ◌∙◌, inl, inr, arith, lit≤}
use Rattle.std.specs.Prelude.{if◌then◌else◌, nat_lt, ℤ, is_some}
use Rattle.std.proofs.Math.Path.{fun_ext}
use Rattle.std.proofs.lemmas.Bool.{cases_Bool, ltb-true, ltb-false}
use Rattle.a64_word.specs.declared.instruction.Instruction.{Instruction}
use Rattle.a64_word.specs.declared.instruction.Instruction.TheVariants as instructions
use Rattle.a64_word.specs.declared.operands.Width.{Width}
use Rattle.a64_word.specs.declared.operands.Width.TheVariants as widths
use Rattle.a64_word.specs.declared.operands.Size.{Size}
use Rattle.a64_word.specs.declared.operands.Transfer.{Transfer}
use Rattle.a64_word.specs.declared.operands.IndexMode.TheVariants as modes
use Rattle.a64_word.specs.Operands.{size_code}
use Rattle.a64_effects.specs.Effects.{is_store, data_width, writes_of}
use Rattle.a64_effects.specs.Uses.{general, or_sp, width_in}
use Rattle.a64_semantics.specs.declared.registers.Registers.{Registers}
use Rattle.a64_semantics.specs.Registers.{x_at}
use Rattle.a64_semantics.specs.Accesses.{displaced, loaded, stored_by}
use Rattle.lfi_rules.specs.Rules.{writes}
use Rattle.lfi_mends.specs.Outcomes.{State, IsWhole, InSlot, after, after_all, with_bytes, written_at, bounded_in, probe, AgreeBounded, DoesTheSameBounded}
use Rattle.lfi_mends.specs.inner.Rows.{changed_of, offset_of, any_accessed, stack_changing}
use Rattle.lfi_mends.proofs.Same.{at_address}
use Rattle.lfi_mends.proofs.Beside.{put_same}
use Rattle.lfi_mends.proofs.Summed.{reached, after_more}
use Rattle.lfi_mends.proofs.Changed.{moved, moved_and_based, based, changing_at, small_base, displaced_by, reached_by, reached_small}
use Rattle.lfi_mends.proofs.Steps.{moved_stack}
use Rattle.lfi_mends.proofs.Bounded.{told, bounded_at}
use Rattle.lfi_mends.proofs.StoredPairs.{bytes_before, bytes_behind}

no_bytes : (a place : ℕ) (m : ℕ → ℕ) → with_bytes a [] m place ≡ m place
no_bytes a place m = elim (cases_Bool (nat_lt place a)) [
  | inl before ↦ bytes_before a place [] m (ltb-true place a before)
  | inr past_first ↦ let above = ltb-false place a past_first in bytes_behind a place [] m (omega (arith, above))
]

probed : (s : State) → (after probe s).memory ≡ s.memory
probed s = fun_ext (λ place. no_bytes ((s.registers.sp + 0) % 18446744073709551616) place s.memory)

-- one state is another with another sp
record StackMoved (s2 s : State) (c : ℕ) : Type 0 where
  general : (n : ℕ) → x_at s2.registers n ≡ x_at s.registers n
  length_same : length s2.registers.x ≡ length s.registers.x
  value : s2.registers.sp ≡ c
  flags : s2.registers.nzcv ≡ s.registers.nzcv
  memory : s2.memory ≡ s.memory

stack_moved_by : (below : Bool) (bytes : ℕ) (s : State) → bytes < 4096 → s.registers.sp < 18446744073709551616
    → StackMoved (after_all (changed_of below bytes 31 ∷ probe ∷ []) s) s (reached below bytes s.registers.sp)
stack_moved_by true bytes s fits small = record {
  general = λ n. refl;
  length_same = refl;
  value = reached_by true bytes s.registers.sp fits small;
  flags = refl;
  memory = probed (after (changed_of true bytes 31) s);
}
stack_moved_by false bytes s fits small = record {
  general = λ n. refl;
  length_same = refl;
  value = reached_by false bytes s.registers.sp fits small;
  flags = refl;
  memory = probed (after (changed_of false bytes 31) s);
}

-- a change of sp is none of the registers x0 to x30
same_writes : (store : Bool) (rt n : ℕ) (w : Width) → n < 31
    → is_some (width_in (if store then or_sp 31 widths.X [] else general rt w (or_sp 31 widths.X [])) n) ≡ is_some (width_in (if store then [] else general rt w []) n)
same_writes store rt n w below = let apart = no_31 n below in by_store store apart
  where
    no_31 : (n : ℕ) → n < 31 → eqb 31 n ≡ false
    no_31 n below = elim (cases_Bool (eqb 31 n)) [
      | inl same ↦ let e = eqb-true 31 n same in absurd (omega (arith, e, below))
      | inr other ↦ other
    ]

    by_store : (store : Bool) → eqb 31 n ≡ false
        → is_some (width_in (if store then or_sp 31 widths.X [] else general rt w (or_sp 31 widths.X [])) n) ≡ is_some (width_in (if store then [] else general rt w []) n)
    by_store true apart = rw apart refl
    by_store false apart = elim (cases_Bool (eqb rt 31)) [
      | inl zr ↦ rw (zr, apart) refl
      | inr other ↦ elim (cases_Bool (eqb rt n)) [
        | inl same ↦ rw (other, same) refl
        | inr unlike ↦ rw (other, unlike, apart) refl
      ]
    ]

-- what the refused access leaves
stack_x : (store : Bool) (w : Width) (rt v c n : ℕ) (r : Registers) → x_at (moved_and_based store w rt v 31 c r) n ≡ x_at (moved store w rt v r) n
stack_x store w rt v c n r = ap (λ q. x_at q n) (based store w rt v 31 c r)

stack_is : (store : Bool) (w : Width) (rt v c : ℕ) (r : Registers) → c < 18446744073709551616 → (moved_and_based store w rt v 31 c r).sp ≡ c
stack_is store w rt v c r small = ap (λ q. q.sp) (based store w rt v 31 c r) ∙ small_base c small

at_none : (a : ℕ) → a < 18446744073709551616 → (a + 0) % 18446744073709551616 ≡ a
at_none a small = omega (arith, small)

abbrev plainly : Size → Transfer → (rt : ℕ) → Instruction
plainly size transfer rt = instructions.UnsignedOffset (record { size = size; transfer = transfer; imm12 = 0; rn = 31; rt = rt })

-- A state that agrees with what an access leaves at an address, but for sp, agrees with what the access leaves that changes sp.
to_stack : (i : Instruction) (size : Size) (transfer : Transfer) (rt c a : ℕ) (s one s2 : State)
    → writes_of i ≡ (if is_store transfer then or_sp 31 widths.X [] else general rt (data_width size transfer) (or_sp 31 widths.X []))
    → AgreeBounded (plainly size transfer rt) (x_at s.registers 21) one (at_address size transfer rt s a) → ((n : ℕ) → x_at s2.registers n ≡ x_at one.registers n)
    → s2.registers.nzcv ≡ one.registers.nzcv → s2.memory ≡ one.memory → s2.registers.sp ≡ c → c < 18446744073709551616
    → AgreeBounded i (x_at s.registers 21) s2 (changing_at size transfer rt 31 c s a)
to_stack i size transfer rt c a s one s2 uses g same flags memory stack small =
    let store = is_store transfer in
    let w = data_width size transfer in
    let v = loaded s.memory size transfer a in
    let wrote : (n : ℕ) → n < 31 → writes i n ≡ writes (plainly size transfer rt) n =
    λ n below. told i n _ uses ∙ (same_writes store rt n w below ∙ sym (told (plainly size transfer rt) n (if is_store transfer then [] else general rt (data_width size transfer) []) refl)) in
    record {
      written = λ n below h. same n ∙ (g.written n below (sym (wrote n below) ∙ h) ∙ ap (bounded_in (x_at s.registers 21) n) (sym (stack_x store w rt v c n s.registers)));
      general = λ n below h spare. same n ∙ (g.general n below (sym (wrote n below) ∙ h) spare ∙ sym (stack_x store w rt v c n s.registers));
      stack = stack ∙ sym (stack_is store w rt v c s.registers small);
      flags = flags ∙ g.flags;
      memory = λ place. ap (λ (f : ℕ → ℕ). f place) memory ∙ g.memory place;
    }

pub post_stack : (size : Size) (transfer : Transfer) (imm9 : ℤ) (rt : ℕ) (below : Bool) (bytes : ℕ) (is : List Instruction) → offset_of below bytes ≡ imm9 → bytes < 4096
    → (below ≡ true → 1 ≤ bytes) → (is_store transfer ≡ false → eqb rt 21 ≡ false) → is ≡ stack_changing false size transfer rt 31 below bytes
    → DoesTheSameBounded [] is (instructions.SignedOffset (record { size = size; transfer = transfer; mode = modes.PostIndex; imm9 = imm9; rn = 31; rt = rt }))
post_stack size transfer imm9 rt below bytes is far fits some no_base e s whole lies =
    let refused = instructions.SignedOffset (record { size = size; transfer = transfer; mode = modes.PostIndex; imm9 = imm9; rn = 31; rt = rt }) in
    let r = s.registers in
    let x = r.sp in
    let c = reached below bytes x in
    let there : c ≡ displaced x imm9 = displaced_by below bytes x some ∙ ap (displaced x) far in
    let here : reached false 0 x ≡ x = at_none x whole.stack in
    let lie = subst (λ a. InSlot r (record { address = a; bytes = 2 ^ size_code size; stores = is_store transfer })) (sym here) lies in
    let g0 = bounded_at (plainly size transfer rt) size transfer rt 31 false 0 s refl (lit≤ tt) no_base whole lie in
    let s1 = after_all (any_accessed size transfer rt 31 false 0) s in
    let g : AgreeBounded (plainly size transfer rt) (x_at r 21) s1 (at_address size transfer rt s x) = subst (λ a. AgreeBounded (plainly size transfer rt) (x_at r 21) s1 (at_address size transfer rt s a)) here g0 in
    let kept : s1.registers.sp ≡ x = g.stack ∙ moved_stack (is_store transfer) (data_width size transfer) rt (loaded s.memory size transfer x) r in
    let m = stack_moved_by below bytes s1 fits (subst (λ q. q < 18446744073709551616) (sym kept) whole.stack) in
    let s2 = after_all (changed_of below bytes 31 ∷ probe ∷ []) s1 in
    let core = to_stack refused size transfer rt c x s s1 s2 refl g m.general m.flags m.memory (m.value ∙ ap (reached below bytes) kept) (reached_small below bytes x) in
    subst (λ l. AgreeBounded refused (x_at r 21) (after_all l s) (after refused s)) (sym e)
    (subst (λ t. AgreeBounded refused (x_at r 21) t (after refused s)) (sym (after_more (any_accessed size transfer rt 31 false 0) (changed_of below bytes 31 ∷ probe ∷ []) s))
    (subst (λ d. AgreeBounded refused (x_at r 21) s2 (changing_at size transfer rt 31 d s x)) there core))

-- An access at an address doesn't depend on sp.
whole_moved : (s1 s : State) (c : ℕ) → IsWhole s.registers → StackMoved s1 s c → c < 18446744073709551616 → IsWhole s1.registers
whole_moved s1 s c whole m small = record {
  count = m.length_same ∙ whole.count;
  fit = λ n. subst (λ v. v < 18446744073709551616) (sym (m.general n)) (whole.fit n);
  stack = subst (λ v. v < 18446744073709551616) (sym m.value) small;
}

at_address_moved : (size : Size) (transfer : Transfer) (rt c a : ℕ) (s s1 : State) → IsWhole s.registers → StackMoved s1 s c → (n : ℕ) → n < 31 → x_at (at_address size transfer rt s1 a).registers n ≡ x_at (at_address size transfer rt s a).registers n
at_address_moved size transfer rt c a s s1 whole m n below =
    let store = is_store transfer in
    let w = data_width size transfer in
    let lengths : length s1.registers.x ≡ length s.registers.x = m.length_same in
    let inside : n < length s1.registers.x = subst (λ l. n < l) (sym (m.length_same ∙ whole.count)) below in
    ap (λ (f : ℕ → ℕ). x_at (moved store w rt (loaded f size transfer a) s1.registers) n) m.memory
    ∙ put_same store rt n (loaded s.memory size transfer a) w s1.registers s.registers lengths inside (m.general n)

pub pre_stack : (size : Size) (transfer : Transfer) (imm9 : ℤ) (rt : ℕ) (below : Bool) (bytes : ℕ) (is : List Instruction) → offset_of below bytes ≡ imm9 → bytes < 4096
    → (below ≡ true → 1 ≤ bytes) → (is_store transfer ≡ false → eqb rt 21 ≡ false) → is ≡ stack_changing true size transfer rt 31 below bytes
    → DoesTheSameBounded [] is (instructions.SignedOffset (record { size = size; transfer = transfer; mode = modes.PreIndex; imm9 = imm9; rn = 31; rt = rt }))
pre_stack size transfer imm9 rt below bytes is far fits some no_base e s whole lies =
    let refused = instructions.SignedOffset (record { size = size; transfer = transfer; mode = modes.PreIndex; imm9 = imm9; rn = 31; rt = rt }) in
    let r = s.registers in
    let x = r.sp in
    let store = is_store transfer in
    let c = reached below bytes x in
    let there : c ≡ displaced x imm9 = displaced_by below bytes x some ∙ ap (displaced x) far in
    let lie : InSlot r (record { address = c; bytes = 2 ^ size_code size; stores = store }) =
    subst (λ a. InSlot r (record { address = a; bytes = 2 ^ size_code size; stores = store })) (sym there) lies in
    let m = stack_moved_by below bytes s fits whole.stack in
    let s1 = after_all (changed_of below bytes 31 ∷ probe ∷ []) s in
    let small = reached_small below bytes x in
    let here : reached false 0 s1.registers.sp ≡ c = ap (reached false 0) m.value ∙ at_none c small in
    let lie1 : InSlot s1.registers (record { address = reached false 0 s1.registers.sp; bytes = 2 ^ size_code size; stores = store }) = record {
      slot = lie.slot;
      base = m.general 21 ∙ lie.base;
      room = lie.room;
      first = subst (λ q. lie.slot * 4294967296 ≤ q) (sym here) lie.first;
      last = subst (λ q. q + 2 ^ size_code size ≤ (lie.slot + 1) * 4294967296) (sym here) lie.last;
    } in
    let g0 = bounded_at (plainly size transfer rt) size transfer rt 31 false 0 s1 refl (lit≤ tt) no_base (whole_moved s1 s c whole m small) lie1 in
    let s2 = after_all (any_accessed size transfer rt 31 false 0) s1 in
    let g1 : AgreeBounded (plainly size transfer rt) (x_at s1.registers 21) s2 (at_address size transfer rt s1 c) = subst (λ a. AgreeBounded (plainly size transfer rt) (x_at s1.registers 21) s2 (at_address size transfer rt s1 a)) here g0 in
    let same = at_address_moved size transfer rt c c s s1 whole m in
    let w = data_width size transfer in
    let v = loaded s.memory size transfer c in
    let meant = changing_at size transfer rt 31 c s c in
    let wrote : (n : ℕ) → n < 31 → writes refused n ≡ writes (plainly size transfer rt) n =
    λ n below_n. told refused n (if store then or_sp 31 widths.X [] else general rt w (or_sp 31 widths.X [])) refl ∙ (same_writes store rt n w below_n ∙ sym (told (plainly size transfer rt) n (if is_store transfer then [] else general rt (data_width size transfer) []) refl)) in
    let mean : (n : ℕ) → n < 31 → x_at (at_address size transfer rt s1 c).registers n ≡ x_at meant.registers n = λ n below_n. same n below_n ∙ sym (stack_x store w rt v c n r) in
    let core : AgreeBounded refused (x_at r 21) s2 meant = record {
      written = λ n below_n h. g1.written n below_n (sym (wrote n below_n) ∙ h)
          ∙ (ap (λ b. bounded_in b n (x_at (at_address size transfer rt s1 c).registers n)) (m.general 21) ∙ ap (bounded_in (x_at r 21) n) (mean n below_n));
      general = λ n below_n h spare. g1.general n below_n (sym (wrote n below_n) ∙ h) spare ∙ mean n below_n;
      stack = g1.stack ∙ (moved_stack store w rt (loaded s1.memory size transfer c) s1.registers ∙ (m.value ∙ sym (stack_is store w rt v c r small)));
      flags = g1.flags ∙ m.flags;
      memory = λ place. g1.memory place
          ∙ (ap (λ (f : ℕ → ℕ). written_at (Some (record { address = c; bytes = 2 ^ size_code size; stores = store })) (stored_by size transfer (x_at s1.registers rt)) f place) m.memory
          ∙ ap (λ q. written_at (Some (record { address = c; bytes = 2 ^ size_code size; stores = store })) (stored_by size transfer q) s.memory place) (m.general rt));
    } in
    subst (λ l. AgreeBounded refused (x_at r 21) (after_all l s) (after refused s)) (sym e)
    (subst (λ d. AgreeBounded refused (x_at r 21) s2 (changing_at size transfer rt 31 d s d)) there core)
