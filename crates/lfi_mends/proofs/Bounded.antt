-- What mends of single accesses of any register do.
use Rattle.std.proofs.Common.{◌≡◌, ◌≢◌, ℕ, ◌+◌, ◌*◌, ◌%◌, ◌^◌, ◌<◌, ◌≤◌, eqb, eqb-true, Bool, true, false, List, [], length, Some, refl, ap, sym, subst, ◌∙◌, inl, inr, arith, lit≤, true≢false}
use Rattle.std.specs.Prelude.{if◌then◌else◌, not, ◌&&◌, ◌⊎◌, ℤ, is_some}
use Rattle.std.proofs.lemmas.Bool.{cases_Bool, eqb-false, and_parts, or_parts, not-true}
use Rattle.a64_word.specs.declared.instruction.Instruction.{Instruction}
use Rattle.a64_word.specs.declared.instruction.Instruction.TheVariants as instructions
use Rattle.a64_word.specs.declared.operands.Width.{Width}
use Rattle.a64_word.specs.declared.operands.Width.TheVariants as widths
use Rattle.a64_word.specs.declared.operands.Size.{Size}
use Rattle.a64_word.specs.declared.operands.Transfer.{Transfer}
use Rattle.a64_word.specs.declared.operands.IndexMode.TheVariants as modes
use Rattle.a64_word.specs.declared.operands.IndexExtend.{IndexExtend}
use Rattle.a64_word.specs.Operands.{size_code}
use Rattle.a64_effects.specs.Effects.{is_store, data_width, writes_of}
use Rattle.a64_effects.specs.Uses.{Use, general, or_sp, width_in}
use Rattle.a64_semantics.specs.Registers.{x_at, x_or_sp_at, low_bits}
use Rattle.a64_semantics.specs.Accesses.{displaced, extended_index, loaded, stored_by}
use Rattle.lfi_rules.specs.Rules.{writes, written}
use Rattle.lfi_mends.specs.Registers.{is_reserved}
use Rattle.lfi_mends.specs.Obstacles.{of_single}
use Rattle.lfi_mends.specs.Outcomes.{State, IsWhole, InSlot, after, after_all, written_at, bounded_in, is_working, AgreeBounded, DoesTheSameBounded}
use Rattle.lfi_mends.specs.inner.Rows.{is_bare, index_of, sums, scratch_of, sum_for, sum_beside, access_with, any_accessed, any_indexed, offset_of, amount_of, sum_of_index}
use Rattle.lfi_mends.proofs.Addresses.{same_address}
use Rattle.lfi_mends.proofs.Same.{at_address, some_bytes}
use Rattle.lfi_mends.proofs.Summed.{reached, reached_none, moved_in_slot, after_more, index_low, index_in_slot}
use Rattle.lfi_mends.proofs.Changed.{displaced_by}
use Rattle.lfi_mends.proofs.Steps.{Sets, HasSlot, Moved, sums_set, index_sum_sets, moved_here, moved_other, moved_stack, access_moved}

-- ---- what an access writes
pub told : (i : Instruction) (n : ℕ) (uses : List Use) → writes_of i ≡ uses → writes i n ≡ is_some (width_in uses n)
unfolding written
told i n uses e = ap (λ u. is_some (width_in u n)) e

pub no_number_31 : (n : ℕ) → n < 31 → eqb n 31 ≡ false
no_number_31 n below = elim (cases_Bool (eqb n 31)) [
  | inl same ↦ let e = eqb-true n 31 same in absurd (omega (arith, e, below))
  | inr other ↦ other
]

-- one register more, where it isn't zr
pub in_general : (rt n : ℕ) (w : Width) (uses : List Use) → n < 31 → is_some (width_in (general rt w uses) n) ≡ true → (n ≡ rt) ⊎ (is_some (width_in uses n) ≡ true)
in_general rt n w uses below h = elim (cases_Bool (eqb rt 31)) [
  | inl zr ↦ inr (rw zr at h)
  | inr other ↦ elim (cases_Bool (eqb rt n)) [
    | inl same ↦ inl (sym (eqb-true rt n same))
    | inr apart ↦ inr (rw (other, apart) at h)
  ]
]

pub not_in_general : (rt n : ℕ) (w : Width) (uses : List Use) → n < 31 → is_some (width_in (general rt w uses) n) ≡ false → (n ≢ rt) × (is_some (width_in uses n) ≡ false)
not_in_general rt n w uses below h = elim (cases_Bool (eqb rt 31)) [
  | inl zr ↦ let e = eqb-true rt 31 zr in ((λ q. absurd (omega (arith, q, e, below))), rw zr at h)
  | inr other ↦ elim (cases_Bool (eqb rt n)) [
    | inl same ↦ absurd (true≢false (rw (other, same) at h))
    | inr apart ↦ ((λ q. eqb-false rt n apart (sym q)), rw (other, apart) at h)
  ]
]

pub in_base : (rn n : ℕ) → is_some (width_in (or_sp rn widths.X []) n) ≡ true → n ≡ rn
in_base rn n h = elim (cases_Bool (eqb rn n)) [
  | inl same ↦ sym (eqb-true rn n same)
  | inr apart ↦ absurd (true≢false (sym (rw apart at h)))
]

pub not_in_base : (rn n : ℕ) → is_some (width_in (or_sp rn widths.X []) n) ≡ false → n ≢ rn
not_in_base rn n h = elim (cases_Bool (eqb rn n)) [
  | inl same ↦ absurd (true≢false (rw same at h))
  | inr apart ↦ λ q. eqb-false rn n apart (sym q)
]

-- which registers an access writes that doesn't change its base
pub one_written : (store : Bool) (rt n : ℕ) (w : Width) → n < 31 → is_some (width_in (if store then [] else general rt w []) n) ≡ true → (store ≡ false) × (n ≡ rt)
one_written true rt n w below h = absurd (true≢false (sym h))
one_written false rt n w below h = elim (in_general rt n w [] below h) [
  | inl same ↦ (refl, same)
  | inr none ↦ absurd (true≢false (sym none))
]

pub none_written : (store : Bool) (rt n : ℕ) (w : Width) → n < 31 → is_some (width_in (if store then [] else general rt w []) n) ≡ false → store ≡ false → n ≢ rt
none_written true rt n w below h load = absurd (true≢false load)
none_written false rt n w below h load = (not_in_general rt n w [] below h).0

-- and of one that changes it
pub two_written : (store : Bool) (rt rn n : ℕ) (w : Width) → n < 31 → is_some (width_in (if store then or_sp rn widths.X [] else general rt w (or_sp rn widths.X [])) n) ≡ true
    → ((store ≡ false) × (n ≡ rt)) ⊎ (n ≡ rn)
two_written true rt rn n w below h = inr (in_base rn n h)
two_written false rt rn n w below h = elim (in_general rt n w (or_sp rn widths.X []) below h) [
  | inl same ↦ inl (refl, same)
  | inr base ↦ inr (in_base rn n base)
]

pub neither_written : (store : Bool) (rt rn n : ℕ) (w : Width) → n < 31 → is_some (width_in (if store then or_sp rn widths.X [] else general rt w (or_sp rn widths.X [])) n) ≡ false
    → (store ≡ false → n ≢ rt) × (n ≢ rn)
neither_written true rt rn n w below h = ((λ load. absurd (true≢false load)), not_in_base rn n h)
neither_written false rt rn n w below h = let both = not_in_general rt n w (or_sp rn widths.X []) below h in ((λ load. both.0), not_in_base rn n both.1)

-- ---- the registers in which a mend works
pub is_spare : (n : ℕ) → is_working n ≡ false → (n ≢ 18) × (n ≢ 22) × (n ≢ 16) × (n ≢ 17)
is_spare n h =
    let a = or_parts _ _ h in
    let b = or_parts _ _ a.0 in
    let c = or_parts _ _ b.0 in
    (eqb-false n 18 c.0, eqb-false n 22 c.1, eqb-false n 16 b.1, eqb-false n 17 a.1)

-- what is known of the scratch register beside a base
pub record IsScratch (scratch rn : ℕ) : Type 0 where
  pub below : scratch < 31
  pub free : is_reserved scratch ≡ false
  pub apart : rn ≢ scratch
  pub working : (n : ℕ) → is_working n ≡ false → n ≢ scratch

pub scratch_is : (rn : ℕ) → IsScratch (scratch_of rn) rn
scratch_is rn = elim (cases_Bool (eqb rn 16)) [
  | inl same ↦ let e = eqb-true rn 16 same in rw same (record { below = lit≤ tt; free = refl; apart = λ q. absurd (omega (arith, e, q)); working = λ n h. (is_spare n h).3 })
  | inr other ↦ rw other (record { below = lit≤ tt; free = refl; apart = eqb-false rn 16 other; working = λ n h. (is_spare n h).2 })
]

-- and of one that holds a sum
pub record IsSum (sum : ℕ) : Type 0 where
  pub below : sum < 31
  pub base : 21 ≢ sum
  pub working : (n : ℕ) → is_working n ≡ false → n ≢ sum

pub sum_16 : IsSum 16
sum_16 = record { below = lit≤ tt; base = λ q. absurd (omega (arith, q)); working = λ n h. (is_spare n h).2 }

pub sum_22 : IsSum 22
sum_22 = record { below = lit≤ tt; base = λ q. absurd (omega (arith, q)); working = λ n h. (is_spare n h).1 }

pub sum_if : (b : Bool) → IsSum (if b then 16 else 22)
sum_if true = sum_16
sum_if false = sum_22

-- The sum for an access isn't in the register that is stored.
sum_no_data : (transfer : Transfer) (rt : ℕ) → is_store transfer ≡ true → rt ≢ sum_for transfer rt
sum_no_data transfer rt store = elim (cases_Bool (eqb rt 22)) [
  | inl same ↦ let e = eqb-true rt 22 same in rw (same, store) (λ q. absurd (omega (arith, e, q)))
  | inr other ↦ rw other (eqb-false rt 22 other)
]

pub beside_no_data : (rt : ℕ) → rt ≢ sum_beside rt
beside_no_data rt = elim (cases_Bool (eqb rt 22)) [
  | inl same ↦ let e = eqb-true rt 22 same in rw same (λ q. absurd (omega (arith, e, q)))
  | inr other ↦ rw other (eqb-false rt 22 other)
]

-- ---- after the sum
-- One state differs from another in a register alone, and x21 and another W register give an address.
pub record Points (s1 s : State) (sum index a : ℕ) : Type 0 where
  pub general : (n : ℕ) → n ≢ sum → x_at s1.registers n ≡ x_at s.registers n
  pub address : (x_at s1.registers 21 + x_at s1.registers index % 4294967296 * 1) % 18446744073709551616 ≡ a
  pub stack : s1.registers.sp ≡ s.registers.sp
  pub flags : s1.registers.nzcv ≡ s.registers.nzcv
  pub count : length s1.registers.x ≡ 31
  pub memory : s1.memory ≡ s.memory

abbrev pub slot_after : (s1 s : State) → HasSlot s → x_at s1.registers 21 ≡ x_at s.registers 21 → length s1.registers.x ≡ 31 → HasSlot s1
slot_after s1 s h e count = record { slot = h.slot; base = e ∙ h.base; room = h.room; count = count }

-- The same, where the second register holds a value.
points : (s1 s : State) (sum v a : ℕ) → 21 ≢ sum → Sets s1 s sum v → (x_at s.registers 21 + v % 4294967296 * 1) % 18446744073709551616 ≡ a → Points s1 s sum sum a
points s1 s sum v a apart h e = record {
  general = h.general;
  address = ap (λ b. (b + x_at s1.registers sum % 4294967296 * 1) % 18446744073709551616) (h.general 21 apart)
      ∙ (ap (λ x. (x_at s.registers 21 + x % 4294967296 * 1) % 18446744073709551616) h.value ∙ e);
  stack = h.stack;
  flags = h.flags;
  count = h.count;
  memory = h.memory;
}

pub points_at : (sum rn : ℕ) (below : Bool) (bytes : ℕ) (s : State) → bytes < 32768 → IsWhole s.registers → (h : HasSlot s) → IsSum sum
    → h.slot * 4294967296 ≤ reached below bytes (x_or_sp_at s.registers rn) → reached below bytes (x_or_sp_at s.registers rn) < (h.slot + 1) * 4294967296
    → Points (after_all (sums sum rn below bytes) s) s sum (index_of sum rn bytes) (reached below bytes (x_or_sp_at s.registers rn))
points_at sum rn below bytes s fits whole h is first last = elim (cases_Bool (is_bare rn bytes)) [
  | inl bare ↦
      let b = x_or_sp_at s.registers rn in
      let tests = and_parts (eqb bytes 0) (not (eqb rn 31)) bare in
      let small = whole.fit rn in
      let same : b ≡ x_at s.registers rn = rw (not-true _ tests.1) refl in
      let none : bytes ≡ 0 = eqb-true bytes 0 tests.0 in
      let here : reached below bytes b ≡ b = reached_none below bytes b none (omega (arith, small, same)) in
      let address : (x_at s.registers 21 + x_at s.registers rn % 4294967296 * 1) % 18446744073709551616 ≡ reached below bytes b =
      same_address h.slot (x_at s.registers 21) (x_at s.registers rn) h.base h.room (omega (arith, first, here, same)) (omega (arith, last, here, same)) ∙ sym (here ∙ same) in
      rw bare (record { general = λ n apart. refl; address = address; stack = refl; flags = refl; count = h.count; memory = refl })
  | inr summed ↦
      let moves = moved_in_slot below (x_at s.registers 21) (x_or_sp_at s.registers rn) bytes h.slot fits h.base h.room first last in
      let p = points _ s sum _ _ is.base (sums_set sum rn below bytes s fits h.count is.below summed) moves in
      let index : index_of sum rn bytes ≡ sum = rw summed refl in
      subst (λ j. Points (after_all (sums sum rn below bytes) s) s sum j (reached below bytes (x_or_sp_at s.registers rn))) (sym index) p
]

-- ---- accesses that don't change their base
-- An access after a sum does what one does at its address.
bounded_access : (i : Instruction) (size : Size) (transfer : Transfer) (rt rn sum index a : ℕ) (s s1 s2 : State) → writes_of i ≡ (if is_store transfer then [] else general rt (data_width size transfer) [])
    → length s.registers.x ≡ 31 → IsSum sum → (is_store transfer ≡ true → rt ≢ sum) → Points s1 s sum index a → Moved s2 s1 size transfer rt (scratch_of rn) a
    → AgreeBounded i (x_at s.registers 21) s2 (at_address size transfer rt s a)
bounded_access i size transfer rt rn sum index a s s1 s2 uses count is unsummed p m =
    let w = data_width size transfer in
    let v = loaded s.memory size transfer a in
    let scratch = scratch_is rn in
    let base : x_at s1.registers 21 ≡ x_at s.registers 21 = p.general 21 is.base in
    let store_data : stored_by size transfer (x_at s1.registers rt) ≡ stored_by size transfer (x_at s.registers rt) = stored_same size transfer rt s1 s (λ store. p.general rt (unsummed store)) in
    record {
      written = λ n below h.
          let which = one_written (is_store transfer) rt n w below (sym (told i n _ uses) ∙ h) in
          let rt_below : rt < 31 = subst (λ k. k < 31) which.1 below in
          let mine : x_at s2.registers rt ≡ bounded_in (x_at s.registers 21) rt (low_bits w v) =
          m.value which.0 rt_below ∙ (ap (λ b. bounded_in b rt (low_bits w (loaded s1.memory size transfer a))) base ∙ ap (λ (f : ℕ → ℕ). bounded_in (x_at s.registers 21) rt (low_bits w (loaded f size transfer a))) p.memory) in
          let theirs : x_at (at_address size transfer rt s a).registers rt ≡ low_bits w v = moved_here (is_store transfer) w rt v s.registers which.0 rt_below count in
          subst (λ k. x_at s2.registers k ≡ bounded_in (x_at s.registers 21) k (x_at (at_address size transfer rt s a).registers k)) (sym which.1)
          (mine ∙ ap (λ x. bounded_in (x_at s.registers 21) rt x) (sym theirs));
      general = λ n below h spare.
          let apart = none_written (is_store transfer) rt n w below (sym (told i n _ uses) ∙ h) in
          m.general n (scratch.working n spare) apart ∙ (p.general n (is.working n spare) ∙ sym (moved_other (is_store transfer) w rt v n s.registers apart));
      stack = m.stack ∙ (p.stack ∙ sym (moved_stack (is_store transfer) w rt v s.registers));
      flags = m.flags ∙ p.flags;
      memory = λ place.
          ap (λ (f : ℕ → ℕ). f place) m.memory
          ∙ (ap (λ (f : ℕ → ℕ). written_at (Some (record { address = a; bytes = 2 ^ size_code size; stores = is_store transfer })) (stored_by size transfer (x_at s1.registers rt)) f place) p.memory
          ∙ ap (λ bytes. written_at (Some (record { address = a; bytes = 2 ^ size_code size; stores = is_store transfer })) bytes s.memory place) store_data);
    }
  where
    stored_same : (size : Size) (transfer : Transfer) (rt : ℕ) (one two : State) → (is_store transfer ≡ true → x_at one.registers rt ≡ x_at two.registers rt)
        → stored_by size transfer (x_at one.registers rt) ≡ stored_by size transfer (x_at two.registers rt)
    stored_same size transfer rt one two e = elim (cases_Bool (is_store transfer)) [
      | inl store ↦ ap (stored_by size transfer) (e store)
      | inr load ↦ rw load refl
    ]

abbrev no_base_loaded : Transfer → ℕ → Type 0
no_base_loaded transfer rt = is_store transfer ≡ false → eqb rt 21 ≡ false

abbrev pub slot_of : (s : State) (a n : ℕ) (b : Bool) → IsWhole s.registers → InSlot s.registers (record { address = a; bytes = n; stores = b }) → HasSlot s
slot_of s a n b whole lie = record { slot = lie.slot; base = lie.base; room = lie.room; count = whole.count }

-- at a base and a distance
pub bounded_at : (i : Instruction) (size : Size) (transfer : Transfer) (rt rn : ℕ) (below : Bool) (bytes : ℕ) (s : State) → writes_of i ≡ (if is_store transfer then [] else general rt (data_width size transfer) [])
    → bytes < 32768 → no_base_loaded transfer rt → IsWhole s.registers
    → InSlot s.registers (record { address = reached below bytes (x_or_sp_at s.registers rn); bytes = 2 ^ size_code size; stores = is_store transfer })
    → AgreeBounded i (x_at s.registers 21) (after_all (any_accessed size transfer rt rn below bytes) s) (at_address size transfer rt s (reached below bytes (x_or_sp_at s.registers rn)))
bounded_at i size transfer rt rn below bytes s uses fits no_base whole lie =
    let a = reached below bytes (x_or_sp_at s.registers rn) in
    let sum = sum_for transfer rt in
    let index = index_of sum rn bytes in
    let some = some_bytes size in
    let is = sum_if (eqb rt 22 && is_store transfer) in
    let h = slot_of s a (2 ^ size_code size) (is_store transfer) whole lie in
    let last : a < (lie.slot + 1) * 4294967296 = omega (arith, lie.last, some) in
    let p = points_at sum rn below bytes s fits whole h is lie.first last in
    let s1 = after_all (sums sum rn below bytes) s in
    let scratch = scratch_is rn in
    let m = access_moved size transfer index rt (scratch_of rn) a s1 (slot_after s1 s h (p.general 21 is.base) p.count) no_base scratch.below scratch.free p.address in
    let core = bounded_access i size transfer rt rn sum index a s s1 _ uses whole.count is (sum_no_data transfer rt) p m in
    subst (λ t. AgreeBounded i (x_at s.registers 21) t (at_address size transfer rt s a)) (sym (after_more (sums sum rn below bytes) (access_with size transfer index rt (scratch_of rn)) s)) core

-- what the test of the loaded register says
pub unloaded : (transfer : Transfer) (rt : ℕ) → is_some (of_single transfer rt) ≡ false → is_store transfer ≡ false → eqb rt 21 ≡ false
unloaded transfer rt h load = elim (cases_Bool (eqb rt 21)) [
  | inl same ↦ absurd (true≢false (rw (load, same) at h))
  | inr other ↦ other
]

pub unsigned_bounded : (size : Size) (transfer : Transfer) (imm12 rn rt bytes : ℕ) (is : List Instruction) → bytes ≡ imm12 * 2 ^ size_code size → bytes < 32768
    → (is_store transfer ≡ false → eqb rt 21 ≡ false) → is ≡ any_accessed size transfer rt rn false bytes
    → DoesTheSameBounded [] is (instructions.UnsignedOffset (record { size = size; transfer = transfer; imm12 = imm12; rn = rn; rt = rt }))
unsigned_bounded size transfer imm12 rn rt bytes is far fits no_base e s whole lies =
    let refused = instructions.UnsignedOffset (record { size = size; transfer = transfer; imm12 = imm12; rn = rn; rt = rt }) in
    let there : reached false bytes (x_or_sp_at s.registers rn) ≡ (x_or_sp_at s.registers rn + imm12 * 2 ^ size_code size) % 18446744073709551616 =
    ap (λ d. (x_or_sp_at s.registers rn + d) % 18446744073709551616) far in
    let lie = subst (λ a. InSlot s.registers (record { address = a; bytes = 2 ^ size_code size; stores = is_store transfer })) (sym there) lies in
    subst (λ l. AgreeBounded refused (x_at s.registers 21) (after_all l s) (after refused s)) (sym e)
    (subst (λ a. AgreeBounded refused (x_at s.registers 21) (after_all (any_accessed size transfer rt rn false bytes) s) (at_address size transfer rt s a)) there
    (bounded_at refused size transfer rt rn false bytes s refl fits no_base whole lie))

pub unscaled_bounded : (size : Size) (transfer : Transfer) (imm9 : ℤ) (rn rt : ℕ) (below : Bool) (bytes : ℕ) (is : List Instruction) → offset_of below bytes ≡ imm9 → bytes < 32768
    → (below ≡ true → 1 ≤ bytes) → (is_store transfer ≡ false → eqb rt 21 ≡ false) → is ≡ any_accessed size transfer rt rn below bytes
    → DoesTheSameBounded [] is (instructions.SignedOffset (record { size = size; transfer = transfer; mode = modes.Unscaled; imm9 = imm9; rn = rn; rt = rt }))
unscaled_bounded size transfer imm9 rn rt below bytes is far fits some no_base e s whole lies =
    let refused = instructions.SignedOffset (record { size = size; transfer = transfer; mode = modes.Unscaled; imm9 = imm9; rn = rn; rt = rt }) in
    let b = x_or_sp_at s.registers rn in
    let there : reached below bytes b ≡ displaced b imm9 = displaced_by below bytes b some ∙ ap (displaced b) far in
    let lie = subst (λ a. InSlot s.registers (record { address = a; bytes = 2 ^ size_code size; stores = is_store transfer })) (sym there) lies in
    subst (λ l. AgreeBounded refused (x_at s.registers 21) (after_all l s) (after refused s)) (sym e)
    (subst (λ a. AgreeBounded refused (x_at s.registers 21) (after_all (any_accessed size transfer rt rn below bytes) s) (at_address size transfer rt s a)) there
    (bounded_at refused size transfer rt rn below bytes s refl fits no_base whole lie))

-- at a base and an index
pub indexed_bounded : (size : Size) (transfer : Transfer) (rm : ℕ) (extend : IndexExtend) (scaled : Bool) (rn rt : ℕ) (is : List Instruction) → (is_store transfer ≡ false → eqb rt 21 ≡ false)
    → is ≡ any_indexed size transfer rt rn rm (amount_of size scaled)
    → DoesTheSameBounded [] is (instructions.RegisterOffset (record { size = size; transfer = transfer; rm = rm; extend = extend; scaled = scaled; rn = rn; rt = rt }))
indexed_bounded size transfer rm extend scaled rn rt is no_base e s whole lies =
    let refused = instructions.RegisterOffset (record { size = size; transfer = transfer; rm = rm; extend = extend; scaled = scaled; rn = rn; rt = rt }) in
    let sum = sum_for transfer rt in
    let isum = sum_if (eqb rt 22 && is_store transfer) in
    let b = x_or_sp_at s.registers rn in
    let x = x_at s.registers rm in
    let some = some_bytes size in
    let h = slot_of s _ (2 ^ size_code size) (is_store transfer) whole lies in
    let address = index_in_slot size scaled (x_at s.registers 21) b (extended_index extend x) x lies.slot (index_low extend x) lies.base lies.room lies.first (omega (arith, lies.last, some)) in
    let p = points _ s sum _ _ isum.base (index_sum_sets sum (amount_of size scaled) rm rn s whole.count isum.below) address in
    let s1 = after (sum_of_index sum (amount_of size scaled) rm rn) s in
    let scratch = scratch_is rn in
    let m = access_moved size transfer sum rt (scratch_of rn) _ s1 (slot_after s1 s h (p.general 21 isum.base) p.count) no_base scratch.below scratch.free p.address in
    subst (λ l. AgreeBounded refused (x_at s.registers 21) (after_all l s) (after refused s)) (sym e)
    (bounded_access refused size transfer rt rn sum sum _ s s1 _ refl whole.count isum (sum_no_data transfer rt) p m)
