-- What mends of single accesses do that change their base.
use Rattle.std.proofs.Common.{◌≡◌, ◌≢◌, ℕ, ◌+◌, ◌*◌, ◌%◌, ◌^◌, ◌<◌, ◌≤◌, eqb, eqb-true, Bool, true, false, List, [], ◌∷◌, length, Some, refl, ap, sym, subst, ◌∙◌, inl, inr, arith, lit≤, true≢false}
use Rattle.std.specs.Prelude.{if◌then◌else◌, ◌||◌, ℤ}
use Rattle.std.proofs.lemmas.Bool.{cases_Bool, eqb-false}
use Rattle.a64_word.specs.declared.instruction.Instruction.{Instruction}
use Rattle.a64_word.specs.declared.instruction.Instruction.TheVariants as instructions
use Rattle.a64_word.specs.declared.operands.Width.TheVariants as widths
use Rattle.a64_word.specs.declared.operands.Size.{Size}
use Rattle.a64_word.specs.declared.operands.Transfer.{Transfer}
use Rattle.a64_word.specs.declared.operands.IndexMode.TheVariants as modes
use Rattle.a64_word.specs.Operands.{size_code}
use Rattle.a64_effects.specs.Effects.{is_store, data_width, writes_of}
use Rattle.a64_effects.specs.Uses.{general, or_sp}
use Rattle.a64_semantics.specs.Registers.{x_at, x_or_sp_at, low_bits}
use Rattle.a64_semantics.specs.Accesses.{displaced, loaded, stored_by}
use Rattle.lfi_mends.specs.Registers.{is_reserved}
use Rattle.lfi_mends.specs.Outcomes.{State, InSlot, after, after_all, written_at, bounded_in, is_working, AgreeBounded, DoesTheSameBounded}
use Rattle.lfi_mends.specs.inner.Rows.{sum_of_immediate, guard_of, changed_of, scratch_of, sum_beside, access_with, change_of, any_changing, offset_of}
use Rattle.lfi_mends.proofs.Standing.{unreserved}
use Rattle.lfi_mends.proofs.Addresses.{same_address}
use Rattle.lfi_mends.proofs.Same.{some_bytes}
use Rattle.lfi_mends.proofs.Summed.{reached, after_more, sum_value}
use Rattle.lfi_mends.proofs.Changed.{changed, changing_at, based_apart, based_here, based_stack, displaced_by, reached_small}
use Rattle.lfi_mends.proofs.Steps.{HasSlot, sum_sets, guard_sets, unbounded, address_bounded, moved_here, moved_other, moved_stack, access_moved}
use Rattle.lfi_mends.proofs.Bounded.{told, two_written, neither_written, scratch_is, IsSum, sum_if, slot_after, slot_of, beside_no_data}

-- One state differs from another in a base, which holds what it may of a value, and in a register for the sum.
pub record Based (s2 s : State) (rn sum c : ℕ) : Type 0 where
  pub general : (n : ℕ) → n ≢ rn → n ≢ sum → x_at s2.registers n ≡ x_at s.registers n
  pub value : x_at s2.registers rn ≡ bounded_in (x_at s.registers 21) rn c
  pub stack : s2.registers.sp ≡ s.registers.sp
  pub flags : s2.registers.nzcv ≡ s.registers.nzcv
  pub count : length s2.registers.x ≡ 31
  pub memory : s2.memory ≡ s.memory

low_sum : (below : Bool) (bytes b : ℕ) → bytes < 4096 → b < 18446744073709551616 → sum_value below bytes b ≡ reached below bytes b % 4294967296
low_sum true bytes b fits small = omega (arith, fits, small)
low_sum false bytes b fits small = omega (arith, fits, small)

low_twice : (x : ℕ) → x % 4294967296 % 4294967296 ≡ x % 4294967296
low_twice x = omega arith

second_of_three : (a b : Bool) (x y z : List Instruction) → a ≡ false → b ≡ true → (if a then x else (if b then y else z)) ≡ y
second_of_three false true x y z e f = refl
second_of_three false false x y z e f = absurd (true≢false (sym f))
second_of_three true b x y z e f = absurd (true≢false e)

third_of_three : (a b : Bool) (x y z : List Instruction) → a ≡ false → b ≡ false → (if a then x else (if b then y else z)) ≡ z
third_of_three false false x y z e f = refl
third_of_three false true x y z e f = absurd (true≢false f)
third_of_three true b x y z e f = absurd (true≢false e)

-- A base that is changed.
pub based_by : (sum rn : ℕ) (below : Bool) (bytes : ℕ) (s : State) → HasSlot s → IsSum sum → rn < 31 → eqb rn 21 ≡ false → bytes < 4096 → x_at s.registers rn < 18446744073709551616
    → Based (after_all (change_of sum rn below bytes) s) s rn sum (reached below bytes (x_at s.registers rn))
based_by sum rn below bytes s h is inside no_base fits small =
    let x = x_at s.registers rn in
    let c = reached below bytes x in
    let b21 = x_at s.registers 21 in
    elim (cases_Bool (eqb rn 22)) [
      | inl offset ↦
          let e : rn ≡ 22 = eqb-true rn 22 offset in
          let g = sum_sets 22 below false bytes 22 s h.count (lit≤ tt) in
          let value : sum_value below bytes (x_at s.registers 22) ≡ bounded_in b21 rn c = rw offset (ap (λ k. sum_value below bytes (x_at s.registers k)) (sym e) ∙ low_sum below bytes x fits small) in
          rw offset (record {
            general = λ n apart other. g.general n (λ q. apart (q ∙ sym e));
            value = ap (λ k. x_at (after (sum_of_immediate 22 below false bytes 22) s).registers k) e ∙ (g.value ∙ value);
            stack = g.stack;
            flags = g.flags;
            count = g.count;
            memory = g.memory;
          })
      | inr other22 ↦ elim (cases_Bool (is_reserved rn)) [
        | inl reserved ↦
            let g = sum_sets sum below false bytes rn s h.count is.below in
            let s1 = after (sum_of_immediate sum below false bytes rn) s in
            let base = g.general 21 is.base in
            let k = guard_sets rn sum s1 (slot_after s1 s h base g.count) inside in
            let stack : eqb rn 31 ≡ false = no_31 rn inside in
            let operand : x_or_sp_at s.registers rn ≡ x = rw stack refl in
            let sum_is : x_at s1.registers sum ≡ c % 4294967296 = g.value ∙ (ap (sum_value below bytes) operand ∙ low_sum below bytes x fits small) in
            let value : b21 + c % 4294967296 % 4294967296 ≡ bounded_in b21 rn c = ap (λ y. b21 + y) (low_twice c) ∙ sym (address_bounded b21 rn c reserved no_base other22) in
            subst (λ l. Based (after_all l s) s rn sum c) (sym (second_of_three (eqb rn 22) (is_reserved rn) _ (sum_of_immediate sum below false bytes rn ∷ guard_of rn sum ∷ []) _ other22 reserved)) (record {
              general = λ n apart other. k.general n apart ∙ g.general n other;
              value = k.value ∙ (ap (λ b. b + x_at s1.registers sum % 4294967296) base ∙ (ap (λ y. b21 + y % 4294967296) sum_is ∙ value));
              stack = k.stack ∙ g.stack;
              flags = k.flags ∙ g.flags;
              count = k.count;
              memory = k.memory ∙ g.memory;
            })
        | inr free ↦
            let ch = changed below bytes rn s h.count inside (no_31 rn inside) fits small in
            subst (λ l. Based (after_all l s) s rn sum c) (sym (third_of_three (eqb rn 22) (is_reserved rn) _ _ (changed_of below bytes rn ∷ []) other22 free)) (record {
              general = λ n apart other. ch.general n apart;
              value = ch.value ∙ sym (unbounded b21 rn c free);
              stack = ch.stack;
              flags = ch.flags;
              count = ch.count;
              memory = refl;
            })
      ]
    ]
  where
    no_31 : (n : ℕ) → n < 31 → eqb n 31 ≡ false
    no_31 n below = elim (cases_Bool (eqb n 31)) [
      | inl same ↦ let e = eqb-true n 31 same in absurd (omega (arith, e, below))
      | inr other ↦ other
    ]

-- what the refused access leaves
record IsChangedAt (size : Size) (transfer : Transfer) (rt rn c : ℕ) (s : State) (a : ℕ) : Type 0 where
  moved : is_store transfer ≡ false → rt < 31 → x_at (changing_at size transfer rt rn c s a).registers rt ≡ low_bits (data_width size transfer) (loaded s.memory size transfer a)
  based : x_at (changing_at size transfer rt rn c s a).registers rn ≡ c
  general : (n : ℕ) → n ≢ rn → (is_store transfer ≡ false → n ≢ rt) → x_at (changing_at size transfer rt rn c s a).registers n ≡ x_at s.registers n
  stack : (changing_at size transfer rt rn c s a).registers.sp ≡ s.registers.sp

changed_at : (size : Size) (transfer : Transfer) (rt rn c : ℕ) (s : State) (a : ℕ) → length s.registers.x ≡ 31 → rn < 31 → eqb rn 31 ≡ false → rn ≢ rt → c < 18446744073709551616
    → IsChangedAt size transfer rt rn c s a
changed_at size transfer rt rn c s a count inside stack apart small =
    let store = is_store transfer in
    let w = data_width size transfer in
    let v = loaded s.memory size transfer a in
    record {
      moved = λ load below. based_apart store w rt v rn c rt s.registers stack (λ e. apart (sym e)) ∙ moved_here store w rt v s.registers load below count;
      based = based_here store w rt v rn c s.registers stack inside count small;
      general = λ n other data_apart. based_apart store w rt v rn c n s.registers stack other ∙ moved_other store w rt v n s.registers data_apart;
      stack = based_stack store w rt v rn c s.registers stack ∙ moved_stack store w rt v s.registers;
    }

-- The base first, or last: in both orders each register holds what it may.
record BothDone (s2 s : State) (size : Size) (transfer : Transfer) (rt rn c a : ℕ) : Type 0 where
  moved : is_store transfer ≡ false → rt < 31 → x_at s2.registers rt ≡ bounded_in (x_at s.registers 21) rt (low_bits (data_width size transfer) (loaded s.memory size transfer a))
  based : x_at s2.registers rn ≡ bounded_in (x_at s.registers 21) rn c
  general : (n : ℕ) → is_working n ≡ false → n ≢ rn → (is_store transfer ≡ false → n ≢ rt) → x_at s2.registers n ≡ x_at s.registers n
  stack : s2.registers.sp ≡ s.registers.sp
  flags : s2.registers.nzcv ≡ s.registers.nzcv
  memory : s2.memory ≡ written_at (Some (record { address = a; bytes = 2 ^ size_code size; stores = is_store transfer })) (stored_by size transfer (x_at s.registers rt)) s.memory

bounded_changing : (i : Instruction) (size : Size) (transfer : Transfer) (rt rn c a : ℕ) (s s2 : State)
    → writes_of i ≡ (if is_store transfer then or_sp rn widths.X [] else general rt (data_width size transfer) (or_sp rn widths.X []))
    → length s.registers.x ≡ 31 → rn < 31 → eqb rn 31 ≡ false → rn ≢ rt → c < 18446744073709551616
    → BothDone s2 s size transfer rt rn c a → AgreeBounded i (x_at s.registers 21) s2 (changing_at size transfer rt rn c s a)
bounded_changing i size transfer rt rn c a s s2 uses count inside stack apart small d =
    let b = x_at s.registers 21 in
    let w = data_width size transfer in
    let meant = changing_at size transfer rt rn c s a in
    let r = changed_at size transfer rt rn c s a count inside stack apart small in
    record {
      written = λ n below h. elim (two_written (is_store transfer) rt rn n w below (sym (told i n _ uses) ∙ h)) [
        | inl both ↦
            let rt_below : rt < 31 = subst (λ k. k < 31) both.1 below in
            subst (λ k. x_at s2.registers k ≡ bounded_in b k (x_at meant.registers k)) (sym both.1) (d.moved both.0 rt_below ∙ ap (bounded_in b rt) (sym (r.moved both.0 rt_below)))
        | inr same ↦ subst (λ k. x_at s2.registers k ≡ bounded_in b k (x_at meant.registers k)) (sym same) (d.based ∙ ap (bounded_in b rn) (sym r.based))
      ];
      general = λ n below h spare.
          let others = neither_written (is_store transfer) rt rn n w below (sym (told i n _ uses) ∙ h) in
          d.general n spare others.1 others.0 ∙ sym (r.general n others.1 others.0);
      stack = d.stack ∙ sym r.stack;
      flags = d.flags;
      memory = λ place. ap (λ (f : ℕ → ℕ). f place) d.memory;
    }

-- of what a register holds of an address of the slot the lowest 32 bits are those of the address
pub bounded_low : (base rn c slot : ℕ) → base ≡ slot * 4294967296 → bounded_in base rn c % 4294967296 ≡ c % 4294967296
bounded_low base rn c slot e = elim (cases_Bool (eqb rn 22)) [
  | inl offset ↦ rw offset (omega arith)
  | inr other ↦ elim (cases_Bool (eqb rn 18 || eqb rn 23 || eqb rn 24 || eqb rn 30)) [
    | inl address ↦ rw (other, address) (omega (arith, e))
    | inr free ↦ rw (other, free) refl
  ]
]

pub pre_bounded : (size : Size) (transfer : Transfer) (imm9 : ℤ) (rn rt : ℕ) (below : Bool) (bytes : ℕ) (is : List Instruction) → offset_of below bytes ≡ imm9 → bytes < 4096
    → (below ≡ true → 1 ≤ bytes) → eqb rn 31 ≡ false → eqb rn 21 ≡ false → rn < 32 → rn ≢ rt → (is_store transfer ≡ false → eqb rt 21 ≡ false)
    → is ≡ any_changing true size transfer rt rn below bytes
    → DoesTheSameBounded [] is (instructions.SignedOffset (record { size = size; transfer = transfer; mode = modes.PreIndex; imm9 = imm9; rn = rn; rt = rt }))
pre_bounded size transfer imm9 rn rt below bytes is far fits some stack no_base inside32 apart unloaded e s whole lies =
    let refused = instructions.SignedOffset (record { size = size; transfer = transfer; mode = modes.PreIndex; imm9 = imm9; rn = rn; rt = rt }) in
    let r = s.registers in
    let x = x_at r rn in
    let b = x_or_sp_at r rn in
    let c = reached below bytes x in
    let any = some_bytes size in
    let no_stack = eqb-false rn 31 stack in
    let inside : rn < 31 = omega (arith, inside32, no_stack) in
    let same : b ≡ x = rw stack refl in
    let there : c ≡ displaced b imm9 = ap (reached below bytes) (sym same) ∙ (displaced_by below bytes b some ∙ ap (displaced b) far) in
    let lie : InSlot r (record { address = c; bytes = 2 ^ size_code size; stores = is_store transfer }) =
    subst (λ a. InSlot r (record { address = a; bytes = 2 ^ size_code size; stores = is_store transfer })) (sym there) lies in
    let h = slot_of s c (2 ^ size_code size) (is_store transfer) whole lie in
    let sum = sum_beside rt in
    let isum = sum_if (eqb rt 22) in
    let g = based_by sum rn below bytes s h isum inside no_base fits (whole.fit rn) in
    let s1 = after_all (change_of sum rn below bytes) s in
    let base : x_at s1.registers 21 ≡ x_at r 21 = g.general 21 (λ q. eqb-false rn 21 no_base (sym q)) isum.base in
    let low : x_at s1.registers rn % 4294967296 ≡ c % 4294967296 = ap (λ y. y % 4294967296) g.value ∙ bounded_low (x_at r 21) rn c lie.slot lie.base in
    let address : (x_at s1.registers 21 + x_at s1.registers rn % 4294967296 * 1) % 18446744073709551616 ≡ c =
    ap (λ q. (q + x_at s1.registers rn % 4294967296 * 1) % 18446744073709551616) base
    ∙ (ap (λ q. (x_at r 21 + q * 1) % 18446744073709551616) low
    ∙ same_address lie.slot (x_at r 21) c lie.base lie.room lie.first (omega (arith, lie.last, any))) in
    let scratch = scratch_is rn in
    let m = access_moved size transfer rn rt (scratch_of rn) c s1 (slot_after s1 s h base g.count) unloaded scratch.below scratch.free address in
    let s2 = after_all (access_with size transfer rn rt (scratch_of rn)) s1 in
    let stored : x_at s1.registers rt ≡ x_at r rt = g.general rt (λ q. apart (sym q)) (beside_no_data rt) in
    let done : BothDone s2 s size transfer rt rn c c = record {
      moved = λ load rt_below. m.value load rt_below
          ∙ (ap (λ q. bounded_in q rt (low_bits (data_width size transfer) (loaded s1.memory size transfer c))) base
          ∙ ap (λ (f : ℕ → ℕ). bounded_in (x_at r 21) rt (low_bits (data_width size transfer) (loaded f size transfer c))) g.memory);
      based = m.general rn scratch.apart (λ load. apart) ∙ g.value;
      general = λ n spare other unmoved. m.general n (scratch.working n spare) unmoved ∙ g.general n other (isum.working n spare);
      stack = m.stack ∙ g.stack;
      flags = m.flags ∙ g.flags;
      memory = m.memory
          ∙ (ap (λ (f : ℕ → ℕ). written_at (Some (record { address = c; bytes = 2 ^ size_code size; stores = is_store transfer })) (stored_by size transfer (x_at s1.registers rt)) f) g.memory
          ∙ ap (λ q. written_at (Some (record { address = c; bytes = 2 ^ size_code size; stores = is_store transfer })) (stored_by size transfer q) s.memory) stored);
    } in
    let core = bounded_changing refused size transfer rt rn c c s s2 refl whole.count inside stack apart (reached_small below bytes x) done in
    subst (λ l. AgreeBounded refused (x_at r 21) (after_all l s) (after refused s)) (sym e)
    (subst (λ t. AgreeBounded refused (x_at r 21) t (after refused s)) (sym (after_more (change_of sum rn below bytes) (access_with size transfer rn rt (scratch_of rn)) s))
    (subst (λ d. AgreeBounded refused (x_at r 21) s2 (changing_at size transfer rt rn d s d)) there core))

pub post_bounded : (size : Size) (transfer : Transfer) (imm9 : ℤ) (rn rt : ℕ) (below : Bool) (bytes : ℕ) (is : List Instruction) → offset_of below bytes ≡ imm9 → bytes < 4096
    → (below ≡ true → 1 ≤ bytes) → eqb rn 31 ≡ false → eqb rn 21 ≡ false → rn < 32 → rn ≢ rt → (is_store transfer ≡ false → eqb rt 21 ≡ false)
    → is ≡ any_changing false size transfer rt rn below bytes
    → DoesTheSameBounded [] is (instructions.SignedOffset (record { size = size; transfer = transfer; mode = modes.PostIndex; imm9 = imm9; rn = rn; rt = rt }))
post_bounded size transfer imm9 rn rt below bytes is far fits some stack no_base inside32 apart unloaded e s whole lies =
    let refused = instructions.SignedOffset (record { size = size; transfer = transfer; mode = modes.PostIndex; imm9 = imm9; rn = rn; rt = rt }) in
    let r = s.registers in
    let x = x_at r rn in
    let b = x_or_sp_at r rn in
    let c = reached below bytes x in
    let any = some_bytes size in
    let no_stack = eqb-false rn 31 stack in
    let inside : rn < 31 = omega (arith, inside32, no_stack) in
    let same : b ≡ x = rw stack refl in
    let there : c ≡ displaced b imm9 = ap (reached below bytes) (sym same) ∙ (displaced_by below bytes b some ∙ ap (displaced b) far) in
    let lie : InSlot r (record { address = x; bytes = 2 ^ size_code size; stores = is_store transfer }) =
    subst (λ a. InSlot r (record { address = a; bytes = 2 ^ size_code size; stores = is_store transfer })) same lies in
    let h = slot_of s x (2 ^ size_code size) (is_store transfer) whole lie in
    let address : (x_at r 21 + x % 4294967296 * 1) % 18446744073709551616 ≡ x =
    same_address lie.slot (x_at r 21) x lie.base lie.room lie.first (omega (arith, lie.last, any)) in
    let scratch = scratch_is rn in
    let m = access_moved size transfer rn rt (scratch_of rn) x s h unloaded scratch.below scratch.free address in
    let s1 = after_all (access_with size transfer rn rt (scratch_of rn)) s in
    let kept : x_at s1.registers rn ≡ x = m.general rn scratch.apart (λ load. apart) in
    let base : x_at s1.registers 21 ≡ x_at r 21 = m.general 21 (λ q. eqb-false (scratch_of rn) 21 (unreserved (scratch_of rn) scratch.free).base (sym q)) (λ load q. eqb-false rt 21 (unloaded load) (sym q)) in
    let sum = sum_beside rt in
    let isum = sum_if (eqb rt 22) in
    let g0 = based_by sum rn below bytes s1 (slot_after s1 s h base m.count) isum inside no_base fits (subst (λ q. q < 18446744073709551616) (sym kept) (whole.fit rn)) in
    let s2 = after_all (change_of sum rn below bytes) s1 in
    let g : Based s2 s1 rn sum c = subst (λ q. Based s2 s1 rn sum (reached below bytes q)) kept g0 in
    let done : BothDone s2 s size transfer rt rn c x = record {
      moved = λ load rt_below. g.general rt (λ q. apart (sym q)) (beside_no_data rt) ∙ m.value load rt_below;
      based = g.value ∙ ap (λ q. bounded_in q rn c) base;
      general = λ n spare other unmoved. g.general n other (isum.working n spare) ∙ m.general n (scratch.working n spare) unmoved;
      stack = g.stack ∙ m.stack;
      flags = g.flags ∙ m.flags;
      memory = g.memory ∙ m.memory;
    } in
    let core = bounded_changing refused size transfer rt rn c x s s2 refl whole.count inside stack apart (reached_small below bytes x) done in
    subst (λ l. AgreeBounded refused (x_at r 21) (after_all l s) (after refused s)) (sym e)
    (subst (λ t. AgreeBounded refused (x_at r 21) t (after refused s)) (sym (after_more (access_with size transfer rn rt (scratch_of rn)) (change_of sum rn below bytes) s))
    (subst (λ y. AgreeBounded refused (x_at r 21) s2 (changing_at size transfer rt rn (displaced b imm9) s y)) (sym same)
    (subst (λ d. AgreeBounded refused (x_at r 21) s2 (changing_at size transfer rt rn d s x)) there core)))
