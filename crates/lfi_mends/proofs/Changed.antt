-- Accesses that change their base, in two instructions.
use Rattle.std.proofs.Common.{◌≡◌, ◌≢◌, ℕ, ◌+◌, ◌-◌, ◌*◌, ◌%◌, ◌^◌, ◌<◌, ◌≤◌, eqb, Bool, true, false, List, [], length, Some, refl, ap, sym, subst, ◌∙◌, inl, inr, arith}
use Rattle.std.specs.Prelude.{if◌then◌else◌, not, ℤ}
use mathlib.Core.Logic.{dite}
use native.Mathlib.Decide.{ℕ_discrete}
use Rattle.std.proofs.lemmas.Bool.{cases_Bool, eqb-false, and_parts, not-true}
use Rattle.lfi_mends.specs.Registers.{is_reserved, is_free}
use Rattle.lfi_mends.proofs.Standing.{unreserved}
use Rattle.std.proofs.lemmas.List.{get_or-set_other, length-set}
use Rattle.std.proofs.lemmas.Grind.{get_or-set_at}
use Rattle.a64_word.specs.declared.instruction.Instruction.{Instruction}
use Rattle.a64_word.specs.declared.instruction.Instruction.TheVariants as instructions
use Rattle.a64_word.specs.declared.operands.Width.{Width}
use Rattle.a64_word.specs.declared.operands.Width.TheVariants as widths
use Rattle.a64_word.specs.declared.operands.IndexMode.TheVariants as modes
use Rattle.a64_word.specs.declared.operands.Size.{Size}
use Rattle.a64_word.specs.declared.operands.Transfer.{Transfer}
use Rattle.a64_word.specs.Operands.{size_code}
use Rattle.a64_effects.specs.Effects.{is_store, data_width}
use Rattle.a64_semantics.specs.declared.registers.Registers.{Registers}
use Rattle.a64_semantics.specs.Registers.{x_at, x_or_sp_at, put_all, to_general, to_or_sp}
use Rattle.a64_semantics.specs.Accesses.{displaced, loaded, stored_by}
use Rattle.a64_semantics.specs.Branches.{following}
use Rattle.lfi_mends.specs.Outcomes.{State, Agree, InSlot, DoesTheSame, after, after_all, written_at}
use Rattle.lfi_mends.specs.inner.Rows.{access_of, changed_of, changing, offset_of}
use Rattle.lfi_mends.proofs.Same.{at_address, some_bytes}
use Rattle.lfi_mends.proofs.Beside.{put_same, put_stack}
use Rattle.lfi_mends.proofs.Addresses.{same_address}
use Rattle.lfi_mends.proofs.Summed.{reached}

-- registers of which one holds a value, and that are else others
pub record Changed (r1 r : Registers) (rn c : ℕ) : Type 0 where
  pub general : (n : ℕ) → n ≢ rn → x_at r1 n ≡ x_at r n
  pub value : x_at r1 rn ≡ c
  pub stack : r1.sp ≡ r.sp
  pub flags : r1.nzcv ≡ r.nzcv
  pub count : length r1.x ≡ 31

pub reached_by : (below : Bool) (bytes b : ℕ) → bytes < 4096 → b < 18446744073709551616
    → (b + (if below then 18446744073709551615 - bytes else bytes) + (if below then 1 else 0)) % 18446744073709551616 % 18446744073709551616 ≡ reached below bytes b
reached_by true bytes b fits small = omega (arith, fits, small)
reached_by false bytes b fits small = omega (arith, fits, small)

pub changed : (below : Bool) (bytes rn : ℕ) (s : State) → length s.registers.x ≡ 31 → rn < 31 → eqb rn 31 ≡ false → bytes < 4096 → x_at s.registers rn < 18446744073709551616
    → Changed (after (changed_of below bytes rn) s).registers s.registers rn (reached below bytes (x_at s.registers rn))
changed true bytes rn s count inside other fits small = rw other (record {
  general = λ n apart. get_or-set_other s.registers.x rn n _ 0 apart;
  value = get_or-set_at s.registers.x rn rn _ 0 refl (subst (λ l. rn < l) (sym count) inside) ∙ reached_by true bytes (x_at s.registers rn) fits small;
  stack = refl;
  flags = refl;
  count = length-set s.registers.x rn _ ∙ count;
})
changed false bytes rn s count inside other fits small = rw other (record {
  general = λ n apart. get_or-set_other s.registers.x rn n _ 0 apart;
  value = get_or-set_at s.registers.x rn rn _ 0 refl (subst (λ l. rn < l) (sym count) inside) ∙ reached_by false bytes (x_at s.registers rn) fits small;
  stack = refl;
  flags = refl;
  count = length-set s.registers.x rn _ ∙ count;
})

-- registers after a load or store, and then a base
abbrev pub moved : (store : Bool) → Width → (rt value : ℕ) → Registers → Registers
moved store width rt value r = put_all (if store then [] else to_general rt width value []) r

abbrev pub moved_and_based : (store : Bool) → Width → (rt value rn c : ℕ) → Registers → Registers
moved_and_based store width rt value rn c r = put_all (if store then to_or_sp rn widths.X c [] else to_general rt width value (to_or_sp rn widths.X c [])) r

-- the base last
pub based : (store : Bool) (width : Width) (rt value rn c : ℕ) (r : Registers) → moved_and_based store width rt value rn c r ≡ put_all (to_or_sp rn widths.X c []) (moved store width rt value r)
based true width rt value rn c r = refl
based false width rt value rn c r = elim (cases_Bool (eqb rt 31)) [
  | inl zr ↦ rw zr refl
  | inr other ↦ rw other refl
]

-- another register than the one that is loaded
pub moved_apart : (store : Bool) (width : Width) (rt value n : ℕ) (r : Registers) → n ≢ rt → x_at (moved store width rt value r) n ≡ x_at r n
moved_apart true width rt value n r apart = refl
moved_apart false width rt value n r apart = elim (cases_Bool (eqb rt 31)) [
  | inl zr ↦ rw zr refl
  | inr other ↦ rw (other, other) (get_or-set_other r.x rt n _ 0 apart)
]

pub moved_count : (store : Bool) (width : Width) (rt value : ℕ) (r : Registers) → length (moved store width rt value r).x ≡ length r.x
moved_count true width rt value r = refl
moved_count false width rt value r = elim (cases_Bool (eqb rt 31)) [
  | inl zr ↦ rw zr refl
  | inr other ↦ rw (other, other) (length-set r.x rt _)
]

pub small_base : (c : ℕ) → c < 18446744073709551616 → c % 18446744073709551616 ≡ c
small_base c small = omega (arith, small)

pub based_apart : (store : Bool) (width : Width) (rt value rn c n : ℕ) (r : Registers) → eqb rn 31 ≡ false → n ≢ rn
    → x_at (moved_and_based store width rt value rn c r) n ≡ x_at (moved store width rt value r) n
based_apart store width rt value rn c n r other apart =
    ap (λ q. x_at q n) (based store width rt value rn c r) ∙ rw other (get_or-set_other (moved store width rt value r).x rn n _ 0 apart)

pub based_here : (store : Bool) (width : Width) (rt value rn c : ℕ) (r : Registers) → eqb rn 31 ≡ false → rn < 31 → length r.x ≡ 31 → c < 18446744073709551616
    → x_at (moved_and_based store width rt value rn c r) rn ≡ c
based_here store width rt value rn c r other inside count small =
    let whole : length (moved store width rt value r).x ≡ 31 = moved_count store width rt value r ∙ count in
    ap (λ q. x_at q rn) (based store width rt value rn c r)
    ∙ rw other (get_or-set_at (moved store width rt value r).x rn rn _ 0 refl (subst (λ l. rn < l) (sym whole) inside) ∙ small_base c small)

pub based_stack : (store : Bool) (width : Width) (rt value rn c : ℕ) (r : Registers) → eqb rn 31 ≡ false
    → (moved_and_based store width rt value rn c r).sp ≡ (moved store width rt value r).sp
based_stack store width rt value rn c r other = ap (λ q. q.sp) (based store width rt value rn c r) ∙ rw other refl

-- an access, and a base that is changed with it
abbrev pub changing_at : Size → Transfer → (rt rn c : ℕ) → State → ℕ → State
changing_at size transfer rt rn c s a = record {
  registers = record (moved_and_based (is_store transfer) (data_width size transfer) rt (loaded s.memory size transfer a) rn c s.registers) { pc = following s.registers; nzcv = s.registers.nzcv };
  memory = written_at (Some (record { address = a; bytes = 2 ^ size_code size; stores = is_store transfer })) (stored_by size transfer (x_at s.registers rt)) s.memory;
}

-- The base first, and then the access.
base_first : (size : Size) (transfer : Transfer) (rt rn c : ℕ) (s : State) (r1 : Registers) → Changed r1 s.registers rn c → eqb rn 31 ≡ false → rn < 31 → rn ≢ rt
    → length s.registers.x ≡ 31 → c < 18446744073709551616 → Agree (at_address size transfer rt (record { registers = r1; memory = s.memory }) c) (changing_at size transfer rt rn c s c)
base_first size transfer rt rn c s r1 h other inside apart count small =
    let store = is_store transfer in
    let w = data_width size transfer in
    let v = loaded s.memory size transfer c in
    let r = s.registers in
    let data_same : x_at r1 rt ≡ x_at r rt = h.general rt (λ e. apart (sym e)) in
    let here : x_at (moved store w rt v r1) rn ≡ x_at (moved_and_based store w rt v rn c r) rn =
    moved_apart store w rt v rn r1 apart ∙ h.value ∙ sym (based_here store w rt v rn c r other inside count small) in
    record {
      general = λ n below kept. dite (ℕ_discrete n rn)
          (λ e. subst (λ m. x_at (moved store w rt v r1) m ≡ x_at (moved_and_based store w rt v rn c r) m) (sym e) here)
          (λ there. put_same store rt n v w r1 r (h.count ∙ sym count) (subst (λ l. n < l) (sym h.count) below) (h.general n there)
          ∙ sym (based_apart store w rt v rn c n r other there));
      stack = put_stack store rt v w r1 r h.stack ∙ sym (based_stack store w rt v rn c r other);
      flags = h.flags;
      memory = λ place. rw data_same refl;
    }

-- The access first, and then the base.
base_last : (size : Size) (transfer : Transfer) (rt rn c a : ℕ) (s : State) (r2 : Registers) → Changed r2 (at_address size transfer rt s a).registers rn c → eqb rn 31 ≡ false → rn < 31
    → length s.registers.x ≡ 31 → c < 18446744073709551616
    → Agree (record { registers = r2; memory = (at_address size transfer rt s a).memory }) (changing_at size transfer rt rn c s a)
base_last size transfer rt rn c a s r2 h other inside count small =
    let store = is_store transfer in
    let w = data_width size transfer in
    let v = loaded s.memory size transfer a in
    let r = s.registers in
    let here : x_at r2 rn ≡ x_at (moved_and_based store w rt v rn c r) rn = h.value ∙ sym (based_here store w rt v rn c r other inside count small) in
    record {
      general = λ n below kept. dite (ℕ_discrete n rn)
          (λ e. subst (λ m. x_at r2 m ≡ x_at (moved_and_based store w rt v rn c r) m) (sym e) here)
          (λ there. h.general n there ∙ sym (based_apart store w rt v rn c n r other there));
      stack = h.stack ∙ sym (based_stack store w rt v rn c r other);
      flags = h.flags;
      memory = λ place. refl;
    }

-- ---- the mends
pub displaced_by : (below : Bool) (bytes b : ℕ) → (below ≡ true → 1 ≤ bytes) → reached below bytes b ≡ displaced b (offset_of below bytes)
displaced_by true bytes b some = ap (λ d. (b + d) % 18446744073709551616) (omega (arith, some refl))
displaced_by false bytes b some = refl

pub reached_small : (below : Bool) (bytes b : ℕ) → reached below bytes b < 18446744073709551616
reached_small true bytes b = omega arith
reached_small false bytes b = omega arith

pub pre_same : (size : Size) (transfer : Transfer) (imm9 : ℤ) (rn rt : ℕ) (below : Bool) (bytes : ℕ) (is : List Instruction) → offset_of below bytes ≡ imm9 → bytes < 4096
    → (below ≡ true → 1 ≤ bytes) → eqb rn 31 ≡ false → eqb rn 21 ≡ false → rn < 32 → rn ≢ rt → is ≡ changing true size transfer rt rn below bytes
    → DoesTheSame [] is (instructions.SignedOffset (record { size = size; transfer = transfer; mode = modes.PreIndex; imm9 = imm9; rn = rn; rt = rt }))
pre_same size transfer imm9 rn rt below bytes is far fits some other no_base inside32 apart e s whole lies =
    let r = s.registers in
    let x = x_at r rn in
    let b = x_or_sp_at r rn in
    let c = reached below bytes x in
    let any = some_bytes size in
    let no_stack = eqb-false rn 31 other in
    let inside : rn < 31 = omega (arith, inside32, no_stack) in
    let same : b ≡ x = rw other refl in
    let there : c ≡ displaced b imm9 = ap (reached below bytes) (sym same) ∙ (displaced_by below bytes b some ∙ ap (displaced b) far) in
    let lie : InSlot r (record { address = c; bytes = 2 ^ size_code size; stores = is_store transfer }) =
    subst (λ a. InSlot r (record { address = a; bytes = 2 ^ size_code size; stores = is_store transfer })) (sym there) lies in
    let ch = changed below bytes rn s whole.count inside other fits (whole.fit rn) in
    let s1 = after (changed_of below bytes rn) s in
    let base : x_at s1.registers 21 ≡ x_at r 21 = ch.general 21 (λ q. eqb-false rn 21 no_base (sym q)) in
    let address : (x_at s1.registers 21 + x_at s1.registers rn % 4294967296 * 1) % 18446744073709551616 ≡ c =
    ap (λ q. (q + x_at s1.registers rn % 4294967296 * 1) % 18446744073709551616) base
    ∙ (ap (λ q. (x_at r 21 + q % 4294967296 * 1) % 18446744073709551616) ch.value
    ∙ same_address lie.slot (x_at r 21) c lie.base lie.room lie.first (omega (arith, lie.last, any))) in
    let core : Agree (at_address size transfer rt s1 c) (changing_at size transfer rt rn c s c) =
    base_first size transfer rt rn c s s1.registers ch other inside apart whole.count (reached_small below bytes x) in
    subst (λ l. Agree (after_all l s) (after (instructions.SignedOffset (record { size = size; transfer = transfer; mode = modes.PreIndex; imm9 = imm9; rn = rn; rt = rt })) s)) (sym e)
    (subst (λ d. Agree (after (access_of size transfer rn rt) s1) (changing_at size transfer rt rn d s d)) there
    (subst (λ a. Agree (at_address size transfer rt s1 a) (changing_at size transfer rt rn c s c)) (sym address) core))

pub post_same : (size : Size) (transfer : Transfer) (imm9 : ℤ) (rn rt : ℕ) (below : Bool) (bytes : ℕ) (is : List Instruction) → offset_of below bytes ≡ imm9 → bytes < 4096
    → (below ≡ true → 1 ≤ bytes) → eqb rn 31 ≡ false → rn < 32 → rn ≢ rt → is ≡ changing false size transfer rt rn below bytes
    → DoesTheSame [] is (instructions.SignedOffset (record { size = size; transfer = transfer; mode = modes.PostIndex; imm9 = imm9; rn = rn; rt = rt }))
post_same size transfer imm9 rn rt below bytes is far fits some other inside32 apart e s whole lies =
    let r = s.registers in
    let x = x_at r rn in
    let b = x_or_sp_at r rn in
    let c = reached below bytes x in
    let any = some_bytes size in
    let no_stack = eqb-false rn 31 other in
    let inside : rn < 31 = omega (arith, inside32, no_stack) in
    let same : b ≡ x = rw other refl in
    let there : c ≡ displaced b imm9 = ap (reached below bytes) (sym same) ∙ (displaced_by below bytes b some ∙ ap (displaced b) far) in
    let lie : InSlot r (record { address = x; bytes = 2 ^ size_code size; stores = is_store transfer }) =
    subst (λ a. InSlot r (record { address = a; bytes = 2 ^ size_code size; stores = is_store transfer })) same lies in
    let address : (x_at r 21 + x % 4294967296 * 1) % 18446744073709551616 ≡ x =
    same_address lie.slot (x_at r 21) x lie.base lie.room lie.first (omega (arith, lie.last, any)) in
    let between = at_address size transfer rt s x in
    let store = is_store transfer in
    let kept : x_at between.registers rn ≡ x = moved_apart store (data_width size transfer) rt (loaded s.memory size transfer x) rn r apart in
    let count : length between.registers.x ≡ 31 = moved_count store (data_width size transfer) rt (loaded s.memory size transfer x) r ∙ whole.count in
    let ch = changed below bytes rn between count inside other fits (subst (λ q. q < 18446744073709551616) (sym kept) (whole.fit rn)) in
    let ch2 : Changed (after (changed_of below bytes rn) between).registers between.registers rn c =
    subst (λ q. Changed (after (changed_of below bytes rn) between).registers between.registers rn (reached below bytes q)) kept ch in
    let core : Agree (after (changed_of below bytes rn) between) (changing_at size transfer rt rn c s x) =
    base_last size transfer rt rn c x s (after (changed_of below bytes rn) between).registers ch2 other inside whole.count (reached_small below bytes x) in
    subst (λ l. Agree (after_all l s) (after (instructions.SignedOffset (record { size = size; transfer = transfer; mode = modes.PostIndex; imm9 = imm9; rn = rn; rt = rt })) s)) (sym e)
    (subst (λ y. Agree (after (changed_of below bytes rn) (after (access_of size transfer rn rt) s)) (changing_at size transfer rt rn (displaced b imm9) s y)) (sym same)
    (subst (λ d. Agree (after (changed_of below bytes rn) (after (access_of size transfer rn rt) s)) (changing_at size transfer rt rn d s x)) there
    (subst (λ q. Agree (after (changed_of below bytes rn) (at_address size transfer rt s q)) (changing_at size transfer rt rn c s x)) (sym address) core)))

-- what the test of a base and of its data register says
pub record IsFreeBase (rn rt : ℕ) : Type 0 where
  pub stack : eqb rn 31 ≡ false
  pub base : eqb rn 21 ≡ false
  pub apart : rn ≢ rt

pub free_base : (rn rt : ℕ) → is_free rn ≡ true → (rn ≡ rt → rn ≡ 31) → IsFreeBase rn rt
free_base rn rt free only =
    let tests = and_parts (not (is_reserved rn)) (not (eqb rn 31)) free in
    let stack = not-true (eqb rn 31) tests.1 in
    record { stack = stack; base = (unreserved rn (not-true (is_reserved rn) tests.0)).base; apart = λ e. eqb-false rn 31 stack (only e) }
