-- Sums in w22, and accesses by them.
use Rattle.std.proofs.Common.{◌≡◌, ℕ, ◌+◌, ◌-◌, ◌*◌, ◌/◌, ◌%◌, ◌^◌, ◌<◌, ◌≤◌, eqb, eqb-true, Bool, true, false, List, [], ◌∷◌, ◌++◌, length, refl, ap, sym, subst, ◌∙◌, inl, inr, arith, lit≤}
use Rattle.std.specs.Prelude.{if◌then◌else◌, not, nat_lt, ℤ}
use Rattle.std.proofs.lemmas.Bool.{cases_Bool, eqb-false, and_parts, or_parts, not-true}
use Rattle.std.proofs.lemmas.List.{get_or-set_other, length-set}
use Rattle.std.proofs.lemmas.Grind.{get_or-set_at}
use Rattle.a64_word.specs.declared.instruction.Instruction.{Instruction}
use Rattle.a64_word.specs.declared.operands.Width.TheVariants as widths
use Rattle.a64_word.specs.declared.operands.Size.{Size}
use Rattle.a64_word.specs.declared.operands.Transfer.{Transfer}
use Rattle.a64_word.specs.Operands.{size_code}
use Rattle.a64_effects.specs.Effects.{is_store}
use Rattle.a64_semantics.specs.Registers.{x_at, x_or_sp_at, low_bits}
use Rattle.a64_semantics.specs.Sums.{sum_of, addend}
use Rattle.a64_word.specs.Operands.{bit}
use Rattle.a64_word.specs.declared.instruction.Instruction.TheVariants as instructions
use Rattle.a64_word.specs.declared.operands.IndexMode.TheVariants as modes
use Rattle.a64_semantics.specs.Accesses.{displaced, extended_index}
use Rattle.a64_word.specs.declared.operands.IndexExtend.{IndexExtend}
use Rattle.a64_word.specs.declared.operands.IndexExtend.TheVariants as indexes
use Rattle.a64_word.specs.declared.operands.Size.TheVariants as sizes
use Rattle.lfi_mends.specs.Outcomes.{State, Agree, IsWhole, InSlot, DoesTheSame, after, after_all}
use Rattle.lfi_mends.specs.inner.Rows.{sum_of_immediate, access_of, is_bare, index_of, sums, accessed, offset_of, sum_of_index, amount_of, indexed}
use Rattle.lfi_mends.proofs.Same.{at_address, some_bytes, agree_at}
use Rattle.lfi_mends.proofs.Beside.{agree_after}
use Rattle.lfi_mends.proofs.Addresses.{same_address}

-- a state that differs from another in x22 alone, which holds a value
pub record Summed (s2 s : State) (v : ℕ) : Type 0 where
  pub general : (n : ℕ) → eqb n 22 ≡ false → x_at s2.registers n ≡ x_at s.registers n
  pub value : x_at s2.registers 22 ≡ v
  pub stack : s2.registers.sp ≡ s.registers.sp
  pub flags : s2.registers.nzcv ≡ s.registers.nzcv
  pub count : length s2.registers.x ≡ 31
  pub memory : s2.memory ≡ s.memory

-- what a sum makes of its operand
abbrev pub sum_value : (subtract : Bool) → (second b : ℕ) → ℕ
sum_value subtract second b = low_bits widths.W (sum_of widths.W (b % 2 ^ 32) (addend widths.W subtract second) (bit subtract))

abbrev pub second_of : (shifted : Bool) → ℕ → ℕ
second_of shifted imm12 = if shifted then imm12 * 2 ^ 12 else imm12

summed_once : (subtract shifted : Bool) (imm12 rn : ℕ) (s : State) → length s.registers.x ≡ 31
    → Summed (after (sum_of_immediate 22 subtract shifted imm12 rn) s) s (sum_value subtract (second_of shifted imm12) (x_or_sp_at s.registers rn))
summed_once subtract shifted imm12 rn s count = record {
  general = λ n other. get_or-set_other s.registers.x 22 n _ 0 (eqb-false n 22 other);
  value = get_or-set_at s.registers.x 22 22 _ 0 refl (subst (λ l. 22 < l) (sym count) (lit≤ tt));
  stack = refl;
  flags = refl;
  count = length-set s.registers.x 22 _ ∙ count;
  memory = refl;
}

summed_twice : (subtract shifted : Bool) (imm12 v : ℕ) (s s2 : State) → Summed s2 s v
    → Summed (after (sum_of_immediate 22 subtract shifted imm12 22) s2) s (sum_value subtract (second_of shifted imm12) v)
summed_twice subtract shifted imm12 v s s2 h =
    let once = summed_once subtract shifted imm12 22 s2 h.count in record {
      general = λ n other. once.general n other ∙ h.general n other;
      value = once.value ∙ ap (λ b. sum_value subtract (second_of shifted imm12) b) h.value;
      stack = once.stack ∙ h.stack;
      flags = once.flags ∙ h.flags;
      count = once.count;
      memory = once.memory ∙ h.memory;
    }

-- a base and a distance, of 32 bits
abbrev pub moved : (below : Bool) → (bytes b : ℕ) → ℕ
moved true bytes b = (b % 4294967296 + 4294967296 - bytes) % 4294967296
moved false bytes b = (b % 4294967296 + bytes) % 4294967296

pub near_value : (below : Bool) (bytes b : ℕ) → bytes / 4096 ≡ 0 → sum_value below (bytes % 4096) b ≡ moved below bytes b
near_value true bytes b near = omega (arith, near)
near_value false bytes b near = omega (arith, near)

pub round_value : (below : Bool) (bytes b : ℕ) → bytes < 32768 → bytes % 4096 ≡ 0 → sum_value below (bytes / 4096 * 4096) b ≡ moved below bytes b
round_value true bytes b fits round = omega (arith, fits, round)
round_value false bytes b fits round = omega (arith, fits, round)

pub far_value : (below : Bool) (bytes b : ℕ) → bytes < 32768 → sum_value below (bytes % 4096) (sum_value below (bytes / 4096 * 4096) b) ≡ moved below bytes b
far_value true bytes b fits = omega (arith, fits)
far_value false bytes b fits = omega (arith, fits)

with_value : (s2 s : State) (v w : ℕ) → v ≡ w → Summed s2 s v → Summed s2 s w
with_value s2 s v w e h = subst (Summed s2 s) e h

-- The sum, where the address isn't the base alone.
pub summed : (rn : ℕ) (below : Bool) (bytes : ℕ) (s : State) → bytes < 32768 → length s.registers.x ≡ 31 → is_bare rn bytes ≡ false
    → Summed (after_all (sums 22 rn below bytes) s) s (moved below bytes (x_or_sp_at s.registers rn))
summed rn below bytes s fits count other =
    let b = x_or_sp_at s.registers rn in
    let first = sum_of_immediate 22 below true (bytes / 4096) rn in
    elim (cases_Bool (eqb (bytes / 4096) 0)) [
      | inl near ↦ rw (other, near) (with_value _ s _ _ (near_value below bytes b (eqb-true (bytes / 4096) 0 near)) (summed_once below false (bytes % 4096) rn s count))
      | inr far ↦ elim (cases_Bool (eqb (bytes % 4096) 0)) [
        | inl round ↦ rw (other, far, round) (with_value _ s _ _ (round_value below bytes b fits (eqb-true (bytes % 4096) 0 round)) (summed_once below true (bytes / 4096) rn s count))
        | inr rest ↦ rw (other, far, rest)
            (with_value _ s _ _ (far_value below bytes b fits) (summed_twice below false (bytes % 4096) _ s (after first s) (summed_once below true (bytes / 4096) rn s count)))
      ]
    ]

-- An access at x21 and w22, where w22 holds the lowest bits of an address.
by_sum : (size : Size) (transfer : Transfer) (rt v a : ℕ) (s s2 : State) → Summed s2 s v → eqb rt 22 ≡ false → length s.registers.x ≡ 31
    → (x_at s.registers 21 + v % 4294967296 * 1) % 18446744073709551616 ≡ a
    → Agree (after (access_of size transfer 22 rt) s2) (at_address size transfer rt s a)
by_sum size transfer rt v a s s2 h other count e =
    let r2 = s2.registers in
    let base : x_at r2 21 ≡ x_at s.registers 21 = h.general 21 refl in
    let value : x_at r2 22 ≡ v = h.value in
    let address : (x_at r2 21 + x_at r2 22 % 4294967296 * 1) % 18446744073709551616 ≡ a = rw (base, value) e in
    let agree : Agree (record { registers = r2; memory = s.memory }) s = record {
      general = λ n below kept. h.general n (or_parts _ _ kept).1;
      stack = h.stack;
      flags = h.flags;
      memory = λ place. refl;
    } in
    let same : Agree (at_address size transfer rt (record { registers = r2; memory = s.memory }) a) (at_address size transfer rt s a) =
    agree_after size transfer rt r2 s.registers s.memory a h.count count (h.general rt other) agree in
    let here : Agree (at_address size transfer rt (record { registers = r2; memory = s2.memory }) a) (at_address size transfer rt s a) =
    subst (λ m. Agree (at_address size transfer rt (record { registers = r2; memory = m }) a) (at_address size transfer rt s a)) (sym h.memory) same in
    subst (λ x. Agree (at_address size transfer rt s2 x) (at_address size transfer rt s a)) (sym address) here

-- a base and a distance, of 64 bits
abbrev pub reached : (below : Bool) → (bytes b : ℕ) → ℕ
reached true bytes b = (b + (18446744073709551616 - bytes)) % 18446744073709551616
reached false bytes b = (b + bytes) % 18446744073709551616

pub moved_in_slot : (below : Bool) (base b bytes slot : ℕ) → bytes < 32768 → base ≡ slot * 4294967296 → (slot + 1) * 4294967296 ≤ 18446744073709551616
    → slot * 4294967296 ≤ reached below bytes b → reached below bytes b < (slot + 1) * 4294967296
    → (base + moved below bytes b % 4294967296 * 1) % 18446744073709551616 ≡ reached below bytes b
moved_in_slot true base b bytes slot fits e room first last = omega (arith, fits, e, room, first, last)
moved_in_slot false base b bytes slot fits e room first last = omega (arith, fits, e, room, first, last)

pub after_more : (is js : List Instruction) (s : State) → after_all (is ++ js) s ≡ after_all js (after_all is s)
after_more [] js s = refl
after_more (i ∷ is) js s = after_more is js (after i s)

-- by no distance
pub reached_none : (below : Bool) (bytes b : ℕ) → bytes ≡ 0 → b < 18446744073709551616 → reached below bytes b ≡ b
reached_none true bytes b none fits = omega (arith, none, fits)
reached_none false bytes b none fits = omega (arith, none, fits)

-- what an access at a base and a distance does
abbrev pub accesses_at : Size → Transfer → (rt rn : ℕ) → (below : Bool) → (bytes : ℕ) → State → State
accesses_at size transfer rt rn below bytes s = at_address size transfer rt s (reached below bytes (x_or_sp_at s.registers rn))

abbrev pub lies_at : Size → Transfer → (rn : ℕ) → (below : Bool) → (bytes : ℕ) → State → Type 0
lies_at size transfer rn below bytes s =
    InSlot s.registers (record { address = reached below bytes (x_or_sp_at s.registers rn); bytes = 2 ^ size_code size; stores = is_store transfer })

at_base : (size : Size) (transfer : Transfer) (rt rn : ℕ) (below : Bool) (bytes : ℕ) (s : State) → IsWhole s.registers → lies_at size transfer rn below bytes s
    → bytes ≡ 0 → eqb rn 31 ≡ false → Agree (after (access_of size transfer rn rt) s) (accesses_at size transfer rt rn below bytes s)
at_base size transfer rt rn below bytes s whole lies none other =
    let x = x_at s.registers rn in
    let b = x_or_sp_at s.registers rn in
    let small = whole.fit rn in
    let some = some_bytes size in
    let same : b ≡ x = rw other refl in
    let here : reached below bytes b ≡ b = reached_none below bytes b none (omega (arith, small, same)) in
    agree_at size transfer rt s _ _
    (same_address lies.slot (x_at s.registers 21) x lies.base lies.room (omega (arith, lies.first, here, same)) (omega (arith, lies.last, some, here, same)) ∙ sym (here ∙ same))

-- An access at a base and a distance.
pub same_access : (size : Size) (transfer : Transfer) (rt rn : ℕ) (below : Bool) (bytes : ℕ) (s : State) → bytes < 32768 → eqb rt 22 ≡ false → IsWhole s.registers
    → lies_at size transfer rn below bytes s → Agree (after_all (accessed size transfer rt rn below bytes) s) (accesses_at size transfer rt rn below bytes s)
same_access size transfer rt rn below bytes s fits other whole lies = elim (cases_Bool (is_bare rn bytes)) [
  | inl bare ↦
      let tests = and_parts (eqb bytes 0) (not (eqb rn 31)) bare in
      let none : sums 22 rn below bytes ≡ [] = rw bare refl in
      let index : index_of 22 rn bytes ≡ rn = rw bare refl in
      subst (λ is. Agree (after_all (is ++ access_of size transfer (index_of 22 rn bytes) rt ∷ []) s) (accesses_at size transfer rt rn below bytes s)) (sym none)
      (subst (λ j. Agree (after (access_of size transfer j rt) s) (accesses_at size transfer rt rn below bytes s)) (sym index)
      (at_base size transfer rt rn below bytes s whole lies (eqb-true bytes 0 tests.0) (not-true _ tests.1)))
  | inr sum ↦
      let some = some_bytes size in
      let index : index_of 22 rn bytes ≡ 22 = rw sum refl in
      subst (λ j. Agree (after_all (sums 22 rn below bytes ++ access_of size transfer j rt ∷ []) s) (accesses_at size transfer rt rn below bytes s)) (sym index)
      (subst (λ t. Agree t (accesses_at size transfer rt rn below bytes s)) (sym (after_more (sums 22 rn below bytes) (access_of size transfer 22 rt ∷ []) s))
      (by_sum size transfer rt _ _ s _ (summed rn below bytes s fits whole.count sum) other whole.count
      (moved_in_slot below _ (x_or_sp_at s.registers rn) bytes lies.slot fits lies.base lies.room lies.first (omega (arith, lies.last, some)))))
]

-- What mends of plain accesses do, at an unsigned offset and at a signed one.
pub unsigned_same : (size : Size) (transfer : Transfer) (imm12 rn rt bytes : ℕ) (is : List Instruction) → bytes ≡ imm12 * 2 ^ size_code size → bytes < 32768
    → eqb rt 22 ≡ false → is ≡ accessed size transfer rt rn false bytes
    → DoesTheSame [] is (instructions.UnsignedOffset (record { size = size; transfer = transfer; imm12 = imm12; rn = rn; rt = rt }))
unsigned_same size transfer imm12 rn rt bytes is far fits free e s whole lies =
    let there : reached false bytes (x_or_sp_at s.registers rn) ≡ (x_or_sp_at s.registers rn + imm12 * 2 ^ size_code size) % 18446744073709551616 =
    ap (λ d. (x_or_sp_at s.registers rn + d) % 18446744073709551616) far in
    let lie : lies_at size transfer rn false bytes s =
    subst (λ a. InSlot s.registers (record { address = a; bytes = 2 ^ size_code size; stores = is_store transfer })) (sym there) lies in
    subst (λ l. Agree (after_all l s) (after (instructions.UnsignedOffset (record { size = size; transfer = transfer; imm12 = imm12; rn = rn; rt = rt })) s)) (sym e)
    (subst (λ a. Agree (after_all (accessed size transfer rt rn false bytes) s) (at_address size transfer rt s a)) there
    (same_access size transfer rt rn false bytes s fits free whole lie))

pub signed_same : (size : Size) (transfer : Transfer) (imm9 : ℤ) (rn rt : ℕ) (below : Bool) (bytes : ℕ) (is : List Instruction) → offset_of below bytes ≡ imm9 → bytes < 32768
    → (below ≡ true → 1 ≤ bytes) → eqb rt 22 ≡ false → is ≡ accessed size transfer rt rn below bytes
    → DoesTheSame [] is (instructions.SignedOffset (record { size = size; transfer = transfer; mode = modes.Unscaled; imm9 = imm9; rn = rn; rt = rt }))
signed_same size transfer imm9 rn rt below bytes is far fits some free e s whole lies =
    let b = x_or_sp_at s.registers rn in
    let there : reached below bytes b ≡ displaced b imm9 = displaced_by below bytes b some ∙ ap (displaced b) far in
    let lie : lies_at size transfer rn below bytes s =
    subst (λ a. InSlot s.registers (record { address = a; bytes = 2 ^ size_code size; stores = is_store transfer })) (sym there) lies in
    subst (λ l. Agree (after_all l s) (after (instructions.SignedOffset (record { size = size; transfer = transfer; mode = modes.Unscaled; imm9 = imm9; rn = rn; rt = rt })) s)) (sym e)
    (subst (λ a. Agree (after_all (accessed size transfer rt rn below bytes) s) (at_address size transfer rt s a)) there
    (same_access size transfer rt rn below bytes s fits free whole lie))
  where
    displaced_by : (below : Bool) (bytes b : ℕ) → (below ≡ true → 1 ≤ bytes) → reached below bytes b ≡ displaced b (offset_of below bytes)
    displaced_by true bytes b some = ap (λ d. (b + d) % 18446744073709551616) (omega (arith, some refl))
    displaced_by false bytes b some = refl

-- ---- by an index
summed_index : (amount rm rn : ℕ) (s : State) → length s.registers.x ≡ 31
    → Summed (after (sum_of_index 22 amount rm rn) s) s
    (low_bits widths.W (sum_of widths.W (x_or_sp_at s.registers rn % 2 ^ 32) (x_at s.registers rm % 2 ^ 32 * 2 ^ amount % 2 ^ 32) 0))
summed_index amount rm rn s count = record {
  general = λ n other. get_or-set_other s.registers.x 22 n _ 0 (eqb-false n 22 other);
  value = get_or-set_at s.registers.x 22 22 _ 0 refl (subst (λ l. 22 < l) (sym count) (lit≤ tt));
  stack = refl;
  flags = refl;
  count = length-set s.registers.x 22 _ ∙ count;
  memory = refl;
}

-- The lowest bits of an index are those of its register, however it is extended.
pub index_low : (extend : IndexExtend) (x : ℕ) → extended_index extend x % 4294967296 ≡ x % 4294967296
index_low indexes.Uxtw x = omega arith
index_low indexes.Lsl x = refl
index_low indexes.Sxtx x = refl
index_low indexes.Sxtw x = elim (cases_Bool (nat_lt (x % 4294967296) 2147483648)) [
  | inl low ↦ rw low (omega arith)
  | inr high ↦ rw high (omega arith)
]

abbrev pub factor_of : Size → (scaled : Bool) → ℕ
factor_of size scaled = if scaled then 2 ^ size_code size else 1

pub index_in_slot : (size : Size) (scaled : Bool) (base b e x slot : ℕ) → e % 4294967296 ≡ x % 4294967296 → base ≡ slot * 4294967296 → (slot + 1) * 4294967296 ≤ 18446744073709551616
    → slot * 4294967296 ≤ (b + e * factor_of size scaled) % 18446744073709551616 → (b + e * factor_of size scaled) % 18446744073709551616 < (slot + 1) * 4294967296
    → (base + (b % 4294967296 + x % 4294967296 * 2 ^ amount_of size scaled % 4294967296 + 0) % 4294967296 % 4294967296 % 4294967296 * 1) % 18446744073709551616
    ≡ (b + e * factor_of size scaled) % 18446744073709551616
index_in_slot size false base b e x slot low at room first last = omega (arith, low, at, room, first, last)
index_in_slot sizes.Byte true base b e x slot low at room first last = omega (arith, low, at, room, first, last)
index_in_slot sizes.Half true base b e x slot low at room first last = omega (arith, low, at, room, first, last)
index_in_slot sizes.Word true base b e x slot low at room first last = omega (arith, low, at, room, first, last)
index_in_slot sizes.Double true base b e x slot low at room first last = omega (arith, low, at, room, first, last)

pub index_same : (size : Size) (transfer : Transfer) (rm : ℕ) (extend : IndexExtend) (scaled : Bool) (rn rt : ℕ) (is : List Instruction) → eqb rt 22 ≡ false
    → is ≡ indexed 22 size transfer rt rn rm (amount_of size scaled)
    → DoesTheSame [] is (instructions.RegisterOffset (record { size = size; transfer = transfer; rm = rm; extend = extend; scaled = scaled; rn = rn; rt = rt }))
index_same size transfer rm extend scaled rn rt is free e s whole lies =
    let b = x_or_sp_at s.registers rn in
    let x = x_at s.registers rm in
    let some = some_bytes size in
    let refused = instructions.RegisterOffset (record { size = size; transfer = transfer; rm = rm; extend = extend; scaled = scaled; rn = rn; rt = rt }) in
    subst (λ l. Agree (after_all l s) (after refused s)) (sym e)
    (by_sum size transfer rt _ _ s _ (summed_index (amount_of size scaled) rm rn s whole.count) free whole.count
    (index_in_slot size scaled _ b (extended_index extend x) x lies.slot (index_low extend x) lies.base lies.room lies.first (omega (arith, lies.last, some))))
