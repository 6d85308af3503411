-- What single instructions of mends do to a state.
use Rattle.std.proofs.Common.{◌≡◌, ◌≢◌, ℕ, ◌+◌, ◌*◌, ◌/◌, ◌%◌, ◌^◌, ◌<◌, ◌≤◌, eqb, eqb-true, Bool, true, false, length, Some, refl, ap, sym, subst, ◌∙◌, inl, inr, arith, lit≤, true≢false}
use Rattle.std.specs.Prelude.{not, ◌||◌}
use Rattle.std.proofs.lemmas.Bool.{cases_Bool, eqb-false, or_cases, or_parts, not-true}
use Rattle.std.proofs.lemmas.List.{get_or-set_other, get_or_past, length-set}
use Rattle.std.specs.Int.Bits.{bit_or, or_zero_l}
use Rattle.std.proofs.lemmas.Grind.{get_or-set_at}
use Rattle.a64_word.specs.declared.operands.Width.{Width}
use Rattle.a64_word.specs.declared.operands.Width.TheVariants as widths
use Rattle.a64_word.specs.declared.operands.Size.{Size}
use Rattle.a64_word.specs.declared.operands.Size.TheVariants as sizes
use Rattle.a64_word.specs.declared.operands.Transfer.{Transfer}
use Rattle.a64_word.specs.declared.operands.Transfer.TheVariants as transfers
use Rattle.a64_word.specs.Operands.{size_code}
use Rattle.a64_effects.specs.Effects.{is_store, data_width}
use Rattle.a64_semantics.specs.declared.registers.Registers.{Registers}
use Rattle.a64_semantics.specs.Registers.{x_at, x_or_sp_at, low_bits}
use Rattle.a64_semantics.specs.Sums.{sum_of}
use Rattle.a64_semantics.specs.Accesses.{loaded, stored_by}
use Rattle.lfi_mends.specs.Registers.{is_reserved, may_move}
use Rattle.lfi_mends.specs.Outcomes.{State, after, after_all, written_at, bounded_in}
use Rattle.lfi_mends.specs.inner.Rows.{sum_of_immediate, sum_of_index, is_bare, sums, guard_of, copy_of, put_of, loads_link, access_with}
use Rattle.lfi_mends.proofs.Standing.{unreserved}
use Rattle.lfi_mends.proofs.Same.{at_address}
use Rattle.lfi_mends.proofs.Summed.{sum_value, second_of, moved, near_value, round_value, far_value}
use Rattle.lfi_mends.proofs.Changed.{moved_apart, moved_count}
use Rattle.lfi_mends.proofs.Changed as changed

-- one state differs from another in one register, which holds a value
pub record Sets (s2 s : State) (d v : ℕ) : Type 0 where
  pub general : (n : ℕ) → n ≢ d → x_at s2.registers n ≡ x_at s.registers n
  pub value : x_at s2.registers d ≡ v
  pub stack : s2.registers.sp ≡ s.registers.sp
  pub flags : s2.registers.nzcv ≡ s.registers.nzcv
  pub count : length s2.registers.x ≡ 31
  pub memory : s2.memory ≡ s.memory

not-false : (b : Bool) → not b ≡ false → b ≡ true
not-false true h = refl
not-false false h = absurd (true≢false h)

pub sets_value : (s2 s : State) (d v w : ℕ) → v ≡ w → Sets s2 s d v → Sets s2 s d w
sets_value s2 s d v w e h = subst (Sets s2 s d) e h

pub no_stack : (d : ℕ) → d < 31 → eqb d 31 ≡ false
no_stack d below = elim (cases_Bool (eqb d 31)) [
  | inl same ↦ let e = eqb-true d 31 same in absurd (omega (arith, e, below))
  | inr other ↦ other
]

pub sum_sets : (into : ℕ) (subtract shifted : Bool) (imm12 rn : ℕ) (s : State) → length s.registers.x ≡ 31 → into < 31
    → Sets (after (sum_of_immediate into subtract shifted imm12 rn) s) s into (sum_value subtract (second_of shifted imm12) (x_or_sp_at s.registers rn))
sum_sets into subtract shifted imm12 rn s count below = let other = no_stack into below in rw other (record {
  general = λ n apart. get_or-set_other s.registers.x into n _ 0 apart;
  value = get_or-set_at s.registers.x into into _ 0 refl (subst (λ l. into < l) (sym count) below);
  stack = refl;
  flags = refl;
  count = length-set s.registers.x into _ ∙ count;
  memory = refl;
})

pub index_sum_sets : (into amount rm rn : ℕ) (s : State) → length s.registers.x ≡ 31 → into < 31
    → Sets (after (sum_of_index into amount rm rn) s) s into
    (low_bits widths.W (sum_of widths.W (x_or_sp_at s.registers rn % 2 ^ 32) (x_at s.registers rm % 2 ^ 32 * 2 ^ amount % 2 ^ 32) 0))
index_sum_sets into amount rm rn s count below = let other = no_stack into below in rw other (record {
  general = λ n apart. get_or-set_other s.registers.x into n _ 0 apart;
  value = get_or-set_at s.registers.x into into _ 0 refl (subst (λ l. into < l) (sym count) below);
  stack = refl;
  flags = refl;
  count = length-set s.registers.x into _ ∙ count;
  memory = refl;
})

-- One value after another in the same register.
sets_again : (s3 s2 s : State) (d v w : ℕ) → Sets s2 s d v → Sets s3 s2 d w → Sets s3 s d w
sets_again s3 s2 s d v w h g = record {
  general = λ n apart. g.general n apart ∙ h.general n apart;
  value = g.value;
  stack = g.stack ∙ h.stack;
  flags = g.flags ∙ h.flags;
  count = g.count;
  memory = g.memory ∙ h.memory;
}

-- The sum of a base and a distance, in any register.
pub sums_set : (into rn : ℕ) (below : Bool) (bytes : ℕ) (s : State) → bytes < 32768 → length s.registers.x ≡ 31 → into < 31 → is_bare rn bytes ≡ false
    → Sets (after_all (sums into rn below bytes) s) s into (moved below bytes (x_or_sp_at s.registers rn))
sums_set into rn below bytes s fits count inside other =
    let b = x_or_sp_at s.registers rn in
    let s1 = after (sum_of_immediate into below true (bytes / 4096) rn) s in
    let stack = no_stack into inside in
    elim (cases_Bool (eqb (bytes / 4096) 0)) [
      | inl near ↦ rw (other, near) (sets_value _ s into _ _ (near_value below bytes b (eqb-true (bytes / 4096) 0 near)) (sum_sets into below false (bytes % 4096) rn s count inside))
      | inr far ↦ elim (cases_Bool (eqb (bytes % 4096) 0)) [
        | inl round ↦ rw (other, far, round)
            (sets_value _ s into _ _ (round_value below bytes b fits (eqb-true (bytes % 4096) 0 round)) (sum_sets into below true (bytes / 4096) rn s count inside))
        | inr rest ↦
            let first = sum_sets into below true (bytes / 4096) rn s count inside in
            let second = sum_sets into below false (bytes % 4096) into s1 first.count inside in
            let operand : x_or_sp_at s1.registers into ≡ x_at s1.registers into = rw stack refl in
            let value = ap (sum_value below (bytes % 4096)) (operand ∙ first.value) ∙ far_value below bytes b fits in
            rw (other, far, rest) (sets_value _ s into _ _ value (sets_again _ s1 s into _ _ first second))
      ]
    ]

-- ---- the guard, and the copy into x22
-- where the slot begins, in a state
pub record HasSlot (s : State) : Type 0 where
  pub slot : ℕ
  pub base : x_at s.registers 21 ≡ slot * 4294967296
  pub room : (slot + 1) * 4294967296 ≤ 18446744073709551616
  pub count : length s.registers.x ≡ 31

guarded_value : (base x slot : ℕ) → base ≡ slot * 4294967296 → (slot + 1) * 4294967296 ≤ 18446744073709551616
    → (base + x % 4294967296 * 1 % 18446744073709551616 + 0) % 18446744073709551616 % 18446744073709551616 ≡ base + x % 4294967296
guarded_value base x slot e room = omega (arith, e, room)

pub guard_sets : (rd rm : ℕ) (s : State) → HasSlot s → rd < 31 → Sets (after (guard_of rd rm) s) s rd (x_at s.registers 21 + x_at s.registers rm % 4294967296)
guard_sets rd rm s h below = let other = no_stack rd below in rw other (record {
  general = λ n apart. get_or-set_other s.registers.x rd n _ 0 apart;
  value = get_or-set_at s.registers.x rd rd _ 0 refl (subst (λ l. rd < l) (sym h.count) below) ∙ guarded_value (x_at s.registers 21) (x_at s.registers rm) h.slot h.base h.room;
  stack = refl;
  flags = refl;
  count = length-set s.registers.x rd _ ∙ h.count;
  memory = refl;
})

copied_value : (none x : ℕ) → none ≡ 0 → bit_or (none % 4294967296) (x % 4294967296 * 1 % 4294967296) % 4294967296 ≡ x % 4294967296
copied_value none x e =
    let y = x % 4294967296 * 1 % 4294967296 in
    let nothing : none % 4294967296 ≡ 0 = omega (arith, e) in
    ap (λ b. bit_or b y % 4294967296) nothing ∙ (ap (λ b. b % 4294967296) (or_zero_l y) ∙ omega arith)

pub copy_sets : (rm : ℕ) (s : State) → length s.registers.x ≡ 31 → Sets (after (copy_of rm) s) s 22 (x_at s.registers rm % 4294967296)
copy_sets rm s count = record {
  general = λ n apart. get_or-set_other s.registers.x 22 n _ 0 apart;
  value = get_or-set_at s.registers.x 22 22 _ 0 refl (subst (λ l. 22 < l) (sym count) (lit≤ tt))
      ∙ copied_value (x_at s.registers 31) (x_at s.registers rm) (get_or_past s.registers.x 31 0 (omega (arith, count)));
  stack = refl;
  flags = refl;
  count = length-set s.registers.x 22 _ ∙ count;
  memory = refl;
}

-- ---- what a register may hold
pub unbounded : (base rt v : ℕ) → is_reserved rt ≡ false → bounded_in base rt v ≡ v
unbounded base rt v free = let u = unreserved rt free in rw (u.offset, u.first_address, u.second_address, u.third_address, u.link) refl

bounded_address : (base rt v : ℕ) → eqb rt 22 ≡ false → (eqb rt 18 || eqb rt 23 || eqb rt 24 || eqb rt 30) ≡ true → bounded_in base rt v ≡ base + v % 4294967296
bounded_address base rt v other address = rw (other, address) refl

in_another_order : (a b c d e f : Bool) → (a || (b || (c || (d || (e || f))))) ≡ true → b ≡ false → c ≡ false → (a || d || e || f) ≡ true
in_another_order true b c true true f h other other2 = refl
in_another_order true b c true false f h other other2 = refl
in_another_order true b c false true f h other other2 = refl
in_another_order true b c false false f h other other2 = refl
in_another_order false b c true true f h other other2 = refl
in_another_order false b c true false f h other other2 = refl
in_another_order false b c false true f h other other2 = refl
in_another_order false false false false false f h other other2 = h
in_another_order false true c false false f h other other2 = absurd (true≢false other)
in_another_order false false true false false f h other other2 = absurd (true≢false other2)

pub address_bounded : (base rt v : ℕ) → is_reserved rt ≡ true → eqb rt 21 ≡ false → eqb rt 22 ≡ false → bounded_in base rt v ≡ base + v % 4294967296
address_bounded base rt v reserved other other2 = bounded_address base rt v other2 (in_another_order (eqb rt 18) (eqb rt 21) (eqb rt 22) (eqb rt 23) (eqb rt 24) (eqb rt 30) reserved other other2)

-- ---- an access of any register
-- One state differs from another by an access of a register at an address, and in a scratch register.
pub record Moved (s2 s : State) (size : Size) (transfer : Transfer) (rt scratch a : ℕ) : Type 0 where
  pub general : (n : ℕ) → n ≢ scratch → (is_store transfer ≡ false → n ≢ rt) → x_at s2.registers n ≡ x_at s.registers n
  pub value : is_store transfer ≡ false → rt < 31
      → x_at s2.registers rt ≡ bounded_in (x_at s.registers 21) rt (low_bits (data_width size transfer) (loaded s.memory size transfer a))
  pub stack : s2.registers.sp ≡ s.registers.sp
  pub flags : s2.registers.nzcv ≡ s.registers.nzcv
  pub count : length s2.registers.x ≡ 31
  pub memory : s2.memory ≡ written_at (Some (record { address = a; bytes = 2 ^ size_code size; stores = is_store transfer })) (stored_by size transfer (x_at s.registers rt)) s.memory

pub moved_other : (store : Bool) (width : Width) (rt value n : ℕ) (r : Registers) → (store ≡ false → n ≢ rt) → x_at (changed.moved store width rt value r) n ≡ x_at r n
moved_other true width rt value n r apart = refl
moved_other false width rt value n r apart = moved_apart false width rt value n r (apart refl)

pub moved_here : (store : Bool) (width : Width) (rt value : ℕ) (r : Registers) → store ≡ false → rt < 31 → length r.x ≡ 31 → x_at (changed.moved store width rt value r) rt ≡ low_bits width value
moved_here true width rt value r load below count = absurd (true≢false load)
moved_here false width rt value r load below count =
    let other = no_stack rt below in rw (other, other) (get_or-set_at r.x rt rt _ 0 refl (subst (λ l. rt < l) (sym count) below))

pub moved_stack : (store : Bool) (width : Width) (rt value : ℕ) (r : Registers) → (changed.moved store width rt value r).sp ≡ r.sp
moved_stack true width rt value r = refl
moved_stack false width rt value r = elim (cases_Bool (eqb rt 31)) [
  | inl zr ↦ rw zr refl
  | inr other ↦ rw (other, other) refl
]

-- of a register that isn't reserved, or that is stored
plain_moved : (size : Size) (transfer : Transfer) (rt scratch a : ℕ) (s : State) → length s.registers.x ≡ 31 → may_move transfer rt ≡ true
    → Moved (at_address size transfer rt s a) s size transfer rt scratch a
plain_moved size transfer rt scratch a s count may =
    let w = data_width size transfer in
    let v = loaded s.memory size transfer a in
    record {
      general = λ n apart other. moved_other (is_store transfer) w rt v n s.registers other;
      value = λ load below.
          let free : is_reserved rt ≡ false = not-true (is_reserved rt) (rw load at may) in
          moved_here (is_store transfer) w rt v s.registers load below count ∙ sym (unbounded (x_at s.registers 21) rt (low_bits w v) free);
      stack = moved_stack (is_store transfer) w rt v s.registers;
      flags = refl;
      count = moved_count (is_store transfer) w rt v s.registers ∙ count;
      memory = refl;
    }

-- a state after an access still has its slot
slot_kept : (size : Size) (transfer : Transfer) (rt a : ℕ) (s : State) → HasSlot s → eqb rt 21 ≡ false → HasSlot (at_address size transfer rt s a)
slot_kept size transfer rt a s h other = record {
  slot = h.slot;
  base = moved_other (is_store transfer) (data_width size transfer) rt (loaded s.memory size transfer a) 21 s.registers (λ load e. eqb-false rt 21 other (sym e)) ∙ h.base;
  room = h.room;
  count = moved_count (is_store transfer) (data_width size transfer) rt (loaded s.memory size transfer a) s.registers ∙ h.count;
}

-- of x30
pub link_moved : (scratch a : ℕ) (s : State) → HasSlot s → Moved (after (guard_of 30 30) (at_address sizes.Double transfers.Load 30 s a)) s sizes.Double transfers.Load 30 scratch a
link_moved scratch a s h =
    let v = loaded s.memory sizes.Double transfers.Load a in
    let s1 = at_address sizes.Double transfers.Load 30 s a in
    let g = guard_sets 30 30 s1 (slot_kept sizes.Double transfers.Load 30 a s h refl) (lit≤ tt) in
    let loads : x_at s1.registers 30 ≡ low_bits widths.X v = moved_here false widths.X 30 v s.registers refl (lit≤ tt) h.count in
    let base : x_at s1.registers 21 ≡ x_at s.registers 21 = moved_apart false widths.X 30 v 21 s.registers (λ e. absurd (omega (arith, e))) in
    record {
      general = λ n apart other. g.general n (other refl) ∙ moved_apart false widths.X 30 v n s.registers (other refl);
      value = λ load below. g.value ∙ (ap (λ b. b + x_at s1.registers 30 % 4294967296) base ∙ ap (λ x. x_at s.registers 21 + x % 4294967296) loads);
      stack = g.stack ∙ moved_stack false widths.X 30 v s.registers;
      flags = g.flags;
      count = g.count;
      memory = g.memory;
    }

-- of another reserved register, by a scratch register
put_moved : (size : Size) (transfer : Transfer) (rt scratch a : ℕ) (s : State) → HasSlot s → is_store transfer ≡ false → is_reserved rt ≡ true → eqb rt 21 ≡ false → scratch < 31
    → is_reserved scratch ≡ false → Moved (after (put_of rt scratch) (at_address size transfer scratch s a)) s size transfer rt scratch a
put_moved size transfer rt scratch a s h load reserved no_base below free =
    let u = unreserved scratch free in
    let w = data_width size transfer in
    let v = loaded s.memory size transfer a in
    let s1 = at_address size transfer scratch s a in
    let h1 = slot_kept size transfer scratch a s h u.base in
    let loads : x_at s1.registers scratch ≡ low_bits w v = moved_here (is_store transfer) w scratch v s.registers load below h.count in
    let base : x_at s1.registers 21 ≡ x_at s.registers 21 = moved_other (is_store transfer) w scratch v 21 s.registers (λ load e. eqb-false scratch 21 u.base (sym e)) in
    let others : (n : ℕ) → n ≢ scratch → x_at s1.registers n ≡ x_at s.registers n = λ n apart. moved_other (is_store transfer) w scratch v n s.registers (λ load. apart) in
    let same_memory : s1.memory ≡ written_at (Some (record { address = a; bytes = 2 ^ size_code size; stores = is_store transfer })) (stored_by size transfer (x_at s.registers rt)) s.memory = rw load refl in
    elim (cases_Bool (eqb rt 22)) [
      | inl offset ↦
          let e : rt ≡ 22 = eqb-true rt 22 offset in
          let g = copy_sets scratch s1 h1.count in
          let narrow : bounded_in (x_at s.registers 21) rt (low_bits w v) ≡ low_bits w v % 4294967296 = rw offset refl in
          rw offset (record {
            general = λ n apart other. g.general n (λ q. other load (q ∙ sym e)) ∙ others n apart;
            value = λ load2 below2. ap (λ n. x_at (after (copy_of scratch) s1).registers n) e ∙ (g.value ∙ (ap (λ x. x % 4294967296) loads ∙ sym narrow));
            stack = g.stack ∙ moved_stack (is_store transfer) w scratch v s.registers;
            flags = g.flags;
            count = g.count;
            memory = g.memory ∙ same_memory;
          })
      | inr other22 ↦
          let inside : rt < 31 = reserved_below rt reserved in
          let g = guard_sets rt scratch s1 h1 inside in
          rw other22 (record {
            general = λ n apart other. g.general n (other load) ∙ others n apart;
            value = λ load2 below2.
                g.value ∙ (ap (λ b. b + x_at s1.registers scratch % 4294967296) base ∙ (ap (λ x. x_at s.registers 21 + x % 4294967296) loads
                ∙ sym (address_bounded (x_at s.registers 21) rt (low_bits w v) reserved no_base other22)));
            stack = g.stack ∙ moved_stack (is_store transfer) w scratch v s.registers;
            flags = g.flags;
            count = g.count;
            memory = g.memory ∙ same_memory;
          })
    ]
  where
    reserved_below : (r : ℕ) → is_reserved r ≡ true → r < 31
    reserved_below r h = elim (or_cases (eqb r 18) _ h) [
      | inl e ↦ let same = eqb-true r 18 e in omega (arith, same)
      | inr h1 ↦ elim (or_cases (eqb r 21) _ h1) [
        | inl e ↦ let same = eqb-true r 21 e in omega (arith, same)
        | inr h2 ↦ elim (or_cases (eqb r 22) _ h2) [
          | inl e ↦ let same = eqb-true r 22 e in omega (arith, same)
          | inr h3 ↦ elim (or_cases (eqb r 23) _ h3) [
            | inl e ↦ let same = eqb-true r 23 e in omega (arith, same)
            | inr h4 ↦ elim (or_cases (eqb r 24) (eqb r 30) h4) [
              | inl e ↦ let same = eqb-true r 24 e in omega (arith, same)
              | inr e ↦ let same = eqb-true r 30 e in omega (arith, same)
            ]
          ]
        ]
      ]
    ]

is_link : (size : Size) (transfer : Transfer) (rt scratch a : ℕ) (s : State) → HasSlot s → loads_link size transfer rt ≡ true
    → Moved (after (guard_of 30 30) (at_address sizes.Double transfers.Load 30 s a)) s size transfer rt scratch a
is_link sizes.Double transfers.Load rt scratch a s h link =
    let e : rt ≡ 30 = eqb-true rt 30 link in
    subst (λ r. Moved (after (guard_of 30 30) (at_address sizes.Double transfers.Load 30 s a)) s sizes.Double transfers.Load r scratch a) (sym e) (link_moved scratch a s h)
is_link size transfer rt scratch a s h link = absurd (true≢false (sym link))

-- An access of any register at an address that x21 and a W register give.
pub access_moved : (size : Size) (transfer : Transfer) (rm rt scratch a : ℕ) (s : State) → HasSlot s → (is_store transfer ≡ false → eqb rt 21 ≡ false) → scratch < 31 → is_reserved scratch ≡ false
    → (x_at s.registers 21 + x_at s.registers rm % 4294967296 * 1) % 18446744073709551616 ≡ a
    → Moved (after_all (access_with size transfer rm rt scratch) s) s size transfer rt scratch a
access_moved size transfer rm rt scratch a s h no_base below free e = elim (cases_Bool (loads_link size transfer rt)) [
  | inl link ↦ rw link (subst (λ x. Moved (after (guard_of 30 30) (at_address sizes.Double transfers.Load 30 s x)) s size transfer rt scratch a) (sym e) (is_link size transfer rt scratch a s h link))
  | inr other ↦ elim (cases_Bool (may_move transfer rt)) [
    | inl may ↦ rw (other, may) (subst (λ x. Moved (at_address size transfer rt s x) s size transfer rt scratch a) (sym e) (plain_moved size transfer rt scratch a s h.count may))
    | inr reserved ↦
        let tests = or_parts (is_store transfer) (not (is_reserved rt)) reserved in
        rw (other, reserved) (subst (λ x. Moved (after (put_of rt scratch) (at_address size transfer scratch s x)) s size transfer rt scratch a) (sym e)
        (put_moved size transfer rt scratch a s h tests.0 (not-false (is_reserved rt) tests.1) (no_base tests.0) below free))
  ]
]
