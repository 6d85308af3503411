-- The results of the classes whose values matter: links, sums into sp, the guard, and accesses.
use Rattle.std.proofs.Common.{◌≡◌, ℕ, ◌+◌, ◌*◌, ◌%◌, ◌^◌, ◌<◌, ◌≤◌, Bool, true, false, cond, not, ◌&&◌, ◌||◌, ◌⊎◌, inl, inr, List, Some, ℤ, pos, negsuc, nat_abs, ◌*ℤ◌, refl, sym, subst, arith, eqb, eqb-true}
use Rattle.std.specs.Prelude.{IfSome}
use Rattle.std.proofs.lemmas.Bool.{and_parts, cond_both}
use Rattle.std.proofs.lemmas.Int.{ints}
use Rattle.a64_word.specs.declared.instruction.Instruction.{Instruction}
use Rattle.a64_word.specs.declared.instruction.Instruction.TheVariants as instruction
use Rattle.a64_word.specs.declared.data_immediate.AddSubImmediate.{AddSubImmediate}
use Rattle.a64_word.specs.declared.data_register.AddSubExtended.{AddSubExtended}
use Rattle.a64_word.specs.declared.operands.Width.{Width}
use Rattle.a64_word.specs.declared.operands.Width.TheVariants as widths
use Rattle.a64_word.specs.declared.operands.Extend.{Extend}
use Rattle.a64_word.specs.declared.operands.Extend.TheVariants as extends
use Rattle.a64_word.specs.declared.operands.Size.{Size}
use Rattle.a64_word.specs.declared.operands.Size.TheVariants as sizes
use Rattle.a64_word.specs.declared.operands.Transfer.{Transfer}
use Rattle.a64_word.specs.declared.operands.IndexExtend.{IndexExtend}
use Rattle.a64_word.specs.declared.operands.IndexExtend.TheVariants as indexes
use Rattle.a64_word.specs.Operands.{size_code, IsSigned, bit}
use Rattle.a64_word.specs.Encoding.{Spells}
use Rattle.a64_effects.specs.declared.access.Form.{Form}
use Rattle.a64_effects.specs.declared.access.Form.TheVariants as forms
use Rattle.a64_effects.specs.declared.access.Address.{Address}
use Rattle.a64_effects.specs.Effects.{address_of, changes_base, is_store, ordered_transfer, data_width, pair_bytes, pair_offset}
use Rattle.a64_semantics.specs.Numbers.{operand}
use Rattle.a64_semantics.specs.Sums.{sum_of, addend}
use Rattle.a64_semantics.specs.Shifts.{extended_operand}
use Rattle.a64_semantics.specs.declared.registers.Registers.{Registers}
use Rattle.a64_semantics.specs.Registers.{x_at, x_or_sp_at, low_bits, Write, to_general}
use Rattle.a64_word.specs.Bytes.{number_at}
use Rattle.a64_semantics.specs.Accesses.{displaced, first_byte, loaded, register_bytes}
use Rattle.a64_semantics.specs.Writes.{linked, to_base, to_loaded, with_loaded, results_at, results_of}
use Rattle.lfi_rules.specs.declared.needs.Need.{Need}
use Rattle.lfi_rules.specs.declared.needs.Need.TheVariants.{Nothing, Probe}
use Rattle.lfi_rules.specs.Guard.{is_x, is_uxtw, is_uxtx, adds_to_base, is_guard, sets_stack}
use Rattle.lfi_rules.specs.Rules.{is_base, is_confined}
use Rattle.lfi_rules.specs.Map.{guard_size, slot_size}
use Rattle.lfi_confinement.specs.Slots.{InSlot}
use Rattle.lfi_confinement.specs.inner.Invariant.{IsStackFor, HeldFor}
use Rattle.lfi_confinement.proofs.Places.{displaced_near}
use Rattle.lfi_confinement.proofs.Uses.{either}
use Rattle.lfi_confinement.proofs.Held.{AllFine, AllStack, stack_weaker, stack_in_slot, to_general_stack}

-- ---- widths, extensions and sizes by their tests

pub x_width : (width : Width) → is_x width ≡ true → width ≡ widths.X
x_width widths.X h = refl
x_width widths.W h = cc

uxtw_extend : (e : Extend) → is_uxtw e ≡ true → e ≡ extends.Uxtw
uxtw_extend extends.Uxtw h = refl
uxtw_extend extends.Uxtb h = cc
uxtw_extend extends.Uxth h = cc
uxtw_extend extends.Uxtx h = cc
uxtw_extend extends.Sxtb h = cc
uxtw_extend extends.Sxth h = cc
uxtw_extend extends.Sxtw h = cc
uxtw_extend extends.Sxtx h = cc

uxtx_extend : (e : Extend) → is_uxtx e ≡ true → e ≡ extends.Uxtx
uxtx_extend extends.Uxtx h = refl
uxtx_extend extends.Uxtb h = cc
uxtx_extend extends.Uxth h = cc
uxtx_extend extends.Uxtw h = cc
uxtx_extend extends.Sxtb h = cc
uxtx_extend extends.Sxth h = cc
uxtx_extend extends.Sxtw h = cc
uxtx_extend extends.Sxtx h = cc

pub not_true : (b : Bool) → not b ≡ true → b ≡ false
not_true true h = cc
not_true false h = refl

-- ---- sums from the base

pub record Adds (i : AddSubExtended) : Type 0 where
  pub width : i.width ≡ widths.X
  pub subtract : i.subtract ≡ false
  pub flags : i.set_flags ≡ false
  pub amount : i.amount ≡ 0
  pub first : i.rn ≡ 21

adds : (i : AddSubExtended) → adds_to_base i ≡ true → Adds i
adds i h =
    let a = and_parts (is_x i.width && not i.subtract && not i.set_flags && eqb i.amount 0) (eqb i.rn 21) h in
    let b = and_parts (is_x i.width && not i.subtract && not i.set_flags) (eqb i.amount 0) a.0 in
    let c = and_parts (is_x i.width && not i.subtract) (not i.set_flags) b.0 in
    let d = and_parts (is_x i.width) (not i.subtract) c.0 in
    record { width = x_width i.width d.0; subtract = not_true i.subtract d.1; flags = not_true i.set_flags c.1; amount = eqb-true i.amount 0 b.1; first = eqb-true i.rn 21 a.1 }

pub record Guards (i : AddSubExtended) : Type 0 where
  pub sum : Adds i
  pub extend : i.extend ≡ extends.Uxtw

pub guards : (i : AddSubExtended) → is_guard (instruction.AddSubExtended i) ≡ true → Guards i
guards i h = let p = and_parts (adds_to_base i) (is_uxtw i.extend) h in record { sum = adds i p.0; extend = uxtw_extend i.extend p.1 }

pub record SetsStack (i : AddSubExtended) : Type 0 where
  pub sum : Adds i
  pub extend : i.extend ≡ extends.Uxtx
  pub second : i.rm ≡ 22
  pub place : i.rd ≡ 31

pub sets : (i : AddSubExtended) → sets_stack (instruction.AddSubExtended i) ≡ true → SetsStack i
sets i h =
    let p = and_parts (adds_to_base i && is_uxtx i.extend && eqb i.rm 22) (eqb i.rd 31) h in
    let q = and_parts (adds_to_base i && is_uxtx i.extend) (eqb i.rm 22) p.0 in
    let r = and_parts (adds_to_base i) (is_uxtx i.extend) q.0 in
    record { sum = adds i r.0; extend = uxtx_extend i.extend r.1; second = eqb-true i.rm 22 q.1; place = eqb-true i.rd 31 p.1 }

-- what an extended sum computes
abbrev pub extended_sum : AddSubExtended → Registers → ℕ
extended_sum i r =
    sum_of i.width (operand i.width (x_or_sp_at r i.rn)) (addend i.width i.subtract (extended_operand i.width i.extend (x_at r i.rm) i.amount)) (bit i.subtract)

pub guard_in : (from : ℕ) (i : AddSubExtended) (r : Registers) → from < 2 ^ 40 → x_at r 21 ≡ from → Guards i → InSlot from (low_bits i.width (extended_sum i r))
guard_in from i r c at g = rw (g.sum.width, g.sum.subtract, g.sum.amount, g.sum.first, g.extend) (record { low = omega arith; high = omega arith })

pub sets_in : (from : ℕ) (i : AddSubExtended) (r : Registers) → from < 2 ^ 40 → x_at r 21 ≡ from → x_at r 22 < 2 ^ 32 → SetsStack i → InSlot from (low_bits i.width (extended_sum i r))
sets_in from i r c at low g = rw (g.sum.width, g.sum.subtract, g.sum.amount, g.sum.first, g.extend, g.second) (record { low = omega arith; high = omega arith })

-- ---- sp moved by an immediate

-- what a sum with an immediate computes
abbrev pub immediate_sum : AddSubImmediate → Registers → ℕ
immediate_sum i r =
    sum_of i.width (operand i.width (x_or_sp_at r i.rn)) (addend i.width i.subtract (cond i.shifted (i.imm12 * 2 ^ 12) i.imm12)) (bit i.subtract)

moved_by : (from count : ℕ) (subtract : Bool) (imm sp : ℕ) → 2 ^ 32 ≤ from → from < 2 ^ 40 → imm < 4096 → IsStackFor from Nothing sp
    → IsStackFor from (Probe count) (sum_of widths.X sp (addend widths.X subtract imm) (bit subtract) % 2 ^ 64)
moved_by from count false imm sp b c small h = record { low = omega (arith, h.low, h.high); high = omega (arith, h.low, h.high) }
moved_by from count true imm sp b c small h = record { low = omega (arith, h.low, h.high); high = omega (arith, h.low, h.high) }

pub record Moves (i : AddSubImmediate) : Type 0 where
  pub width : i.width ≡ widths.X
  pub flags : i.set_flags ≡ false
  pub shifted : i.shifted ≡ false
  pub place : i.rd ≡ 31
  pub first : i.rn ≡ 31

pub moves : (i : AddSubImmediate) → (is_x i.width && not i.set_flags && not i.shifted && eqb i.rd 31 && eqb i.rn 31) ≡ true → Moves i
moves i h =
    let a = and_parts (is_x i.width && not i.set_flags && not i.shifted && eqb i.rd 31) (eqb i.rn 31) h in
    let b = and_parts (is_x i.width && not i.set_flags && not i.shifted) (eqb i.rd 31) a.0 in
    let c = and_parts (is_x i.width && not i.set_flags) (not i.shifted) b.0 in
    let d = and_parts (is_x i.width) (not i.set_flags) c.0 in
    record { width = x_width i.width d.0; flags = not_true i.set_flags d.1; shifted = not_true i.shifted c.1; place = eqb-true i.rd 31 b.1; first = eqb-true i.rn 31 a.1 }

pub moved_in : (from count : ℕ) (i : AddSubImmediate) (r : Registers) → 2 ^ 32 ≤ from → from < 2 ^ 40 → i.imm12 < 4096 → IsStackFor from Nothing r.sp → Moves i
    → IsStackFor from (Probe count) (low_bits i.width (immediate_sum i r))
moved_in from count i r b c small h m = rw (m.width, m.shifted, m.first) (moved_by from count i.subtract i.imm12 r.sp b c small h)

-- ---- the reach of accesses

-- few bytes, at an offset that isn't far
pub record IsShort (a : Address) : Type 0 where
  pub some : 0 < a.bytes
  pub few : a.bytes ≤ 16
  pub offset : nat_abs a.offset ≤ 32760
  pub change : changes_base a.form ≡ true → nat_abs a.offset ≤ 512

size_bytes : (size : Size) → (0 < 2 ^ size_code size) × (2 ^ size_code size ≤ 8)
size_bytes sizes.Byte = (omega arith, omega arith)
size_bytes sizes.Half = (omega arith, omega arith)
size_bytes sizes.Word = (omega arith, omega arith)
size_bytes sizes.Double = (omega arith, omega arith)

scaled_bound : (imm : ℕ) (size : Size) → imm < 4096 → imm * 2 ^ size_code size ≤ 32760
scaled_bound imm sizes.Byte h = omega arith
scaled_bound imm sizes.Half h = omega arith
scaled_bound imm sizes.Word h = omega arith
scaled_bound imm sizes.Double h = omega arith

signed_bound : (z : ℤ) → IsSigned 9 z → nat_abs z ≤ 256
signed_bound (pos n) h = omega arith
signed_bound (negsuc n) h = omega arith

pair_bound : (width : Width) (z : ℤ) → IsSigned 7 z → nat_abs (pair_offset width z) ≤ 512
pair_bound widths.W (pos n) h = omega arith
pair_bound widths.X (pos n) h = omega arith
pair_bound widths.W (negsuc n) h = let e : negsuc n *ℤ pos 4 ≡ negsuc (4 * n + 3) = omega (arith, ints) in subst (λ z. nat_abs z ≤ 512) (sym e) (omega arith)
pair_bound widths.X (negsuc n) h = let e : negsuc n *ℤ pos 8 ≡ negsuc (8 * n + 7) = omega (arith, ints) in subst (λ z. nat_abs z ≤ 512) (sym e) (omega arith)

pair_size : (width : Width) → (0 < pair_bytes width) × (pair_bytes width ≤ 16)
pair_size widths.W = (omega arith, omega arith)
pair_size widths.X = (omega arith, omega arith)

pub short : (i : Instruction) (word : ℕ) → Spells i word → IfSome (address_of i) IsShort
short (instruction.UnsignedOffset i) word s =
    let b = size_bytes i.size in
    let imm : i.imm12 < 4096 = s.word_of.in_range.1.1.1.0 in
    record { some = b.0; few = omega (arith, b.1); offset = scaled_bound i.imm12 i.size imm; change = λ e. cc }
short (instruction.SignedOffset i) word s =
    let b = size_bytes i.size in
    let o = signed_bound i.imm9 s.legal.1 in
    record { some = b.0; few = omega (arith, b.1); offset = omega (arith, o); change = λ _. omega (arith, o) }
short (instruction.RegisterOffset i) word s =
    let b = size_bytes i.size in
    record { some = b.0; few = omega (arith, b.1); offset = omega arith; change = λ e. cc }
short (instruction.Pair i) word s =
    let b = pair_size i.width in
    let o = pair_bound i.width i.imm7 s.legal.0 in
    record { some = b.0; few = b.1; offset = omega (arith, o); change = λ _. o }
short (instruction.Ordered i) word s =
    let b = size_bytes i.size in
    record { some = b.0; few = omega (arith, b.1); offset = omega arith; change = λ e. cc }
short _ word s = tt

-- ---- where accesses go

-- so many bytes from an address on lie in slot and guards
pub record Near (from address bytes : ℕ) : Type 0 where
  pub low : from ≤ address + guard_size
  pub high : address + bytes ≤ from + slot_size + guard_size

base_cases : (n : ℕ) → is_base n ≡ true → (n ≡ 18) ⊎ ((n ≡ 23) ⊎ ((n ≡ 24) ⊎ ((n ≡ 21) ⊎ (n ≡ 31))))
base_cases n h = elim (either (eqb n 18 || eqb n 23 || eqb n 24 || eqb n 21) (eqb n 31) h) [
  | inr e ↦ inr (inr (inr (inr (eqb-true n 31 e))))
  | inl h ↦ (elim (either (eqb n 18 || eqb n 23 || eqb n 24) (eqb n 21) h) [
    | inr e ↦ inr (inr (inr (inl (eqb-true n 21 e))))
    | inl h ↦ (elim (either (eqb n 18 || eqb n 23) (eqb n 24) h) [
      | inr e ↦ inr (inr (inl (eqb-true n 24 e)))
      | inl h ↦ (elim (either (eqb n 18) (eqb n 23) h) [
        | inr e ↦ inr (inl (eqb-true n 23 e))
        | inl e ↦ inl (eqb-true n 18 e)
      ])
    ])
  ])
]

-- a base holds an address in the slot, or close to it
base_value : (from n : ℕ) (need : Need) (r : Registers) → HeldFor from need r → (n ≡ 31 → IsStackFor from Nothing r.sp) → is_base n ≡ true → (from ≤ x_or_sp_at r n + 512) × (x_or_sp_at r n < from + slot_size + 512)
base_value from n need r h s t = by_case (base_cases n t)
  where
    by_case : (n ≡ 18) ⊎ ((n ≡ 23) ⊎ ((n ≡ 24) ⊎ ((n ≡ 21) ⊎ (n ≡ 31)))) → (from ≤ x_or_sp_at r n + 512) × (x_or_sp_at r n < from + slot_size + 512)
    by_case (inl e) = rw e (omega (arith, h.first_address.low), omega (arith, h.first_address.high))
    by_case (inr (inl e)) = rw e (omega (arith, h.second_address.low), omega (arith, h.second_address.high))
    by_case (inr (inr (inl e))) = rw e (omega (arith, h.third_address.low), omega (arith, h.third_address.high))
    by_case (inr (inr (inr (inl e)))) = rw e (omega (arith, h.base), omega (arith, h.base))
    by_case (inr (inr (inr (inr e)))) = let k = s e in rw e (k.low, k.high)

stack_base : (n : ℕ) → eqb n 31 ≡ true → is_base n ≡ true
stack_base n e = rw (eqb-true n 31 e) refl

uxtw_index : (e : IndexExtend) → Rattle.lfi_rules.specs.Rules.is_uxtw_index e ≡ true → e ≡ indexes.Uxtw
uxtw_index indexes.Uxtw h = refl
uxtw_index indexes.Lsl h = cc
uxtw_index indexes.Sxtw h = cc
uxtw_index indexes.Sxtx h = cc

reaches : (from : ℕ) (form : Form) (n : ℕ) (offset : ℤ) (bytes : ℕ) (need : Need) (r : Registers) → 2 ^ 32 ≤ from → from < 2 ^ 40 → HeldFor from need r
    → (n ≡ 31 → IsStackFor from Nothing r.sp)
    → nat_abs offset ≤ 32760 → bytes ≤ 16 → is_confined (Some (record { base = n; form = form; offset = offset; bytes = bytes })) ≡ true
    → Near from (first_byte (record { base = n; form = form; offset = offset; bytes = bytes }) r) bytes
reaches from forms.Offset n offset bytes need r b c h s o k at =
    let v = base_value from n need r h s at in
    let d = displaced_near (x_or_sp_at r n) offset 32760 o (omega (arith, v.0)) (omega (arith, v.1)) in
    record { low = omega (arith, v.0, d.0); high = omega (arith, v.1, d.1) }
reaches from forms.PreIndex n offset bytes need r b c h s o k at =
    let v = base_value from n need r h s (stack_base n at) in
    let d = displaced_near (x_or_sp_at r n) offset 32760 o (omega (arith, v.0)) (omega (arith, v.1)) in
    record { low = omega (arith, v.0, d.0); high = omega (arith, v.1, d.1) }
reaches from forms.PostIndex n offset bytes need r b c h s o k at =
    let v = base_value from n need r h s (stack_base n at) in
    record { low = omega (arith, v.0); high = omega (arith, v.1) }
reaches from (forms.Index register extend scaled) n offset bytes need r b c h s o k at =
    let p = and_parts (eqb n 21 && Rattle.lfi_rules.specs.Rules.is_uxtw_index extend) (not scaled) at in
    let q = and_parts (eqb n 21) (Rattle.lfi_rules.specs.Rules.is_uxtw_index extend) p.0 in
    rw (eqb-true n 21 q.0, uxtw_index extend q.1, not_true scaled p.1) (record { low = omega (arith, h.base); high = omega (arith, h.base) })

pub access_near : (from : ℕ) (a : Address) (need : Need) (r : Registers) → 2 ^ 32 ≤ from → from < 2 ^ 40 → HeldFor from need r → (a.base ≡ 31 → IsStackFor from Nothing r.sp) → IsShort a → is_confined (Some a) ≡ true
    → Near from (first_byte a r) a.bytes
access_near from a need r b c h k s at = reaches from a.form a.base a.offset a.bytes need r b c h k s.offset s.few at

-- ---- what accesses write

-- the new base, where the first byte lies in the slot
based : (from : ℕ) (need : Need) (form : Form) (n : ℕ) (offset : ℤ) (bytes : ℕ) (r : Registers) → 2 ^ 32 ≤ from → from < 2 ^ 40
    → (changes_base form ≡ true → nat_abs offset ≤ 512) → is_confined (Some (record { base = n; form = form; offset = offset; bytes = bytes })) ≡ true
    → InSlot from (first_byte (record { base = n; form = form; offset = offset; bytes = bytes }) r)
    → AllStack from need (to_base (record { base = n; form = form; offset = offset; bytes = bytes }) r)
based from need forms.Offset n offset bytes r b c o at within = tt
based from need (forms.Index register extend scaled) n offset bytes r b c o at within = tt
based from need forms.PreIndex n offset bytes r b c o at within =
    let moved = displaced (x_or_sp_at r n) offset in
    let low = within.low in
    let high = within.high in
    let same : moved % 2 ^ 64 ≡ moved = omega arith in
    (λ _. rw same (stack_in_slot from need moved within), tt)
based from need forms.PostIndex n offset bytes r b c o at within =
    let moved = displaced (x_or_sp_at r n) offset in
    let d = displaced_near (x_or_sp_at r n) offset 512 (o refl) (omega (arith, within.low)) (omega (arith, within.high)) in
    let free : IsStackFor from Nothing (moved % 2 ^ 64) = record { low = omega (arith, d.0, d.1, within.low, within.high); high = omega (arith, d.0, d.1, within.low, within.high) } in
    (λ _. stack_weaker from need (moved % 2 ^ 64) free, tt)

single_stack : (from : ℕ) (need : Need) (size : Size) (transfer : Transfer) (rt : ℕ) (memory : ℕ → ℕ) (address : ℕ) (ws : List Write) → AllStack from need ws
    → AllStack from need (to_loaded size transfer rt memory address ws)
single_stack from need size transfer rt memory address ws h =
    cond_both (is_store transfer) ws (to_general rt (data_width size transfer) (loaded memory size transfer address) ws) (AllStack from need)
    (λ _. h) (λ _. to_general_stack from need rt (data_width size transfer) (loaded memory size transfer address) ws h)

loaded_stack : (from : ℕ) (need : Need) (i : Instruction) (memory : ℕ → ℕ) (address : ℕ) (ws : List Write) → AllStack from need ws → AllStack from need (with_loaded i memory address ws)
loaded_stack from need (instruction.UnsignedOffset i) memory address ws h = single_stack from need i.size i.transfer i.rt memory address ws h
loaded_stack from need (instruction.SignedOffset i) memory address ws h = single_stack from need i.size i.transfer i.rt memory address ws h
loaded_stack from need (instruction.RegisterOffset i) memory address ws h = single_stack from need i.size i.transfer i.rt memory address ws h
loaded_stack from need (instruction.Pair i) memory address ws h =
    let bytes = register_bytes i.width in
    let second = to_general i.rt2 i.width (number_at memory bytes (address + bytes)) ws in
    cond_both i.load (to_general i.rt i.width (number_at memory bytes address) second) ws (AllStack from need)
    (λ _. to_general_stack from need i.rt i.width (number_at memory bytes address) second
    (to_general_stack from need i.rt2 i.width (number_at memory bytes (address + bytes)) ws h))
    (λ _. h)
loaded_stack from need (instruction.Ordered i) memory address ws h = single_stack from need i.size (ordered_transfer i.load) i.rt memory address ws h
loaded_stack from need _ memory address ws h = h

-- an access writes sp only where it changes its base, and to a lawful address
pub access_stack : (from : ℕ) (need : Need) (i : Instruction) (a : Address) (r : Registers) (memory : ℕ → ℕ) → 2 ^ 32 ≤ from → from < 2 ^ 40
    → address_of i ≡ Some a → IsShort a → is_confined (Some a) ≡ true → InSlot from (first_byte a r) → AllStack from need (results_of i r memory)
access_stack from need i a r memory b c e s at within =
    subst (λ o. AllStack from need (results_at o i r memory)) (sym e)
    (loaded_stack from need i memory (first_byte a r) (to_base a r) (based from need a.form a.base a.offset a.bytes r b c s.change at within))

-- ---- links

pub linked_fine : (from : ℕ) (links : Bool) (r : Registers) → InSlot from ((r.pc + 4) % 2 ^ 64) → AllFine from Nothing (linked links r)
linked_fine from false r h = tt
linked_fine from true r h = (
  record {
    base = λ e. absurd (omega (arith, e));
    offset = λ e. absurd (omega (arith, e));
    first = λ e. absurd (omega (arith, e));
    second = λ e. absurd (omega (arith, e));
    third = λ e. absurd (omega (arith, e));
    link = λ _. h;
    stack = λ e. absurd (omega (arith, e));
  },
  tt,
)
