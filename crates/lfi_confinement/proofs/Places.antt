-- Addresses, words and permissions.
use Rattle.std.proofs.Common.{◌≡◌, ℕ, zero, suc, ◌+◌, ◌-◌, ◌*◌, ◌/◌, ◌%◌, ◌^◌, ◌<◌, ◌≤◌, Bool, true, false, cond, ◌&&◌, length, Option, Some, None, ℤ, pos, negsuc, nat_abs, refl, sym, ap, ◌∙◌, inl, inr, arith, ltb-true, ltb-false, leb-true, eqb-true, lt-ltb, le-leb, eq-eqb, ltb, leb, eqb, slice_get}
use Rattle.std.proofs.lemmas.Bool.{and_parts, and_from, cond_both, cond-true, cases_lt, false≢true, lt-leb, and_right}
use Rattle.a64_word.specs.declared.instruction.Instruction.{Instruction}
use Rattle.a64_word.specs.Profiles.{SpellsIn}
use Rattle.a64_word.specs.Bytes.{number_at}
use Rattle.a64_semantics.specs.Accesses.{displaced}
use Rattle.lfi_rules.specs.Map.{code_offset, entry_count, guard_size, slot_size, table_bytes}
use Rattle.lfi_confinement.specs.Slots.{base, InSlot, is_in_slot, is_guarded, word_address, word_place, entry_address, entry_at, Permission, NoAccess, data_offset, permission_in, permission_at, is_permitted, byte_in, memory_of}
use Rattle.lfi_module.specs.Numbers.{module_count, base_of}
use Rattle.lfi_confinement.specs.Moves.{Fetches, first_denied}
use Rattle.lfi_image.specs.Image.{Image, IsImage}

-- ---- bounds

pub record Bounds (c : Image) : Type 0 where
  pub low : 2 ^ 32 ≤ base c
  pub high : base c < 2 ^ 40
  pub words : length c.words ≤ 4194304

pub bounds : (c : Image) → IsImage c → Bounds c
bounds c l = record { low = omega (arith, l.slot); high = omega (arith, l.slot); words = l.lawful.most }

pub in_slot_test : (from a : ℕ) → InSlot from a → is_in_slot from a ≡ true
in_slot_test from a h = and_from (leb from a) (ltb a (from + slot_size)) (le-leb from a h.low) (lt-ltb a (from + slot_size) h.high)

pub guarded_test : (from a bytes : ℕ) → from ≤ a + guard_size → a + bytes ≤ from + slot_size + guard_size → is_guarded from a bytes ≡ true
guarded_test from a bytes low high =
    and_from (leb from (a + guard_size)) (leb (a + bytes) (from + slot_size + guard_size)) (le-leb from (a + guard_size) low) (le-leb (a + bytes) (from + slot_size + guard_size) high)

-- ---- words

pub some_if : {A : Type 0} (b : Bool) (x y : A) → cond b (Some x) None ≡ Some y → (b ≡ true) × (x ≡ y)
some_if true x y h = (refl, cc)
some_if false x y h = cc

-- a word that is fetched stands at its place
pub place_is : (from n a k : ℕ) → word_place from n a ≡ Some k → (a ≡ word_address from k) × (k < n)
place_is from n a k h =
    let t = some_if (leb (word_address from 0) a && ltb a (word_address from n) && eqb ((a - word_address from 0) % 4) 0) ((a - word_address from 0) / 4) k h in
    let p = and_parts (leb (word_address from 0) a && ltb a (word_address from n)) (eqb ((a - word_address from 0) % 4) 0) t.0 in
    let q = and_parts (leb (word_address from 0) a) (ltb a (word_address from n)) p.0 in
    let low : word_address from 0 ≤ a = leb-true (word_address from 0) a q.0 in
    let high : a < word_address from n = ltb-true a (word_address from n) q.1 in
    let even : (a - word_address from 0) % 4 ≡ 0 = eqb-true ((a - word_address from 0) % 4) 0 p.1 in
    (omega (arith, t.1), omega (arith, t.1))

-- an instruction stands at an address
pub record Stands (c : Image) (address : ℕ) (i : Instruction) : Type 0 where
  pub k : ℕ
  pub at : address ≡ word_address (base c) k
  pub within : k < length c.words
  pub word : ℕ
  pub is : slice_get c.words k ≡ Some word
  pub spelled : SpellsIn c.profile i word

pub stands : (c : Image) (address : ℕ) (i : Instruction) → Fetches c address i → Stands c address i
stands c address i f = by_place (word_place (base c) (length c.words) address) refl f.stands
  where
    at_place : Option ℕ → Option ℕ
    at_place None = None
    at_place (Some k) = slice_get c.words k

    by_place : (o : Option ℕ) → word_place (base c) (length c.words) address ≡ o → at_place o ≡ Some f.word → Stands c address i
    by_place None e h = cc
    by_place (Some k) e h =
        let w = place_is (base c) (length c.words) address k e in
        record { k = k; at = w.0; within = w.1; word = f.word; is = h; spelled = f.spelled }

-- ---- signed offsets

pub displaced_near : (a : ℕ) (z : ℤ) (k : ℕ) → nat_abs z ≤ k → k ≤ a → a + k < 2 ^ 64 → (a ≤ displaced a z + k) × (displaced a z ≤ a + k)
displaced_near a (pos m) k h low high = (omega arith, omega arith)
displaced_near a (negsuc m) k h low high = (omega arith, omega arith)

-- ---- permissions

not_denied : (stores : Bool) (p : Permission) → is_permitted stores p ≡ true → p ≡ NoAccess → ⊥
not_denied stores p h e = false≢true (sym (ap (is_permitted stores) e) ∙ h)

past_end : (n o : ℕ) → n ≤ 4194304 → slot_size ≤ o → permission_in n o ≡ NoAccess
past_end n o small past =
    cond_both (ltb o table_bytes) _ _ (λ p. p ≡ NoAccess) (λ e. absurd (omega (arith, ltb-true o table_bytes e)))
    (λ _. cond_both (ltb o code_offset) _ _ (λ p. p ≡ NoAccess) (λ e. absurd (omega (arith, ltb-true o code_offset e)))
    (λ _. cond_both (ltb o (data_offset n)) _ _ (λ p. p ≡ NoAccess) (λ e. absurd (omega (arith, ltb-true o (data_offset n) e)))
    (λ _. cond_both (ltb o slot_size) _ _ (λ p. p ≡ NoAccess) (λ e. absurd (omega (arith, ltb-true o slot_size e))) (λ _. refl))))

-- a byte that may be accessed lies in the slot
pub permitted_in_slot : (c : Image) (stores : Bool) (a : ℕ) → length c.words ≤ 4194304 → is_permitted stores (permission_at c a) ≡ true → InSlot (base c) a
permitted_in_slot c stores a small h = elim (cases_lt a (base c)) [
  | inl low ↦ absurd (not_denied stores _ h (cond_both (leb (base c) a) _ _ (λ p. p ≡ NoAccess) (λ e. absurd (omega (arith, leb-true (base c) a e))) (λ _. refl)))
  | inr from ↦ (elim (cases_lt a (base c + slot_size)) [
    | inl below ↦ record { low = from; high = below }
    | inr past ↦ absurd (not_denied stores _ h (cond_both (leb (base c) a) _ _ (λ p. p ≡ NoAccess) (λ _. past_end (length c.words) (a - base c) small (omega arith)) (λ _. refl)))
  ])
]

pub first_permitted : (c : Image) (stores : Bool) (bytes a : ℕ) → first_denied c stores (suc bytes) a ≡ None → is_permitted stores (permission_at c a) ≡ true
first_permitted c stores bytes a =
    cond_both (is_permitted stores (permission_at c a)) (first_denied c stores bytes (a + 1)) (Some a) (λ o. o ≡ None → is_permitted stores (permission_at c a) ≡ true) (λ e _. e) (λ _ h. cc)

-- an access that isn't denied begins in the slot
pub touched_in_slot : (c : Image) (stores : Bool) (bytes a : ℕ) → length c.words ≤ 4194304 → 0 < bytes → first_denied c stores bytes a ≡ None → InSlot (base c) a
touched_in_slot c stores zero a small some h = absurd (omega arith)
touched_in_slot c stores (suc bytes) a small some h = permitted_in_slot c stores a small (first_permitted c stores bytes a h)

-- ---- the table

table_byte : (c : Image) (d : ℕ → ℕ) (j i at : ℕ) → j < 512 → i < 8 → at ≡ base c + (8 * j + i) → memory_of c d at ≡ entry_address j / 2 ^ (8 * i) % 256
table_byte c d j i at hj hi e =
    let o : at - base c ≡ 8 * j + i = omega arith in
    let q : (8 * j + i) / 8 ≡ j = omega arith in
    let r : (8 * j + i) % 8 ≡ i = omega arith in
    let inside : byte_in c d (8 * j + i) ≡ entry_address j / 2 ^ (8 * i) % 256 =
    cond_both (ltb (8 * j + i) table_bytes) _ _ (λ b. b ≡ entry_address j / 2 ^ (8 * i) % 256) (λ _. rw (q, r) refl) (λ f. absurd (omega (arith, ltb-false (8 * j + i) table_bytes f))) in
    ap (byte_in c d) o ∙ inside

digits : (e : ℕ) → e < 2 ^ 64 → e / 256 ^ 0 % 256 + 256 * (e / 256 ^ 1 % 256 + 256 * (e / 256 ^ 2 % 256 + 256 * (e / 256 ^ 3 % 256 + 256 * (e / 256 ^ 4 % 256 + 256 * (e / 256 ^ 5 % 256 + 256 * (e / 256 ^ 6 % 256 + 256 * (e / 256 ^ 7 % 256 + 256 * 0))))))) ≡ e
digits e small =
    let s7 : e / 256 ^ 7 % 256 + 256 * 0 ≡ e / 256 ^ 7 = omega arith in
    let s6 : e / 256 ^ 6 % 256 + 256 * (e / 256 ^ 7) ≡ e / 256 ^ 6 = omega arith in
    let s5 : e / 256 ^ 5 % 256 + 256 * (e / 256 ^ 6) ≡ e / 256 ^ 5 = omega arith in
    let s4 : e / 256 ^ 4 % 256 + 256 * (e / 256 ^ 5) ≡ e / 256 ^ 4 = omega arith in
    let s3 : e / 256 ^ 3 % 256 + 256 * (e / 256 ^ 4) ≡ e / 256 ^ 3 = omega arith in
    let s2 : e / 256 ^ 2 % 256 + 256 * (e / 256 ^ 3) ≡ e / 256 ^ 2 = omega arith in
    let s1 : e / 256 ^ 1 % 256 + 256 * (e / 256 ^ 2) ≡ e / 256 ^ 1 = omega arith in
    let s0 : e / 256 ^ 0 % 256 + 256 * (e / 256 ^ 1) ≡ e = omega arith in
    rw (s7, s6, s5, s4, s3, s2, s1) s0

-- a load of entry j of the table gives its address
pub loaded_entry : (c : Image) (d : ℕ → ℕ) (j at : ℕ) → j < 512 → at ≡ base c + 8 * j → number_at (memory_of c d) 8 at ≡ entry_address j
loaded_entry c d j at h e =
    rw (
      table_byte c d j 0 at h (omega arith) (omega arith),
      table_byte c d j 1 (at + 1) h (omega arith) (omega arith),
      table_byte c d j 2 (at + 1 + 1) h (omega arith) (omega arith),
      table_byte c d j 3 (at + 1 + 1 + 1) h (omega arith) (omega arith),
      table_byte c d j 4 (at + 1 + 1 + 1 + 1) h (omega arith) (omega arith),
      table_byte c d j 5 (at + 1 + 1 + 1 + 1 + 1) h (omega arith) (omega arith),
      table_byte c d j 6 (at + 1 + 1 + 1 + 1 + 1 + 1) h (omega arith) (omega arith),
      table_byte c d j 7 (at + 1 + 1 + 1 + 1 + 1 + 1 + 1) h (omega arith) (omega arith),
    ) (digits (entry_address j) (omega arith))

-- at an entry the runtime is called
pub entry_is : (j : ℕ) → j < entry_count → entry_at (entry_address j) ≡ Some j
entry_is j h =
    let test : (leb (2 ^ 40) (entry_address j) && ltb (entry_address j) (entry_address entry_count) && eqb ((entry_address j - 2 ^ 40) % 16) 0) ≡ true =
    and_from (leb (2 ^ 40) (entry_address j) && ltb (entry_address j) (entry_address entry_count)) (eqb ((entry_address j - 2 ^ 40) % 16) 0)
    (and_from (leb (2 ^ 40) (entry_address j)) (ltb (entry_address j) (entry_address entry_count)) (le-leb (2 ^ 40) (entry_address j) (omega arith)) (lt-ltb (entry_address j) (entry_address entry_count) (omega arith)))
    (eq-eqb ((entry_address j - 2 ^ 40) % 16) 0 (omega arith)) in
    let q : (entry_address j - 2 ^ 40) / 16 ≡ j = omega arith in
    cond-true (leb (2 ^ 40) (entry_address j) && ltb (entry_address j) (entry_address entry_count) && eqb ((entry_address j - 2 ^ 40) % 16) 0) (Some ((entry_address j - 2 ^ 40) / 16)) None test ∙ ap Some q

unguarded : (from a bytes : ℕ) → from + slot_size + guard_size < a + bytes → is_guarded from a bytes ≡ false
unguarded from a bytes h =
    and_right (leb from (a + guard_size)) (leb (a + bytes) (from + slot_size + guard_size)) (lt-leb (a + bytes) (from + slot_size + guard_size) h)

-- no entry lies in a slot or in one of its guards
pub entry_outside : (j m : ℕ) → j < entry_count → m < module_count → is_guarded (base_of m) (entry_address j) 1 ≡ false
entry_outside j m h k = unguarded (base_of m) (entry_address j) 1 (omega arith)
