-- What mends of pairs do that store x18: two stores, one after another.
use Rattle.std.proofs.Common.{◌≡◌, ◌≢◌, ℕ, ◌+◌, ◌-◌, ◌*◌, ◌%◌, ◌<◌, ◌≤◌, eqb, Bool, true, false, List, [], ◌++◌, length, Some, None, refl, ap, sym, subst, ◌∙◌, inl, inr, arith, true≢false}
use Rattle.std.specs.Prelude.{not, ◌&&◌, nat_lt, ℤ, slice_index, zero, suc, ◌/◌}
use Rattle.std.proofs.Math.Path.{fun_ext}
use Rattle.std.proofs.lemmas.Bool.{cases_Bool, eqb-false, and_parts, not-true, ltb-true, ltb-false, lt-ltb, le-ltb}
use Rattle.std.proofs.lemmas.List.{length-append, get_or_append_left, get_or-append_right}
use Rattle.a64_word.specs.declared.instruction.Instruction.{Instruction}
use Rattle.a64_word.specs.declared.instruction.Instruction.TheVariants as instructions
use Rattle.a64_word.specs.declared.operands.Width.{Width}
use Rattle.a64_word.specs.declared.operands.Width.TheVariants as widths
use Rattle.a64_word.specs.declared.operands.PairMode.TheVariants as modes
use Rattle.a64_word.specs.declared.operands.Transfer.TheVariants as transfers
use Rattle.a64_word.specs.Bytes.{low_bytes}
use Rattle.a64_effects.specs.Effects.{pair_bytes, pair_offset}
use Rattle.a64_semantics.specs.Registers.{x_at, x_or_sp_at}
use Rattle.a64_semantics.specs.Accesses.{displaced, register_bytes}
use Rattle.lfi_mends.specs.Registers.{is_apart}
use Rattle.lfi_mends.specs.Outcomes.{State, InSlot, after, after_all, with_bytes, bounded_in, AgreeBounded, DoesTheSameBounded}
use Rattle.lfi_mends.specs.inner.Rows.{is_bare, index_of, sums, sum_of_immediate, offset_of, pair_sum, change_of, size_of, two_stores, stored_at, changing_stored}
use Rattle.lfi_mends.proofs.Addresses.{same_address}
use Rattle.lfi_mends.proofs.Same.{at_address}
use Rattle.lfi_mends.proofs.Summed.{reached, after_more, sum_value}
use Rattle.lfi_mends.proofs.Changed.{displaced_by, reached_small}
use Rattle.lfi_mends.proofs.Paired.{pair_at, some_pair}
use Rattle.lfi_mends.proofs.ChangedPairs as pairs
use Rattle.lfi_mends.proofs.Steps.{HasSlot, no_stack, sum_sets}
use Rattle.lfi_mends.proofs.Bounded.{told, IsSum, slot_after, slot_of, points_at}
use Rattle.lfi_mends.proofs.BoundedBases.{Based, based_by, bounded_low}
use Rattle.lfi_mends.proofs.BoundedPairs.{stores_at, same_stored}
use Rattle.lfi_mends.proofs.BoundedPairMends.{IsPairSum, PairDone, pair_written, changing_bounded, base_is}

-- ---- bytes written one after another
pub bytes_before : (a place : ℕ) (xs : List ℕ) (m : ℕ → ℕ) → place < a → with_bytes a xs m place ≡ m place
bytes_before a place xs m below = rw (lt-ltb place a below) refl

pub bytes_behind : (a place : ℕ) (xs : List ℕ) (m : ℕ → ℕ) → a + length xs ≤ place → with_bytes a xs m place ≡ m place
bytes_behind a place xs m above = rw (le-ltb place a (omega (arith, above)), le-ltb place (a + length xs) above) refl

bytes_at : (a place : ℕ) (xs : List ℕ) (m : ℕ → ℕ) → a ≤ place → place < a + length xs → with_bytes a xs m place ≡ slice_index xs (place - a)
bytes_at a place xs m first last = rw (le-ltb place a first, lt-ltb place (a + length xs) last) refl

both_written : (a b place : ℕ) (xs ys : List ℕ) (m : ℕ → ℕ) → b ≡ a + length xs → with_bytes b ys (with_bytes a xs m) place ≡ with_bytes a (xs ++ ys) m place
both_written a b place xs ys m e =
    let whole = length-append xs ys in
    elim (cases_Bool (nat_lt place a)) [
      | inl before ↦
          let below = ltb-true place a before in
          bytes_before b place ys (with_bytes a xs m) (omega (arith, below, e)) ∙ (bytes_before a place xs m below ∙ sym (bytes_before a place (xs ++ ys) m below))
      | inr past_first ↦
          let first = ltb-false place a past_first in
          elim (cases_Bool (nat_lt place b)) [
            | inl before ↦
                let below = ltb-true place b before in
                let inside : place < a + length xs = omega (arith, below, e) in
                bytes_before b place ys (with_bytes a xs m) below
                ∙ (bytes_at a place xs m first inside
                ∙ (sym (get_or_append_left xs ys 0 (place - a) (omega (arith, first, inside)))
                ∙ sym (bytes_at a place (xs ++ ys) m first (omega (arith, inside, whole)))))
            | inr none ↦
                let above = ltb-false place b none in
                elim (cases_Bool (nat_lt place (b + length ys))) [
                  | inl before ↦
                      let last = ltb-true place (b + length ys) before in
                      let index : place - b ≡ place - a - length xs = omega (arith, e, above) in
                      bytes_at b place ys (with_bytes a xs m) above last
                      ∙ (ap (slice_index ys) index
                      ∙ (sym (get_or-append_right xs ys (length xs) (place - a) 0 refl (omega (arith, above, e)))
                      ∙ sym (bytes_at a place (xs ++ ys) m first (omega (arith, last, whole, e)))))
                  | inr past ↦
                      let over = ltb-false place (b + length ys) past in
                      bytes_behind b place ys (with_bytes a xs m) over
                      ∙ (bytes_behind a place xs m (omega (arith, above, e)) ∙ sym (bytes_behind a place (xs ++ ys) m (omega (arith, over, whole, e))))
                ]
          ]
    ]

length_low : (bytes value : ℕ) → length (low_bytes bytes value) ≡ bytes
length_low zero value = refl
length_low (suc bytes) value = ap suc (length_low bytes (value / 256))

-- ---- two stores
abbrev one_stored : Width → State → (rt a : ℕ) → State
one_stored w s rt a = at_address (size_of w) transfers.Store rt s a

stored_twice : (w : Width) (rt2 rt a b : ℕ) (s s2 : State) → b ≡ a + register_bytes w → s2.memory ≡ (one_stored w s rt a).memory → x_at s2.registers rt2 ≡ x_at s.registers rt2
    → (one_stored w s2 rt2 b).memory ≡ stores_at w false rt2 rt s a
stored_twice widths.W rt2 rt a b s s2 e memory same =
    let xs = low_bytes 4 (x_at s.registers rt) in
    let ys = low_bytes 4 (x_at s.registers rt2) in
    ap (λ v. with_bytes b (low_bytes 4 v) s2.memory) same
    ∙ (ap (λ (f : ℕ → ℕ). with_bytes b ys f) memory
    ∙ fun_ext (λ place. both_written a b place xs ys s.memory (e ∙ ap (λ n. a + n) (sym (length_low 4 (x_at s.registers rt))))))
stored_twice widths.X rt2 rt a b s s2 e memory same =
    let xs = low_bytes 8 (x_at s.registers rt) in
    let ys = low_bytes 8 (x_at s.registers rt2) in
    ap (λ v. with_bytes b (low_bytes 8 v) s2.memory) same
    ∙ (ap (λ (f : ℕ → ℕ). with_bytes b ys f) memory
    ∙ fun_ext (λ place. both_written a b place xs ys s.memory (e ∙ ap (λ n. a + n) (sym (length_low 8 (x_at s.registers rt))))))

-- one state differs from another by both, and in the register for the sum
pub record Stored (s2 s : State) (w : Width) (rt2 rt sum a : ℕ) : Type 0 where
  pub general : (n : ℕ) → n ≢ sum → x_at s2.registers n ≡ x_at s.registers n
  pub stack : s2.registers.sp ≡ s.registers.sp
  pub flags : s2.registers.nzcv ≡ s.registers.nzcv
  pub count : length s2.registers.x ≡ 31
  pub memory : s2.memory ≡ stores_at w false rt2 rt s a

next_value : (w : Width) (x : ℕ) → sum_value false (register_bytes w) x % 4294967296 ≡ (x % 4294967296 + register_bytes w) % 4294967296
next_value widths.W x = omega arith
next_value widths.X x = omega arith

next_address : (w : Width) (base x v a slot : ℕ) → base ≡ slot * 4294967296 → (slot + 1) * 4294967296 ≤ 18446744073709551616 → (base + x % 4294967296 * 1) % 18446744073709551616 ≡ a
    → a + pair_bytes w ≤ (slot + 1) * 4294967296 → v % 4294967296 ≡ (x % 4294967296 + register_bytes w) % 4294967296
    → (base + v % 4294967296 * 1) % 18446744073709551616 ≡ a + register_bytes w
next_address widths.W base x v a slot e room at last sum = omega (arith, e, room, at, last, sum)
next_address widths.X base x v a slot e room at last sum = omega (arith, e, room, at, last, sum)

-- At an address that x21 and a W register give.
stored_by_two : (w : Width) (rt2 rt index sum a : ℕ) (s : State) → (h : HasSlot s) → IsSum sum → rt2 ≢ sum → eqb index 31 ≡ false
    → (x_at s.registers 21 + x_at s.registers index % 4294967296 * 1) % 18446744073709551616 ≡ a → a + pair_bytes w ≤ (h.slot + 1) * 4294967296
    → Stored (after_all (two_stores w rt2 rt index sum) s) s w rt2 rt sum a
stored_by_two w rt2 rt index sum a s h is unsummed no_stack_index address last =
    let b = a + register_bytes w in
    let x = x_at s.registers index in
    let from = (x_at s.registers 21 + x % 4294967296 * 1) % 18446744073709551616 in
    let s1 = one_stored w s rt from in
    let g = sum_sets sum false false (register_bytes w) index s1 h.count is.below in
    let s2 = after (sum_of_immediate sum false false (register_bytes w) index) s1 in
    let operand : x_or_sp_at s1.registers index ≡ x = rw no_stack_index refl in
    let value : x_at s2.registers sum % 4294967296 ≡ (x % 4294967296 + register_bytes w) % 4294967296 =
    ap (λ v. v % 4294967296) (g.value ∙ ap (sum_value false (register_bytes w)) operand) ∙ next_value w x in
    let base : x_at s2.registers 21 ≡ x_at s.registers 21 = g.general 21 is.base in
    let there : (x_at s2.registers 21 + x_at s2.registers sum % 4294967296 * 1) % 18446744073709551616 ≡ b =
    next_address w (x_at s2.registers 21) x (x_at s2.registers sum) a h.slot (base ∙ h.base) h.room (ap (λ q. (q + x % 4294967296 * 1) % 18446744073709551616) base ∙ address) last value in
    let s3 = one_stored w s2 rt2 ((x_at s2.registers 21 + x_at s2.registers sum % 4294967296 * 1) % 18446744073709551616) in
    let memory : s3.memory ≡ stores_at w false rt2 rt s a =
    stored_twice w rt2 rt from ((x_at s2.registers 21 + x_at s2.registers sum % 4294967296 * 1) % 18446744073709551616) s s2 (there ∙ ap (λ q. q + register_bytes w) (sym address)) g.memory (g.general rt2 unsummed)
    ∙ ap (stores_at w false rt2 rt s) address in
    record { general = λ n apart. g.general n apart; stack = g.stack; flags = g.flags; count = g.count; memory = memory }

-- the base isn't the register for the sum
pub apart_from_sum : (rt2 rt rn sum : ℕ) → pair_sum false rt2 rt rn ≡ Some sum → rn ≢ sum
apart_from_sum rt2 rt rn sum e = elim (cases_Bool (is_apart 22 rt rt2 rn)) [
  | inl found ↦ found_apart 22 found (rw found at e)
  | inr not22 ↦ elim (cases_Bool (is_apart 16 rt rt2 rn)) [
    | inl found ↦ found_apart 16 found (rw (not22, found) at e)
    | inr not16 ↦ elim (cases_Bool (is_apart 17 rt rt2 rn)) [
      | inl found ↦ found_apart 17 found (rw (not22, not16, found) at e)
      | inr not17 ↦ let none : None ≡ Some sum = rw (not22, not16, not17) at e in absurd (no_some sum none)
    ]
  ]
]
  where
    no_some : (a : ℕ) → None ≡ Some a → ⊥
    no_some a e = cc

    some_same : (a b : ℕ) → Some a ≡ Some b → a ≡ b
    some_same a b e = cc

    found_apart : (r : ℕ) → is_apart r rt rt2 rn ≡ true → Some r ≡ Some sum → rn ≢ sum
    found_apart r found same =
        let all = and_parts (not (eqb r rt) && not (eqb r rt2)) (not (eqb r rn)) found in
        let other = eqb-false r rn (not-true (eqb r rn) all.1) in
        λ q. other (some_same r sum same ∙ sym q)

index_no_stack : (sum rn bytes : ℕ) → sum < 31 → eqb (index_of sum rn bytes) 31 ≡ false
index_no_stack sum rn bytes below = elim (cases_Bool (is_bare rn bytes)) [
  | inl bare ↦ rw bare (not-true (eqb rn 31) (and_parts (eqb bytes 0) (not (eqb rn 31)) bare).1)
  | inr summed ↦ rw summed (no_stack sum below)
]

-- ---- at an offset
pub offset_stored : (w : Width) (imm7 : ℤ) (rt2 rn rt sum : ℕ) (below : Bool) (bytes : ℕ) (is : List Instruction) → offset_of below bytes ≡ pair_offset w imm7 → bytes < 4096
    → (below ≡ true → 1 ≤ bytes) → IsPairSum false rt2 rt sum → is ≡ stored_at sum w rt2 rt rn below bytes
    → DoesTheSameBounded [] is (instructions.Pair (record { width = w; load = false; mode = modes.Offset; imm7 = imm7; rt2 = rt2; rn = rn; rt = rt }))
offset_stored w imm7 rt2 rn rt sum below bytes is far fits some psum e s whole lies =
    let refused = instructions.Pair (record { width = w; load = false; mode = modes.Offset; imm7 = imm7; rt2 = rt2; rn = rn; rt = rt }) in
    let r = s.registers in
    let b = x_or_sp_at r rn in
    let a = reached below bytes b in
    let base = x_at r 21 in
    let there : a ≡ displaced b (pair_offset w imm7) = displaced_by below bytes b some ∙ ap (displaced b) far in
    let lie : InSlot r (record { address = a; bytes = pair_bytes w; stores = true }) =
    subst (λ x. InSlot r (record { address = x; bytes = pair_bytes w; stores = true })) (sym there) lies in
    let any = some_pair w in
    let h = slot_of s a (pair_bytes w) true whole lie in
    let last : a < (lie.slot + 1) * 4294967296 = omega (arith, lie.last, any) in
    let p = points_at sum rn below bytes s (omega (arith, fits)) whole h psum.is lie.first last in
    let s1 = after_all (sums sum rn below bytes) s in
    let same_base = p.general 21 psum.is.base in
    let index = index_of sum rn bytes in
    let m = stored_by_two w rt2 rt index sum a s1 (slot_after s1 s h same_base p.count) psum.is (psum.second refl) (index_no_stack sum rn bytes psum.is.below) p.address lie.last in
    let s2 = after_all (two_stores w rt2 rt index sum) s1 in
    let core : AgreeBounded refused base s2 (pair_at w false rt2 rt s a) = record {
      written = λ n below_n hw. elim (pair_written false rt rt2 n w [] below_n (sym (told refused n [] refl) ∙ hw)) [
        | inl one ↦ absurd (true≢false (sym one.0))
        | inr others ↦ elim others [ inl two ↦ absurd (true≢false (sym two.0)) | inr none ↦ absurd (true≢false (sym none)) ]
      ];
      general = λ n below_n hw spare. m.general n (psum.is.working n spare) ∙ p.general n (psum.is.working n spare);
      stack = m.stack ∙ p.stack;
      flags = m.flags ∙ p.flags;
      memory = λ place. ap (λ (f : ℕ → ℕ). f place)
          (m.memory ∙ same_stored w false rt2 rt a s1 s p.memory (λ store. p.general rt (psum.first store)) (λ store. p.general rt2 (psum.second store)));
    } in
    subst (λ l. AgreeBounded refused base (after_all l s) (after refused s)) (sym e)
    (subst (λ t. AgreeBounded refused base t (after refused s)) (sym (after_more (sums sum rn below bytes) (two_stores w rt2 rt index sum) s))
    (subst (λ x. AgreeBounded refused base s2 (pair_at w false rt2 rt s x)) there core))

-- ---- with a base that is changed
pub pre_stored : (w : Width) (imm7 : ℤ) (rt2 rn rt sum : ℕ) (below : Bool) (bytes : ℕ) (is : List Instruction) → offset_of below bytes ≡ pair_offset w imm7 → bytes < 4096
    → (below ≡ true → 1 ≤ bytes) → IsPairSum false rt2 rt sum → rn ≢ sum → eqb rn 31 ≡ false → eqb rn 21 ≡ false → rn < 32 → rn ≢ rt → rn ≢ rt2
    → is ≡ changing_stored true sum w rt2 rt rn below bytes
    → DoesTheSameBounded [] is (instructions.Pair (record { width = w; load = false; mode = modes.PreIndex; imm7 = imm7; rt2 = rt2; rn = rn; rt = rt }))
pre_stored w imm7 rt2 rn rt sum below bytes is far fits some psum apart stack no_base inside32 one two e s whole lies =
    let refused = instructions.Pair (record { width = w; load = false; mode = modes.PreIndex; imm7 = imm7; rt2 = rt2; rn = rn; rt = rt }) in
    let r = s.registers in
    let x = x_at r rn in
    let b = x_or_sp_at r rn in
    let c = reached below bytes x in
    let b21 = x_at r 21 in
    let any = some_pair w in
    let base = base_is rn rt2 rt inside32 stack one two in
    let same : b ≡ x = rw stack refl in
    let there : c ≡ displaced b (pair_offset w imm7) = ap (reached below bytes) (sym same) ∙ (displaced_by below bytes b some ∙ ap (displaced b) far) in
    let lie : InSlot r (record { address = c; bytes = pair_bytes w; stores = true }) =
    subst (λ a. InSlot r (record { address = a; bytes = pair_bytes w; stores = true })) (sym there) lies in
    let h = slot_of s c (pair_bytes w) true whole lie in
    let g = based_by sum rn below bytes s h psum.is base.inside no_base fits (whole.fit rn) in
    let s1 = after_all (change_of sum rn below bytes) s in
    let base21 : x_at s1.registers 21 ≡ b21 = g.general 21 (λ q. eqb-false rn 21 no_base (sym q)) psum.is.base in
    let low : x_at s1.registers rn % 4294967296 ≡ c % 4294967296 = ap (λ y. y % 4294967296) g.value ∙ bounded_low b21 rn c lie.slot lie.base in
    let address : (x_at s1.registers 21 + x_at s1.registers rn % 4294967296 * 1) % 18446744073709551616 ≡ c =
    ap (λ q. (q + x_at s1.registers rn % 4294967296 * 1) % 18446744073709551616) base21
    ∙ (ap (λ q. (b21 + q * 1) % 18446744073709551616) low
    ∙ same_address lie.slot b21 c lie.base lie.room lie.first (omega (arith, lie.last, any))) in
    let m = stored_by_two w rt2 rt rn sum c s1 (slot_after s1 s h base21 g.count) psum.is (psum.second refl) stack address lie.last in
    let s2 = after_all (two_stores w rt2 rt rn sum) s1 in
    let done : PairDone s2 s w false rt2 rt rn c c = record {
      first = λ l. absurd (true≢false (sym l));
      second = λ l. absurd (true≢false (sym l));
      based = m.general rn apart ∙ g.value;
      general = λ n spare other l l2. m.general n (psum.is.working n spare) ∙ g.general n other (psum.is.working n spare);
      stack = m.stack ∙ g.stack;
      flags = m.flags ∙ g.flags;
      memory = m.memory ∙ same_stored w false rt2 rt c s1 s g.memory (λ store. g.general rt (λ q. one (sym q)) (psum.first store)) (λ store. g.general rt2 (λ q. two (sym q)) (psum.second store));
    } in
    let core = changing_bounded refused w false rt2 rt rn c c s s2 refl whole.count base (λ l. absurd (true≢false (sym l))) (reached_small below bytes x) done in
    subst (λ l. AgreeBounded refused b21 (after_all l s) (after refused s)) (sym e)
    (subst (λ t. AgreeBounded refused b21 t (after refused s)) (sym (after_more (change_of sum rn below bytes) (two_stores w rt2 rt rn sum) s))
    (subst (λ d. AgreeBounded refused b21 s2 (pairs.changing_at w false rt2 rt rn d s d)) there core))

pub post_stored : (w : Width) (imm7 : ℤ) (rt2 rn rt sum : ℕ) (below : Bool) (bytes : ℕ) (is : List Instruction) → offset_of below bytes ≡ pair_offset w imm7 → bytes < 4096
    → (below ≡ true → 1 ≤ bytes) → IsPairSum false rt2 rt sum → rn ≢ sum → eqb rn 31 ≡ false → eqb rn 21 ≡ false → rn < 32 → rn ≢ rt → rn ≢ rt2
    → is ≡ changing_stored false sum w rt2 rt rn below bytes
    → DoesTheSameBounded [] is (instructions.Pair (record { width = w; load = false; mode = modes.PostIndex; imm7 = imm7; rt2 = rt2; rn = rn; rt = rt }))
post_stored w imm7 rt2 rn rt sum below bytes is far fits some psum apart stack no_base inside32 one two e s whole lies =
    let refused = instructions.Pair (record { width = w; load = false; mode = modes.PostIndex; imm7 = imm7; rt2 = rt2; rn = rn; rt = rt }) in
    let r = s.registers in
    let x = x_at r rn in
    let b = x_or_sp_at r rn in
    let c = reached below bytes x in
    let b21 = x_at r 21 in
    let any = some_pair w in
    let base = base_is rn rt2 rt inside32 stack one two in
    let same : b ≡ x = rw stack refl in
    let there : c ≡ displaced b (pair_offset w imm7) = ap (reached below bytes) (sym same) ∙ (displaced_by below bytes b some ∙ ap (displaced b) far) in
    let lie : InSlot r (record { address = x; bytes = pair_bytes w; stores = true }) =
    subst (λ a. InSlot r (record { address = a; bytes = pair_bytes w; stores = true })) same lies in
    let h = slot_of s x (pair_bytes w) true whole lie in
    let address : (b21 + x % 4294967296 * 1) % 18446744073709551616 ≡ x = same_address lie.slot b21 x lie.base lie.room lie.first (omega (arith, lie.last, any)) in
    let m = stored_by_two w rt2 rt rn sum x s h psum.is (psum.second refl) stack address lie.last in
    let s1 = after_all (two_stores w rt2 rt rn sum) s in
    let base21 : x_at s1.registers 21 ≡ b21 = m.general 21 psum.is.base in
    let kept : x_at s1.registers rn ≡ x = m.general rn apart in
    let g0 = based_by sum rn below bytes s1 (slot_after s1 s h base21 m.count) psum.is base.inside no_base fits (subst (λ q. q < 18446744073709551616) (sym kept) (whole.fit rn)) in
    let s2 = after_all (change_of sum rn below bytes) s1 in
    let g : Based s2 s1 rn sum c = subst (λ q. Based s2 s1 rn sum (reached below bytes q)) kept g0 in
    let done : PairDone s2 s w false rt2 rt rn c x = record {
      first = λ l. absurd (true≢false (sym l));
      second = λ l. absurd (true≢false (sym l));
      based = g.value ∙ ap (λ q. bounded_in q rn c) base21;
      general = λ n spare other l l2. g.general n other (psum.is.working n spare) ∙ m.general n (psum.is.working n spare);
      stack = g.stack ∙ m.stack;
      flags = g.flags ∙ m.flags;
      memory = g.memory ∙ m.memory;
    } in
    let core = changing_bounded refused w false rt2 rt rn c x s s2 refl whole.count base (λ l. absurd (true≢false (sym l))) (reached_small below bytes x) done in
    subst (λ l. AgreeBounded refused b21 (after_all l s) (after refused s)) (sym e)
    (subst (λ t. AgreeBounded refused b21 t (after refused s)) (sym (after_more (two_stores w rt2 rt rn sum) (change_of sum rn below bytes) s))
    (subst (λ y. AgreeBounded refused b21 s2 (pairs.changing_at w false rt2 rt rn (displaced b (pair_offset w imm7)) s y)) (sym same)
    (subst (λ d. AgreeBounded refused b21 s2 (pairs.changing_at w false rt2 rt rn d s x)) there core)))
