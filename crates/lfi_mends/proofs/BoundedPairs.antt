-- What mends of pairs of any registers do.
use Rattle.std.proofs.Common.{◌≡◌, ◌≢◌, ℕ, ◌+◌, ◌*◌, ◌%◌, ◌<◌, ◌≤◌, eqb, eqb-true, Bool, true, false, [], ◌∷◌, ◌++◌, length, Some, refl, ap, sym, subst, ◌∙◌, inl, inr, arith, lit≤, true≢false}
use Rattle.std.specs.Prelude.{if◌then◌else◌, not, ◌&&◌, ◌||◌, ◌⊎◌, pos}
use Rattle.std.proofs.lemmas.Bool.{cases_Bool, eqb-false, and_parts, or_parts, or_cases, not-true}
use Rattle.a64_word.specs.declared.operands.Width.{Width}
use Rattle.a64_word.specs.declared.operands.Width.TheVariants as widths
use Rattle.a64_word.specs.Bytes.{number_at, low_bytes}
use Rattle.a64_effects.specs.Effects.{pair_bytes, pair_offset}
use Rattle.a64_semantics.specs.declared.registers.Registers.{Registers}
use Rattle.a64_semantics.specs.Registers.{x_at, low_bits, put_all, to_general}
use Rattle.a64_semantics.specs.Accesses.{displaced, register_bytes}
use Rattle.lfi_mends.specs.Registers.{is_reserved, may_move_two, holds_link}
use Rattle.lfi_mends.specs.Outcomes.{State, after, after_all, written_at, bounded_in}
use Rattle.lfi_mends.specs.inner.Rows.{guard_of, pair_of, stores_first, pair_with}
use Rattle.lfi_mends.proofs.Standing.{unreserved}
use Rattle.lfi_mends.proofs.Paired.{pair_at, in_turn, put_count, at_first}
use Rattle.lfi_mends.proofs.ChangedPairs as pairs
use Rattle.lfi_mends.proofs.Steps.{Sets, HasSlot, guard_sets, unbounded, moved_here, moved_stack}
use Rattle.lfi_mends.proofs.Bounded.{slot_after}

-- ---- what a pair leaves in registers
pub first_loaded : (rt rt2 v1 v2 : ℕ) (w : Width) (r : Registers) → rt < 31 → length r.x ≡ 31 → rt ≢ rt2 → x_at (put_all (to_general rt w v1 (to_general rt2 w v2 [])) r) rt ≡ low_bits w v1
first_loaded rt rt2 v1 v2 w r below count apart =
    ap (λ q. x_at q rt) (in_turn rt v1 w (to_general rt2 w v2 []) r)
    ∙ (pairs.put_apart rt2 v2 rt w (put_all (to_general rt w v1 []) r) apart ∙ moved_here false w rt v1 r refl below count)

pub second_loaded : (rt rt2 v1 v2 : ℕ) (w : Width) (r : Registers) → rt2 < 31 → length r.x ≡ 31 → x_at (put_all (to_general rt w v1 (to_general rt2 w v2 [])) r) rt2 ≡ low_bits w v2
second_loaded rt rt2 v1 v2 w r below count =
    ap (λ q. x_at q rt2) (in_turn rt v1 w (to_general rt2 w v2 []) r)
    ∙ moved_here false w rt2 v2 (put_all (to_general rt w v1 []) r) refl below (put_count rt v1 w r ∙ count)

pub others_kept : (load : Bool) (w : Width) (rt rt2 v1 v2 n : ℕ) (r : Registers) → (load ≡ true → n ≢ rt) → (load ≡ true → n ≢ rt2) → x_at (pairs.moved load w rt rt2 v1 v2 r) n ≡ x_at r n
others_kept false w rt rt2 v1 v2 n r apart apart2 = refl
others_kept true w rt rt2 v1 v2 n r apart apart2 = pairs.moved_apart true w rt rt2 v1 v2 n r (apart refl) (apart2 refl)

pub stack_kept : (load : Bool) (w : Width) (rt rt2 v1 v2 : ℕ) (r : Registers) → (pairs.moved load w rt rt2 v1 v2 r).sp ≡ r.sp
stack_kept false w rt rt2 v1 v2 r = refl
stack_kept true w rt rt2 v1 v2 r =
    ap (λ q. q.sp) (in_turn rt v1 w (to_general rt2 w v2 []) r) ∙ (moved_stack false w rt2 v2 (put_all (to_general rt w v1 []) r) ∙ moved_stack false w rt v1 r)

abbrev pub first_at : Width → State → ℕ → ℕ
first_at w s a = number_at s.memory (register_bytes w) a

abbrev pub second_at : Width → State → ℕ → ℕ
second_at w s a = number_at s.memory (register_bytes w) (a + register_bytes w)

abbrev pub stores_at : Width → (load : Bool) → (rt2 rt : ℕ) → State → ℕ → ℕ → ℕ
stores_at w load rt2 rt s a =
    written_at (Some (record { address = a; bytes = pair_bytes w; stores = not load })) (if load then [] else low_bytes (register_bytes w) (x_at s.registers rt) ++ low_bytes (register_bytes w) (x_at s.registers rt2)) s.memory

-- One state differs from another by a pair at an address, and in x18.
pub record PairMoved (s2 s : State) (w : Width) (load : Bool) (rt2 rt a : ℕ) : Type 0 where
  pub general : (n : ℕ) → n ≢ 18 → (load ≡ true → n ≢ rt) → (load ≡ true → n ≢ rt2) → x_at s2.registers n ≡ x_at s.registers n
  pub first : load ≡ true → rt < 31 → x_at s2.registers rt ≡ bounded_in (x_at s.registers 21) rt (low_bits w (first_at w s a))
  pub second : load ≡ true → rt2 < 31 → x_at s2.registers rt2 ≡ bounded_in (x_at s.registers 21) rt2 (low_bits w (second_at w s a))
  pub address : x_at s2.registers 18 ≡ a
  pub stack : s2.registers.sp ≡ s.registers.sp
  pub flags : s2.registers.nzcv ≡ s.registers.nzcv
  pub count : length s2.registers.x ≡ 31
  pub memory : s2.memory ≡ stores_at w load rt2 rt s a

not_18 : (load : Bool) (rt2 rt : ℕ) → stores_first load rt2 rt ≡ false → load ≡ false → (rt ≢ 18) × (rt2 ≢ 18)
not_18 true rt2 rt h store = absurd (true≢false store)
not_18 false rt2 rt h store = let both = or_parts (eqb rt 18) (eqb rt2 18) h in (eqb-false rt 18 both.0, eqb-false rt2 18 both.1)

-- the bytes that are stored don't change with x18
pub same_stored : (w : Width) (load : Bool) (rt2 rt a : ℕ) (s1 s : State) → s1.memory ≡ s.memory → (load ≡ false → x_at s1.registers rt ≡ x_at s.registers rt)
    → (load ≡ false → x_at s1.registers rt2 ≡ x_at s.registers rt2) → stores_at w load rt2 rt s1 a ≡ stores_at w load rt2 rt s a
same_stored w true rt2 rt a s1 s memory e e2 = ap (λ (m : ℕ → ℕ). written_at (Some (record { address = a; bytes = pair_bytes w; stores = false })) [] m) memory
same_stored w false rt2 rt a s1 s memory e e2 =
    ap (λ (m : ℕ → ℕ). written_at (Some (record { address = a; bytes = pair_bytes w; stores = true })) (low_bytes (register_bytes w) (x_at s1.registers rt) ++ low_bytes (register_bytes w) (x_at s1.registers rt2)) m) memory
    ∙ (ap (λ x. written_at (Some (record { address = a; bytes = pair_bytes w; stores = true })) (low_bytes (register_bytes w) x ++ low_bytes (register_bytes w) (x_at s1.registers rt2)) s.memory) (e refl)
    ∙ ap (λ x. written_at (Some (record { address = a; bytes = pair_bytes w; stores = true })) (low_bytes (register_bytes w) (x_at s.registers rt) ++ low_bytes (register_bytes w) x) s.memory) (e2 refl))

-- what is known of a pair's registers
pub record ArePair (w : Width) (load : Bool) (rt2 rt : ℕ) : Type 0 where
  pub apart : load ≡ true → rt ≢ rt2
  pub stored : stores_first load rt2 rt ≡ false
  pub some : (not load || may_move_two load rt2 rt || holds_link w rt2 rt) ≡ true

-- after the guard of x18
pair_first : (w : Width) (load : Bool) (rt2 rt a : ℕ) (s s1 : State) → Sets s1 s 18 a → length s.registers.x ≡ 31 → ArePair w load rt2 rt → may_move_two load rt2 rt ≡ true
    → PairMoved (pair_at w load rt2 rt s1 a) s w load rt2 rt a
pair_first w load rt2 rt a s s1 g count p may =
    let v1 = first_at w s1 a in
    let v2 = second_at w s1 a in
    let same1 : v1 ≡ first_at w s a = ap (λ (m : ℕ → ℕ). number_at m (register_bytes w) a) g.memory in
    let same2 : v2 ≡ second_at w s a = ap (λ (m : ℕ → ℕ). number_at m (register_bytes w) (a + register_bytes w)) g.memory in
    let free : load ≡ true → (is_reserved rt ≡ false) × (is_reserved rt2 ≡ false) = free_of load rt2 rt may in
    record {
      general = λ n other apart apart2. others_kept load w rt rt2 v1 v2 n s1.registers apart apart2 ∙ g.general n other;
      first = λ l below. first_at_load load l below (p.apart l) ∙ (ap (low_bits w) same1 ∙ sym (unbounded (x_at s.registers 21) rt (low_bits w (first_at w s a)) (free l).0));
      second = λ l below. second_at_load load l below ∙ (ap (low_bits w) same2 ∙ sym (unbounded (x_at s.registers 21) rt2 (low_bits w (second_at w s a)) (free l).1));
      address = others_kept load w rt rt2 v1 v2 18 s1.registers (λ l q. eqb-false rt 18 (unreserved rt (free l).0).first_address (sym q)) (λ l q. eqb-false rt2 18 (unreserved rt2 (free l).1).first_address (sym q)) ∙ g.value;
      stack = stack_kept load w rt rt2 v1 v2 s1.registers ∙ g.stack;
      flags = g.flags;
      count = pairs.moved_count load w rt rt2 v1 v2 s1.registers ∙ g.count;
      memory = same_stored w load rt2 rt a s1 s g.memory (λ store. g.general rt (not_18 load rt2 rt p.stored store).0) (λ store. g.general rt2 (not_18 load rt2 rt p.stored store).1);
    }
  where
    free_of : (load : Bool) (rt2 rt : ℕ) → may_move_two load rt2 rt ≡ true → load ≡ true → (is_reserved rt ≡ false) × (is_reserved rt2 ≡ false)
    free_of true rt2 rt may l = let both = and_parts (not (is_reserved rt)) (not (is_reserved rt2)) may in (not-true (is_reserved rt) both.0, not-true (is_reserved rt2) both.1)
    free_of false rt2 rt may l = absurd (true≢false (sym l))

    first_at_load : (b : Bool) → b ≡ true → rt < 31 → rt ≢ rt2 → x_at (pairs.moved b w rt rt2 (first_at w s1 a) (second_at w s1 a) s1.registers) rt ≡ low_bits w (first_at w s1 a)
    first_at_load true l below apart = first_loaded rt rt2 (first_at w s1 a) (second_at w s1 a) w s1.registers below g.count apart
    first_at_load false l below apart = absurd (true≢false (sym l))

    second_at_load : (b : Bool) → b ≡ true → rt2 < 31 → x_at (pairs.moved b w rt rt2 (first_at w s1 a) (second_at w s1 a) s1.registers) rt2 ≡ low_bits w (second_at w s1 a)
    second_at_load true l below = second_loaded rt rt2 (first_at w s1 a) (second_at w s1 a) w s1.registers below g.count
    second_at_load false l below = absurd (true≢false (sym l))

-- ---- a pair with x30
-- which of two registers is x30, and that the other isn't reserved
pub link_of : (rt2 rt : ℕ) → holds_link widths.X rt2 rt ≡ true → ((rt ≡ 30) × (is_reserved rt2 ≡ false)) ⊎ ((rt2 ≡ 30) × (is_reserved rt ≡ false))
link_of rt2 rt h = elim (or_cases (eqb rt 30 && not (is_reserved rt2)) (eqb rt2 30 && not (is_reserved rt)) h) [
  | inl one ↦ let both = and_parts (eqb rt 30) (not (is_reserved rt2)) one in inl (eqb-true rt 30 both.0, not-true (is_reserved rt2) both.1)
  | inr two ↦ let both = and_parts (eqb rt2 30) (not (is_reserved rt)) two in inr (eqb-true rt2 30 both.0, not-true (is_reserved rt) both.1)
]

pair_link : (rt2 rt a : ℕ) (s s1 : State) → Sets s1 s 18 a → HasSlot s → rt ≢ rt2 → holds_link widths.X rt2 rt ≡ true
    → PairMoved (after (guard_of 30 30) (pair_at widths.X true rt2 rt s1 a)) s widths.X true rt2 rt a
pair_link rt2 rt a s s1 g h apart link =
    let v1 = first_at widths.X s1 a in
    let v2 = second_at widths.X s1 a in
    let b = x_at s.registers 21 in
    let same1 : v1 ≡ first_at widths.X s a = ap (λ (m : ℕ → ℕ). number_at m 8 a) g.memory in
    let same2 : v2 ≡ second_at widths.X s a = ap (λ (m : ℕ → ℕ). number_at m 8 (a + 8)) g.memory in
    let s2 = pair_at widths.X true rt2 rt s1 a in
    let which = link_of rt2 rt link in
    let no_18 : (rt ≢ 18) × (rt2 ≢ 18) = not_first which in
    let no_base : (rt ≢ 21) × (rt2 ≢ 21) = no_21 which in
    let base : x_at s2.registers 21 ≡ b = pairs.moved_apart true widths.X rt rt2 v1 v2 21 s1.registers (λ q. no_base.0 (sym q)) (λ q. no_base.1 (sym q)) ∙ g.general 21 (λ q. absurd (omega (arith, q))) in
    let count2 : length s2.registers.x ≡ 31 = pairs.moved_count true widths.X rt rt2 v1 v2 s1.registers ∙ g.count in
    let k = guard_sets 30 30 s2 (slot_after s2 s h base count2) (lit≤ tt) in
    let s3 = after (guard_of 30 30) s2 in
    let here : (v : ℕ) → x_at s2.registers 30 ≡ v → x_at s3.registers 30 ≡ bounded_in b 30 v = λ v e. k.value ∙ (ap (λ x. x + x_at s2.registers 30 % 4294967296) base ∙ ap (λ x. b + x % 4294967296) e) in
    let x30 : (r v : ℕ) → r ≡ 30 → x_at s2.registers r ≡ v → x_at s3.registers r ≡ bounded_in b r v =
    λ r v e is. subst (λ q. x_at s3.registers q ≡ bounded_in b q v) (sym e) (here v (subst (λ q. x_at s2.registers q ≡ v) e is)) in
    let free : (r v : ℕ) → is_reserved r ≡ false → x_at s2.registers r ≡ v → x_at s3.registers r ≡ bounded_in b r v =
    λ r v unreserved_r is. k.general r (eqb-false r 30 (unreserved r unreserved_r).link) ∙ (is ∙ sym (unbounded b r v unreserved_r)) in
    let loaded1 : rt < 31 → x_at s2.registers rt ≡ low_bits widths.X (first_at widths.X s a) = λ below. first_loaded rt rt2 v1 v2 widths.X s1.registers below g.count apart ∙ ap (low_bits widths.X) same1 in
    let loaded2 : rt2 < 31 → x_at s2.registers rt2 ≡ low_bits widths.X (second_at widths.X s a) = λ below. second_loaded rt rt2 v1 v2 widths.X s1.registers below g.count ∙ ap (low_bits widths.X) same2 in
    let no_30 : (n : ℕ) → n ≢ rt → n ≢ rt2 → n ≢ 30 = λ n one two. elim which [ inl f ↦ λ q. one (q ∙ sym f.0) | inr t ↦ λ q. two (q ∙ sym t.0) ] in
    record {
      general = λ n other one two. k.general n (no_30 n (one refl) (two refl)) ∙ (pairs.moved_apart true widths.X rt rt2 v1 v2 n s1.registers (one refl) (two refl) ∙ g.general n other);
      first = λ l below. elim which [ inl f ↦ x30 rt _ f.0 (loaded1 below) | inr t ↦ free rt _ t.1 (loaded1 below) ];
      second = λ l below. elim which [ inl f ↦ free rt2 _ f.1 (loaded2 below) | inr t ↦ x30 rt2 _ t.0 (loaded2 below) ];
      address = k.general 18 (λ q. absurd (omega (arith, q))) ∙ (pairs.moved_apart true widths.X rt rt2 v1 v2 18 s1.registers (λ q. no_18.0 (sym q)) (λ q. no_18.1 (sym q)) ∙ g.value);
      stack = k.stack ∙ (stack_kept true widths.X rt rt2 v1 v2 s1.registers ∙ g.stack);
      flags = k.flags ∙ g.flags;
      count = k.count;
      memory = k.memory ∙ ap (λ (m : ℕ → ℕ). written_at (Some (record { address = a; bytes = 16; stores = false })) [] m) g.memory;
    }
  where
    no_21 : ((rt ≡ 30) × (is_reserved rt2 ≡ false)) ⊎ ((rt2 ≡ 30) × (is_reserved rt ≡ false)) → (rt ≢ 21) × (rt2 ≢ 21)
    no_21 (inl f) = let e = f.0 in ((λ q. absurd (omega (arith, e, q))), eqb-false rt2 21 (unreserved rt2 f.1).base)
    no_21 (inr t) = let e = t.0 in (eqb-false rt 21 (unreserved rt t.1).base, (λ q. absurd (omega (arith, e, q))))

    not_first : ((rt ≡ 30) × (is_reserved rt2 ≡ false)) ⊎ ((rt2 ≡ 30) × (is_reserved rt ≡ false)) → (rt ≢ 18) × (rt2 ≢ 18)
    not_first (inl f) = let e = f.0 in ((λ q. absurd (omega (arith, e, q))), eqb-false rt2 18 (unreserved rt2 f.1).first_address)
    not_first (inr t) = let e = t.0 in (eqb-false rt 18 (unreserved rt t.1).first_address, (λ q. absurd (omega (arith, e, q))))

pub link_only : (w : Width) (load : Bool) (rt2 rt : ℕ) → (not load || may_move_two load rt2 rt || holds_link w rt2 rt) ≡ true → may_move_two load rt2 rt ≡ false
    → (load ≡ true) × (w ≡ widths.X) × (holds_link widths.X rt2 rt ≡ true)
link_only w false rt2 rt h other = absurd (true≢false other)
link_only widths.W true rt2 rt h other = absurd (true≢false (sym (rw other at h)))
link_only widths.X true rt2 rt h other = (refl, refl, rw other at h)

guarded_address : (base x a slot : ℕ) → base ≡ slot * 4294967296 → (slot + 1) * 4294967296 ≤ 18446744073709551616 → (base + x % 4294967296 * 1) % 18446744073709551616 ≡ a → base + x % 4294967296 ≡ a
guarded_address base x a slot e room at = omega (arith, e, room, at)

guarded_small : (base x a : ℕ) → (base + x % 4294967296 * 1) % 18446744073709551616 ≡ a → a < 18446744073709551616
guarded_small base x a at = omega (arith, at)

-- A pair of any registers at an address that x21 and a W register give.
pub pair_moved : (w : Width) (load : Bool) (rt2 rt index a : ℕ) (s : State) → HasSlot s → ArePair w load rt2 rt
    → (x_at s.registers 21 + x_at s.registers index % 4294967296 * 1) % 18446744073709551616 ≡ a
    → PairMoved (after_all (guard_of 18 index ∷ pair_with w load rt2 rt) s) s w load rt2 rt a
pair_moved w load rt2 rt index a s h p e =
    let s1 = after (guard_of 18 index) s in
    let g0 = guard_sets 18 index s h (lit≤ tt) in
    let same = guarded_address (x_at s.registers 21) (x_at s.registers index) a h.slot h.base h.room e in
    let g : Sets s1 s 18 a = subst (Sets s1 s 18) same g0 in
    let small = guarded_small (x_at s.registers 21) (x_at s.registers index) a e in
    let address : (v : Width) → displaced (x_at s1.registers 18) (pair_offset v (pos 0)) ≡ a = λ v. ap (λ x. displaced x (pair_offset v (pos 0))) g.value ∙ at_first v a small in
    elim (cases_Bool (may_move_two load rt2 rt)) [
      | inl may ↦ rw may (subst (λ x. PairMoved (pair_at w load rt2 rt s1 x) s w load rt2 rt a) (sym (address w)) (pair_first w load rt2 rt a s s1 g h.count p may))
      | inr other ↦
          let only = link_only w load rt2 rt p.some other in
          let core = pair_link rt2 rt a s s1 g h (p.apart only.0) only.2 in
          let there : PairMoved (after (guard_of 30 30) (pair_at widths.X true rt2 rt s1 (displaced (x_at s1.registers 18) (pair_offset widths.X (pos 0))))) s widths.X true rt2 rt a =
          subst (λ x. PairMoved (after (guard_of 30 30) (pair_at widths.X true rt2 rt s1 x)) s widths.X true rt2 rt a) (sym (address widths.X)) core in
          rw other (subst (λ v. PairMoved (after (guard_of 30 30) (after (pair_of widths.X true rt2 rt) s1)) s v load rt2 rt a) (sym only.1)
          (subst (λ l. PairMoved (after (guard_of 30 30) (after (pair_of widths.X true rt2 rt) s1)) s widths.X l rt2 rt a) (sym only.0) there))
    ]
