-- What mends of pairs of any registers do, at an offset and with a base that is changed.
use Rattle.std.proofs.Common.{◌≡◌, ◌≢◌, ℕ, ◌+◌, ◌*◌, ◌%◌, ◌<◌, ◌≤◌, eqb, eqb-true, Bool, true, false, List, [], ◌∷◌, length, Some, None, refl, ap, sym, subst, ◌∙◌, inl, inr, arith, lit≤, true≢false}
use Rattle.std.specs.Prelude.{if◌then◌else◌, not, ◌&&◌, ◌||◌, ◌⊎◌, ℤ, is_some}
use Rattle.std.proofs.lemmas.Bool.{cases_Bool, eqb-false, and_parts, not-true}
use Rattle.a64_word.specs.declared.instruction.Instruction.{Instruction}
use Rattle.a64_word.specs.declared.instruction.Instruction.TheVariants as instructions
use Rattle.a64_word.specs.declared.operands.Width.{Width}
use Rattle.a64_word.specs.declared.operands.Width.TheVariants as widths
use Rattle.a64_word.specs.declared.operands.PairMode.TheVariants as modes
use Rattle.a64_effects.specs.Effects.{pair_bytes, pair_offset, writes_of}
use Rattle.a64_effects.specs.Uses.{Use, general, or_sp, width_in}
use Rattle.a64_semantics.specs.Registers.{x_at, x_or_sp_at, low_bits}
use Rattle.a64_semantics.specs.Accesses.{displaced}
use Rattle.lfi_mends.specs.Registers.{is_reserved, may_move_two, holds_link, is_apart}
use Rattle.lfi_mends.specs.Outcomes.{State, InSlot, after, after_all, bounded_in, is_working, AgreeBounded, DoesTheSameBounded}
use Rattle.lfi_mends.specs.inner.Rows.{index_of, sums, offset_of, guard_of, pair_sum, pair_with, any_paired, change_of, any_changing_pair}
use Rattle.lfi_mends.proofs.Standing.{unreserved}
use Rattle.lfi_mends.proofs.Addresses.{same_address}
use Rattle.lfi_mends.proofs.Summed.{reached, after_more}
use Rattle.lfi_mends.proofs.Changed.{displaced_by, reached_small}
use Rattle.lfi_mends.proofs.Paired.{pair_at, some_pair}
use Rattle.lfi_mends.proofs.ChangedPairs as pairs
use Rattle.lfi_mends.proofs.Bounded.{told, in_general, not_in_general, in_base, not_in_base, is_spare, IsSum, sum_16, sum_22, slot_after, slot_of, points_at}
use Rattle.lfi_mends.proofs.BoundedBases.{Based, based_by, bounded_low}
use Rattle.lfi_mends.proofs.BoundedPairs.{link_of, link_only, ArePair, pair_moved, first_at, second_at, stores_at, same_stored, others_kept, stack_kept, first_loaded, second_loaded}

-- ---- what a pair writes, before what else it writes
pub pair_written : (load : Bool) (rt rt2 n : ℕ) (w : Width) (uses : List Use) → n < 31 → is_some (width_in (if load then general rt w (general rt2 w uses) else uses) n) ≡ true
    → ((load ≡ true) × (n ≡ rt)) ⊎ (((load ≡ true) × (n ≡ rt2)) ⊎ (is_some (width_in uses n) ≡ true))
pair_written false rt rt2 n w uses below h = inr (inr h)
pair_written true rt rt2 n w uses below h = elim (in_general rt n w (general rt2 w uses) below h) [
  | inl one ↦ inl (refl, one)
  | inr more ↦ elim (in_general rt2 n w uses below more) [ inl two ↦ inr (inl (refl, two)) | inr rest ↦ inr (inr rest) ]
]

-- what isn't among them
pub record Unwritten (load : Bool) (rt rt2 n : ℕ) (uses : List Use) : Type 0 where
  pub first : load ≡ true → n ≢ rt
  pub second : load ≡ true → n ≢ rt2
  pub rest : is_some (width_in uses n) ≡ false

pub pair_unwritten : (load : Bool) (rt rt2 n : ℕ) (w : Width) (uses : List Use) → n < 31 → is_some (width_in (if load then general rt w (general rt2 w uses) else uses) n) ≡ false → Unwritten load rt rt2 n uses
pair_unwritten false rt rt2 n w uses below h = record { first = λ l. absurd (true≢false (sym l)); second = λ l. absurd (true≢false (sym l)); rest = h }
pair_unwritten true rt rt2 n w uses below h =
    let one = not_in_general rt n w (general rt2 w uses) below h in
    let two = not_in_general rt2 n w uses below one.1 in
    record { first = λ l. one.0; second = λ l. two.0; rest = two.1 }

-- ---- the register that holds sums
sum_17 : IsSum 17
sum_17 = record { below = lit≤ tt; base = λ q. absurd (omega (arith, q)); working = λ n h. (is_spare n h).3 }

-- it is none of those that are stored
pub record IsPairSum (load : Bool) (rt2 rt sum : ℕ) : Type 0 where
  pub is : IsSum sum
  pub first : load ≡ false → rt ≢ sum
  pub second : load ≡ false → rt2 ≢ sum
  pub loads : load ≡ true → sum ≡ 22

is_apart_from : (r one two three : ℕ) → is_apart r one two three ≡ true → (one ≢ r) × (two ≢ r)
is_apart_from r one two three h =
    let all = and_parts (not (eqb r one) && not (eqb r two)) (not (eqb r three)) h in
    let both = and_parts (not (eqb r one)) (not (eqb r two)) all.0 in
    (other r one both.0, other r two both.1)
  where
    other : (a b : ℕ) → not (eqb a b) ≡ true → b ≢ a
    other a b h = elim (cases_Bool (eqb a b)) [
      | inl same ↦ absurd (true≢false (sym (rw same at h)))
      | inr apart ↦ λ q. eqb-false a b apart (sym q)
    ]

found_sum : (r rt2 rt rn sum : ℕ) → IsSum r → is_apart r rt rt2 rn ≡ true → Some r ≡ Some sum → IsPairSum false rt2 rt sum
found_sum r rt2 rt rn sum is apart e =
    let both = is_apart_from r rt rt2 rn apart in
    let same : r ≡ sum = some_same r sum e in
    subst (λ k. IsPairSum false rt2 rt k) same (record { is = is; first = λ l. both.0; second = λ l. both.1; loads = λ l. absurd (true≢false (sym l)) })
  where
    some_same : (a b : ℕ) → Some a ≡ Some b → a ≡ b
    some_same a b e = cc

pub pair_sum_is : (load : Bool) (rt2 rt rn sum : ℕ) → pair_sum load rt2 rt rn ≡ Some sum → IsPairSum load rt2 rt sum
pair_sum_is true rt2 rt rn sum e =
    let same : 22 ≡ sum = cc in
    subst (λ k. IsPairSum true rt2 rt k) same (record { is = sum_22; first = λ l. absurd (true≢false l); second = λ l. absurd (true≢false l); loads = λ l. refl })
pair_sum_is false rt2 rt rn sum e = elim (cases_Bool (is_apart 22 rt rt2 rn)) [
  | inl found ↦ found_sum 22 rt2 rt rn sum sum_22 found (rw found at e)
  | inr not22 ↦ elim (cases_Bool (is_apart 16 rt rt2 rn)) [
    | inl found ↦ found_sum 16 rt2 rt rn sum sum_16 found (rw (not22, found) at e)
    | inr not16 ↦ elim (cases_Bool (is_apart 17 rt rt2 rn)) [
      | inl found ↦ found_sum 17 rt2 rt rn sum sum_17 found (rw (not22, not16, found) at e)
      | inr not17 ↦ let none : None ≡ Some sum = rw (not22, not16, not17) at e in absurd (no_some sum none)
    ]
  ]
]
  where
    no_some : (a : ℕ) → None ≡ Some a → ⊥
    no_some a e = cc

-- A pair loads neither x21 nor x22.
pub loaded_apart : (w : Width) (load : Bool) (rt2 rt : ℕ) → (not load || may_move_two load rt2 rt || holds_link w rt2 rt) ≡ true → load ≡ true → ((rt ≢ 22) × (rt2 ≢ 22)) × ((21 ≢ rt) × (21 ≢ rt2))
loaded_apart w false rt2 rt h l = absurd (true≢false (sym l))
loaded_apart w true rt2 rt h l = elim (cases_Bool (may_move_two true rt2 rt)) [
  | inl may ↦
      let both = and_parts (not (is_reserved rt)) (not (is_reserved rt2)) may in
      let one = free rt (not-true (is_reserved rt) both.0) in
      let two = free rt2 (not-true (is_reserved rt2) both.1) in
      ((one.0, two.0), (one.1, two.1))
  | inr other ↦ elim (link_of rt2 rt (link_only w true rt2 rt h other).2) [
    | inl f ↦ let one = link rt f.0 in let two = free rt2 f.1 in ((one.0, two.0), (one.1, two.1))
    | inr t ↦ let one = free rt t.1 in let two = link rt2 t.0 in ((one.0, two.0), (one.1, two.1))
  ]
]
  where
    free : (r : ℕ) → is_reserved r ≡ false → (r ≢ 22) × (21 ≢ r)
    free r h = let u = unreserved r h in (eqb-false r 22 u.offset, λ q. eqb-false r 21 u.base (sym q))

    link : (r : ℕ) → r ≡ 30 → (r ≢ 22) × (21 ≢ r)
    link r e = ((λ q. absurd (omega (arith, e, q))), (λ q. absurd (omega (arith, e, q))))

-- ---- at an offset
pub offset_bounded : (w : Width) (load : Bool) (imm7 : ℤ) (rt2 rn rt sum : ℕ) (below : Bool) (bytes : ℕ) (is : List Instruction) → offset_of below bytes ≡ pair_offset w imm7 → bytes < 4096
    → (below ≡ true → 1 ≤ bytes) → ArePair w load rt2 rt → IsPairSum load rt2 rt sum → is ≡ any_paired sum w load rt2 rt rn below bytes
    → DoesTheSameBounded [] is (instructions.Pair (record { width = w; load = load; mode = modes.Offset; imm7 = imm7; rt2 = rt2; rn = rn; rt = rt }))
offset_bounded w load imm7 rt2 rn rt sum below bytes is far fits some pair psum e s whole lies =
    let refused = instructions.Pair (record { width = w; load = load; mode = modes.Offset; imm7 = imm7; rt2 = rt2; rn = rn; rt = rt }) in
    let r = s.registers in
    let b = x_or_sp_at r rn in
    let a = reached below bytes b in
    let base = x_at r 21 in
    let there : a ≡ displaced b (pair_offset w imm7) = displaced_by below bytes b some ∙ ap (displaced b) far in
    let lie : InSlot r (record { address = a; bytes = pair_bytes w; stores = not load }) =
    subst (λ x. InSlot r (record { address = x; bytes = pair_bytes w; stores = not load })) (sym there) lies in
    let any = some_pair w in
    let h = slot_of s a (pair_bytes w) (not load) whole lie in
    let last : a < (lie.slot + 1) * 4294967296 = omega (arith, lie.last, any) in
    let p = points_at sum rn below bytes s (omega (arith, fits)) whole h psum.is lie.first last in
    let s1 = after_all (sums sum rn below bytes) s in
    let same_base = p.general 21 psum.is.base in
    let m = pair_moved w load rt2 rt (index_of sum rn bytes) a s1 (slot_after s1 s h same_base p.count) pair p.address in
    let s2 = after_all (guard_of 18 (index_of sum rn bytes) ∷ pair_with w load rt2 rt) s1 in
    let meant = pair_at w load rt2 rt s a in
    let v1 = first_at w s a in
    let v2 = second_at w s a in
    let core : AgreeBounded refused base s2 meant = record {
      written = λ n below_n hw. elim (pair_written load rt rt2 n w [] below_n (sym (told refused n (if load then general rt w (general rt2 w []) else []) refl) ∙ hw)) [
        | inl one ↦
            let low : rt < 31 = subst (λ k. k < 31) one.1 below_n in
            let mine : x_at s2.registers rt ≡ bounded_in base rt (low_bits w v1) =
            m.first one.0 low ∙ (ap (λ q. bounded_in q rt (low_bits w (first_at w s1 a))) same_base ∙ ap (λ (f : ℕ → ℕ). bounded_in base rt (low_bits w (first_at w (record { registers = r; memory = f }) a))) p.memory) in
            subst (λ k. x_at s2.registers k ≡ bounded_in base k (x_at meant.registers k)) (sym one.1) (mine ∙ ap (bounded_in base rt) (sym (meant_first load one.0 rt rt2 v1 v2 s low whole.count (pair.apart one.0))))
        | inr others ↦ elim others [
          | inl two ↦
              let low : rt2 < 31 = subst (λ k. k < 31) two.1 below_n in
              let mine : x_at s2.registers rt2 ≡ bounded_in base rt2 (low_bits w v2) =
              m.second two.0 low ∙ (ap (λ q. bounded_in q rt2 (low_bits w (second_at w s1 a))) same_base ∙ ap (λ (f : ℕ → ℕ). bounded_in base rt2 (low_bits w (second_at w (record { registers = r; memory = f }) a))) p.memory) in
              subst (λ k. x_at s2.registers k ≡ bounded_in base k (x_at meant.registers k)) (sym two.1) (mine ∙ ap (bounded_in base rt2) (sym (meant_second load two.0 rt rt2 v1 v2 s low whole.count)))
          | inr none ↦ absurd (true≢false (sym none))
        ]
      ];
      general = λ n below_n hw spare.
          let u = pair_unwritten load rt rt2 n w [] below_n (sym (told refused n (if load then general rt w (general rt2 w []) else []) refl) ∙ hw) in
          m.general n (is_spare n spare).0 u.first u.second ∙ (p.general n (psum.is.working n spare) ∙ sym (others_kept load w rt rt2 v1 v2 n r u.first u.second));
      stack = m.stack ∙ (p.stack ∙ sym (stack_kept load w rt rt2 v1 v2 r));
      flags = m.flags ∙ p.flags;
      memory = λ place. ap (λ (f : ℕ → ℕ). f place)
          (m.memory ∙ same_stored w load rt2 rt a s1 s p.memory (λ store. p.general rt (psum.first store)) (λ store. p.general rt2 (psum.second store)));
    } in
    subst (λ l. AgreeBounded refused base (after_all l s) (after refused s)) (sym e)
    (subst (λ t. AgreeBounded refused base t (after refused s)) (sym (after_more (sums sum rn below bytes) (guard_of 18 (index_of sum rn bytes) ∷ pair_with w load rt2 rt) s))
    (subst (λ x. AgreeBounded refused base s2 (pair_at w load rt2 rt s x)) there core))
  where
    meant_first : (b : Bool) → b ≡ true → (rt rt2 v1 v2 : ℕ) (s : State) → rt < 31 → length s.registers.x ≡ 31 → rt ≢ rt2 → x_at (pairs.moved b w rt rt2 v1 v2 s.registers) rt ≡ low_bits w v1
    meant_first true l rt rt2 v1 v2 s low count apart = first_loaded rt rt2 v1 v2 w s.registers low count apart
    meant_first false l rt rt2 v1 v2 s low count apart = absurd (true≢false (sym l))

    meant_second : (b : Bool) → b ≡ true → (rt rt2 v1 v2 : ℕ) (s : State) → rt2 < 31 → length s.registers.x ≡ 31 → x_at (pairs.moved b w rt rt2 v1 v2 s.registers) rt2 ≡ low_bits w v2
    meant_second true l rt rt2 v1 v2 s low count = second_loaded rt rt2 v1 v2 w s.registers low count
    meant_second false l rt rt2 v1 v2 s low count = absurd (true≢false (sym l))

-- ---- with a base that is changed
-- A pair, and a base, in either order.
pub record PairDone (s2 s : State) (w : Width) (load : Bool) (rt2 rt rn c a : ℕ) : Type 0 where
  pub first : load ≡ true → rt < 31 → x_at s2.registers rt ≡ bounded_in (x_at s.registers 21) rt (low_bits w (first_at w s a))
  pub second : load ≡ true → rt2 < 31 → x_at s2.registers rt2 ≡ bounded_in (x_at s.registers 21) rt2 (low_bits w (second_at w s a))
  pub based : x_at s2.registers rn ≡ bounded_in (x_at s.registers 21) rn c
  pub general : (n : ℕ) → is_working n ≡ false → n ≢ rn → (load ≡ true → n ≢ rt) → (load ≡ true → n ≢ rt2) → x_at s2.registers n ≡ x_at s.registers n
  pub stack : s2.registers.sp ≡ s.registers.sp
  pub flags : s2.registers.nzcv ≡ s.registers.nzcv
  pub memory : s2.memory ≡ stores_at w load rt2 rt s a

-- the base, beside both registers
pub record IsBase (rn rt2 rt : ℕ) : Type 0 where
  pub inside : rn < 31
  pub stack : eqb rn 31 ≡ false
  pub first : rn ≢ rt
  pub second : rn ≢ rt2

pub changing_bounded : (i : Instruction) (w : Width) (load : Bool) (rt2 rt rn c a : ℕ) (s s2 : State)
    → writes_of i ≡ (if load then general rt w (general rt2 w (or_sp rn widths.X [])) else or_sp rn widths.X [])
    → length s.registers.x ≡ 31 → IsBase rn rt2 rt → (load ≡ true → rt ≢ rt2) → c < 18446744073709551616
    → PairDone s2 s w load rt2 rt rn c a → AgreeBounded i (x_at s.registers 21) s2 (pairs.changing_at w load rt2 rt rn c s a)
changing_bounded i w load rt2 rt rn c a s s2 uses count base apart small d =
    let b = x_at s.registers 21 in
    let v1 = first_at w s a in
    let v2 = second_at w s a in
    let meant = pairs.changing_at w load rt2 rt rn c s a in
    let moved : (n : ℕ) → n ≢ rn → x_at meant.registers n ≡ x_at (pairs.moved load w rt rt2 v1 v2 s.registers) n = λ n other. pairs.based_apart load w rt rt2 v1 v2 rn c n s.registers base.stack other in
    let based : x_at meant.registers rn ≡ c = pairs.based_here load w rt rt2 v1 v2 rn c s.registers base.stack base.inside count small in
    record {
      written = λ n below h. elim (pair_written load rt rt2 n w (or_sp rn widths.X []) below (sym (told i n _ uses) ∙ h)) [
        | inl one ↦
            let low : rt < 31 = subst (λ k. k < 31) one.1 below in
            let theirs = moved rt (λ q. base.first (sym q)) ∙ loaded_first load one.0 low (apart one.0) in
            subst (λ k. x_at s2.registers k ≡ bounded_in b k (x_at meant.registers k)) (sym one.1) (d.first one.0 low ∙ ap (bounded_in b rt) (sym theirs))
        | inr others ↦ elim others [
          | inl two ↦
              let low : rt2 < 31 = subst (λ k. k < 31) two.1 below in
              let theirs = moved rt2 (λ q. base.second (sym q)) ∙ loaded_second load two.0 low in
              subst (λ k. x_at s2.registers k ≡ bounded_in b k (x_at meant.registers k)) (sym two.1) (d.second two.0 low ∙ ap (bounded_in b rt2) (sym theirs))
          | inr is_base ↦
              let same = in_base rn n is_base in
              subst (λ k. x_at s2.registers k ≡ bounded_in b k (x_at meant.registers k)) (sym same) (d.based ∙ ap (bounded_in b rn) (sym based))
        ]
      ];
      general = λ n below h spare.
          let u = pair_unwritten load rt rt2 n w (or_sp rn widths.X []) below (sym (told i n _ uses) ∙ h) in
          let other = not_in_base rn n u.rest in
          d.general n spare other u.first u.second ∙ sym (moved n other ∙ others_kept load w rt rt2 v1 v2 n s.registers u.first u.second);
      stack = d.stack ∙ sym (pairs.based_stack load w rt rt2 v1 v2 rn c s.registers base.stack ∙ stack_kept load w rt rt2 v1 v2 s.registers);
      flags = d.flags;
      memory = λ place. ap (λ (f : ℕ → ℕ). f place) d.memory;
    }
  where
    loaded_first : (q : Bool) → q ≡ true → rt < 31 → rt ≢ rt2 → x_at (pairs.moved q w rt rt2 (first_at w s a) (second_at w s a) s.registers) rt ≡ low_bits w (first_at w s a)
    loaded_first true l low apart = first_loaded rt rt2 (first_at w s a) (second_at w s a) w s.registers low count apart
    loaded_first false l low apart = absurd (true≢false (sym l))

    loaded_second : (q : Bool) → q ≡ true → rt2 < 31 → x_at (pairs.moved q w rt rt2 (first_at w s a) (second_at w s a) s.registers) rt2 ≡ low_bits w (second_at w s a)
    loaded_second true l low = second_loaded rt rt2 (first_at w s a) (second_at w s a) w s.registers low count
    loaded_second false l low = absurd (true≢false (sym l))

-- what a base owes
pub base_is : (rn rt2 rt : ℕ) → rn < 32 → eqb rn 31 ≡ false → rn ≢ rt → rn ≢ rt2 → IsBase rn rt2 rt
base_is rn rt2 rt inside stack one two = let no_stack = eqb-false rn 31 stack in record { inside = omega (arith, inside, no_stack); stack = stack; first = one; second = two }

in_slot : (base c slot : ℕ) → base ≡ slot * 4294967296 → slot * 4294967296 ≤ c → c < (slot + 1) * 4294967296 → bounded_in base 18 c ≡ c
in_slot base c slot e first last = omega (arith, e, first, last)

pub pre_pair_bounded : (w : Width) (load : Bool) (imm7 : ℤ) (rt2 rn rt sum : ℕ) (below : Bool) (bytes : ℕ) (is : List Instruction) → offset_of below bytes ≡ pair_offset w imm7 → bytes < 4096
    → (below ≡ true → 1 ≤ bytes) → ArePair w load rt2 rt → IsPairSum load rt2 rt sum → eqb rn 31 ≡ false → eqb rn 21 ≡ false → rn < 32 → rn ≢ rt → rn ≢ rt2
    → is ≡ any_changing_pair true sum w load rt2 rt rn below bytes
    → DoesTheSameBounded [] is (instructions.Pair (record { width = w; load = load; mode = modes.PreIndex; imm7 = imm7; rt2 = rt2; rn = rn; rt = rt }))
pre_pair_bounded w load imm7 rt2 rn rt sum below bytes is far fits some pair psum stack no_base inside32 one two e s whole lies =
    let refused = instructions.Pair (record { width = w; load = load; mode = modes.PreIndex; imm7 = imm7; rt2 = rt2; rn = rn; rt = rt }) in
    let r = s.registers in
    let x = x_at r rn in
    let b = x_or_sp_at r rn in
    let c = reached below bytes x in
    let b21 = x_at r 21 in
    let any = some_pair w in
    let base = base_is rn rt2 rt inside32 stack one two in
    let same : b ≡ x = rw stack refl in
    let there : c ≡ displaced b (pair_offset w imm7) = ap (reached below bytes) (sym same) ∙ (displaced_by below bytes b some ∙ ap (displaced b) far) in
    let lie : InSlot r (record { address = c; bytes = pair_bytes w; stores = not load }) =
    subst (λ a. InSlot r (record { address = a; bytes = pair_bytes w; stores = not load })) (sym there) lies in
    let h = slot_of s c (pair_bytes w) (not load) whole lie in
    let g = based_by sum rn below bytes s h psum.is base.inside no_base fits (whole.fit rn) in
    let s1 = after_all (change_of sum rn below bytes) s in
    let base21 : x_at s1.registers 21 ≡ b21 = g.general 21 (λ q. eqb-false rn 21 no_base (sym q)) psum.is.base in
    let low : x_at s1.registers rn % 4294967296 ≡ c % 4294967296 = ap (λ y. y % 4294967296) g.value ∙ bounded_low b21 rn c lie.slot lie.base in
    let address : (x_at s1.registers 21 + x_at s1.registers rn % 4294967296 * 1) % 18446744073709551616 ≡ c =
    ap (λ q. (q + x_at s1.registers rn % 4294967296 * 1) % 18446744073709551616) base21
    ∙ (ap (λ q. (b21 + q * 1) % 18446744073709551616) low
    ∙ same_address lie.slot b21 c lie.base lie.room lie.first (omega (arith, lie.last, any))) in
    let m = pair_moved w load rt2 rt rn c s1 (slot_after s1 s h base21 g.count) pair address in
    let s2 = after_all (guard_of 18 rn ∷ pair_with w load rt2 rt) s1 in
    let done_by : (eqb rn 18 ≡ false → x_at s2.registers rn ≡ x_at s1.registers rn) → (eqb rn 18 ≡ true → x_at s2.registers rn ≡ bounded_in b21 rn c) → PairDone s2 s w load rt2 rt rn c c =
    λ kept guarded. record {
      first = λ l rt_low. m.first l rt_low
          ∙ (ap (λ q. bounded_in q rt (low_bits w (first_at w s1 c))) base21 ∙ ap (λ (f : ℕ → ℕ). bounded_in b21 rt (low_bits w (first_at w (record { registers = r; memory = f }) c))) g.memory);
      second = λ l rt2_low. m.second l rt2_low
          ∙ (ap (λ q. bounded_in q rt2 (low_bits w (second_at w s1 c))) base21 ∙ ap (λ (f : ℕ → ℕ). bounded_in b21 rt2 (low_bits w (second_at w (record { registers = r; memory = f }) c))) g.memory);
      based = elim (cases_Bool (eqb rn 18)) [ inl is18 ↦ guarded is18 | inr not18 ↦ kept not18 ∙ g.value ];
      general = λ n spare other apart apart2. m.general n (is_spare n spare).0 apart apart2 ∙ g.general n other (psum.is.working n spare);
      stack = m.stack ∙ g.stack;
      flags = m.flags ∙ g.flags;
      memory = m.memory ∙ same_stored w load rt2 rt c s1 s g.memory (λ store. g.general rt (λ q. one (sym q)) (psum.first store)) (λ store. g.general rt2 (λ q. two (sym q)) (psum.second store));
    } in
    let core = changing_bounded refused w load rt2 rt rn c c s s2 refl whole.count base pair.apart (reached_small below bytes x)
    (done_by (λ not18. m.general rn (eqb-false rn 18 not18) (λ l. one) (λ l. two))
    (λ is18. let e18 = eqb-true rn 18 is18 in ap (λ k. x_at s2.registers k) e18 ∙ (m.address ∙ (sym (in_slot b21 c lie.slot lie.base lie.first (omega (arith, lie.last, any))) ∙ ap (λ k. bounded_in b21 k c) (sym e18))))) in
    subst (λ l. AgreeBounded refused b21 (after_all l s) (after refused s)) (sym e)
    (subst (λ t. AgreeBounded refused b21 t (after refused s)) (sym (after_more (change_of sum rn below bytes) (guard_of 18 rn ∷ pair_with w load rt2 rt) s))
    (subst (λ d. AgreeBounded refused b21 s2 (pairs.changing_at w load rt2 rt rn d s d)) there core))

pub post_pair_bounded : (w : Width) (load : Bool) (imm7 : ℤ) (rt2 rn rt sum : ℕ) (below : Bool) (bytes : ℕ) (is : List Instruction) → offset_of below bytes ≡ pair_offset w imm7 → bytes < 4096
    → (below ≡ true → 1 ≤ bytes) → ArePair w load rt2 rt → IsPairSum load rt2 rt sum → (load ≡ true → (rt ≢ sum) × (rt2 ≢ sum)) → eqb rn 31 ≡ false → eqb rn 21 ≡ false → (load ≡ true → (21 ≢ rt) × (21 ≢ rt2))
    → rn < 32 → rn ≢ rt → rn ≢ rt2 → is ≡ any_changing_pair false sum w load rt2 rt rn below bytes
    → DoesTheSameBounded [] is (instructions.Pair (record { width = w; load = load; mode = modes.PostIndex; imm7 = imm7; rt2 = rt2; rn = rn; rt = rt }))
post_pair_bounded w load imm7 rt2 rn rt sum below bytes is far fits some pair psum unsummed stack no_base unloaded inside32 one two e s whole lies =
    let refused = instructions.Pair (record { width = w; load = load; mode = modes.PostIndex; imm7 = imm7; rt2 = rt2; rn = rn; rt = rt }) in
    let r = s.registers in
    let x = x_at r rn in
    let b = x_or_sp_at r rn in
    let c = reached below bytes x in
    let b21 = x_at r 21 in
    let any = some_pair w in
    let base = base_is rn rt2 rt inside32 stack one two in
    let same : b ≡ x = rw stack refl in
    let there : c ≡ displaced b (pair_offset w imm7) = ap (reached below bytes) (sym same) ∙ (displaced_by below bytes b some ∙ ap (displaced b) far) in
    let lie : InSlot r (record { address = x; bytes = pair_bytes w; stores = not load }) =
    subst (λ a. InSlot r (record { address = a; bytes = pair_bytes w; stores = not load })) same lies in
    let h = slot_of s x (pair_bytes w) (not load) whole lie in
    let address : (b21 + x % 4294967296 * 1) % 18446744073709551616 ≡ x = same_address lie.slot b21 x lie.base lie.room lie.first (omega (arith, lie.last, any)) in
    let m = pair_moved w load rt2 rt rn x s h pair address in
    let s1 = after_all (guard_of 18 rn ∷ pair_with w load rt2 rt) s in
    let base21 : x_at s1.registers 21 ≡ b21 = m.general 21 (λ q. absurd (omega (arith, q))) (λ l. (unloaded l).0) (λ l. (unloaded l).1) in
    let kept : x_at s1.registers rn ≡ x = elim (cases_Bool (eqb rn 18)) [
      | inl is18 ↦ ap (λ k. x_at s1.registers k) (eqb-true rn 18 is18) ∙ m.address
      | inr not18 ↦ m.general rn (eqb-false rn 18 not18) (λ l. one) (λ l. two)
    ] in
    let g0 = based_by sum rn below bytes s1 (slot_after s1 s h base21 m.count) psum.is base.inside no_base fits (subst (λ q. q < 18446744073709551616) (sym kept) (whole.fit rn)) in
    let s2 = after_all (change_of sum rn below bytes) s1 in
    let g : Based s2 s1 rn sum c = subst (λ q. Based s2 s1 rn sum (reached below bytes q)) kept g0 in
    let done : PairDone s2 s w load rt2 rt rn c x = record {
      first = λ l low. g.general rt (λ q. one (sym q)) (unsummed l).0 ∙ m.first l low;
      second = λ l low. g.general rt2 (λ q. two (sym q)) (unsummed l).1 ∙ m.second l low;
      based = g.value ∙ ap (λ q. bounded_in q rn c) base21;
      general = λ n spare other apart apart2. g.general n other (psum.is.working n spare) ∙ m.general n (is_spare n spare).0 apart apart2;
      stack = g.stack ∙ m.stack;
      flags = g.flags ∙ m.flags;
      memory = g.memory ∙ m.memory;
    } in
    let core = changing_bounded refused w load rt2 rt rn c x s s2 refl whole.count base pair.apart (reached_small below bytes x) done in
    subst (λ l. AgreeBounded refused b21 (after_all l s) (after refused s)) (sym e)
    (subst (λ t. AgreeBounded refused b21 t (after refused s)) (sym (after_more (guard_of 18 rn ∷ pair_with w load rt2 rt) (change_of sum rn below bytes) s))
    (subst (λ y. AgreeBounded refused b21 s2 (pairs.changing_at w load rt2 rt rn (displaced b (pair_offset w imm7)) s y)) (sym same)
    (subst (λ d. AgreeBounded refused b21 s2 (pairs.changing_at w load rt2 rt rn d s x)) there core)))
