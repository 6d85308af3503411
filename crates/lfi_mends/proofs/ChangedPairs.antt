-- Pairs that change their base, in three instructions.
use Rattle.std.proofs.Common.{◌≡◌, ◌≢◌, ℕ, ◌+◌, ◌*◌, ◌%◌, ◌<◌, ◌≤◌, eqb, Bool, true, false, List, [], ◌++◌, length, Some, refl, ap, sym, subst, ◌∙◌, inl, inr, arith}
use Rattle.std.specs.Prelude.{if◌then◌else◌, not, ℤ}
use mathlib.Core.Logic.{dite}
use native.Mathlib.Decide.{ℕ_discrete}
use Rattle.std.proofs.lemmas.Bool.{cases_Bool, eqb-false}
use Rattle.std.proofs.lemmas.List.{get_or-set_other}
use Rattle.std.proofs.lemmas.Grind.{get_or-set_at}
use Rattle.a64_word.specs.declared.instruction.Instruction.{Instruction}
use Rattle.a64_word.specs.declared.instruction.Instruction.TheVariants as instructions
use Rattle.a64_word.specs.declared.operands.Width.{Width}
use Rattle.a64_word.specs.declared.operands.Width.TheVariants as widths
use Rattle.a64_word.specs.declared.operands.PairMode.TheVariants as modes
use Rattle.a64_word.specs.Bytes.{number_at, low_bytes}
use Rattle.a64_effects.specs.Effects.{pair_bytes, pair_offset}
use Rattle.a64_semantics.specs.declared.registers.Registers.{Registers}
use Rattle.a64_semantics.specs.Registers.{x_at, x_or_sp_at, put_all, to_general, to_or_sp}
use Rattle.a64_semantics.specs.Accesses.{displaced, register_bytes}
use Rattle.a64_semantics.specs.Branches.{following}
use Rattle.lfi_mends.specs.Outcomes.{State, Agree, InSlot, DoesTheSame, after, after_all, written_at, is_scratch, moves_both}
use Rattle.lfi_mends.specs.inner.Rows.{changed_of, changing_pair, guard_of, offset_of, pair_of}
use Rattle.lfi_mends.proofs.Addresses.{same_address}
use Rattle.lfi_mends.proofs.Summed.{reached}
use Rattle.lfi_mends.proofs.Changed.{Changed, changed, displaced_by, reached_small, small_base}
use Rattle.lfi_mends.proofs.Paired.{loads, pair_at, in_turn, put_count, guarded_after, by_guard, some_pair, two_same, stack_same}

-- registers after a pair, and then a base
abbrev pub moved : (load : Bool) → Width → (rt rt2 first second : ℕ) → Registers → Registers
moved load width rt rt2 first second r = put_all (loads load width rt rt2 first second) r

abbrev pub moved_and_based : (load : Bool) → Width → (rt rt2 first second rn c : ℕ) → Registers → Registers
moved_and_based load width rt rt2 first second rn c r =
    put_all (if load then to_general rt width first (to_general rt2 width second (to_or_sp rn widths.X c [])) else to_or_sp rn widths.X c []) r

-- the base last
based : (load : Bool) (width : Width) (rt rt2 first second rn c : ℕ) (r : Registers)
    → moved_and_based load width rt rt2 first second rn c r ≡ put_all (to_or_sp rn widths.X c []) (moved load width rt rt2 first second r)
based false width rt rt2 first second rn c r = refl
based true width rt rt2 first second rn c r =
    let one = put_all (to_general rt width first []) r in
    in_turn rt first width (to_general rt2 width second (to_or_sp rn widths.X c [])) r
    ∙ (in_turn rt2 second width (to_or_sp rn widths.X c []) one
    ∙ ap (λ q. put_all (to_or_sp rn widths.X c []) q) (sym (in_turn rt first width (to_general rt2 width second []) r)))

pub put_apart : (rt value n : ℕ) (width : Width) (r : Registers) → n ≢ rt → x_at (put_all (to_general rt width value []) r) n ≡ x_at r n
put_apart rt value n width r apart = elim (cases_Bool (eqb rt 31)) [
  | inl zr ↦ rw zr refl
  | inr other ↦ rw (other, other) (get_or-set_other r.x rt n _ 0 apart)
]

pub moved_apart : (load : Bool) (width : Width) (rt rt2 first second n : ℕ) (r : Registers) → n ≢ rt → n ≢ rt2 → x_at (moved load width rt rt2 first second r) n ≡ x_at r n
moved_apart false width rt rt2 first second n r apart apart2 = refl
moved_apart true width rt rt2 first second n r apart apart2 =
    ap (λ q. x_at q n) (in_turn rt first width (to_general rt2 width second []) r)
    ∙ (put_apart rt2 second n width (put_all (to_general rt width first []) r) apart2 ∙ put_apart rt first n width r apart)

pub moved_count : (load : Bool) (width : Width) (rt rt2 first second : ℕ) (r : Registers) → length (moved load width rt rt2 first second r).x ≡ length r.x
moved_count false width rt rt2 first second r = refl
moved_count true width rt rt2 first second r =
    ap (λ q. length q.x) (in_turn rt first width (to_general rt2 width second []) r)
    ∙ (put_count rt2 second width (put_all (to_general rt width first []) r) ∙ put_count rt first width r)

pub based_apart : (load : Bool) (width : Width) (rt rt2 first second rn c n : ℕ) (r : Registers) → eqb rn 31 ≡ false → n ≢ rn
    → x_at (moved_and_based load width rt rt2 first second rn c r) n ≡ x_at (moved load width rt rt2 first second r) n
based_apart load width rt rt2 first second rn c n r other apart =
    ap (λ q. x_at q n) (based load width rt rt2 first second rn c r) ∙ rw other (get_or-set_other (moved load width rt rt2 first second r).x rn n _ 0 apart)

pub based_here : (load : Bool) (width : Width) (rt rt2 first second rn c : ℕ) (r : Registers) → eqb rn 31 ≡ false → rn < 31 → length r.x ≡ 31 → c < 18446744073709551616
    → x_at (moved_and_based load width rt rt2 first second rn c r) rn ≡ c
based_here load width rt rt2 first second rn c r other inside count small =
    let whole : length (moved load width rt rt2 first second r).x ≡ 31 = moved_count load width rt rt2 first second r ∙ count in
    ap (λ q. x_at q rn) (based load width rt rt2 first second rn c r)
    ∙ rw other (get_or-set_at (moved load width rt rt2 first second r).x rn rn _ 0 refl (subst (λ l. rn < l) (sym whole) inside) ∙ small_base c small)

pub based_stack : (load : Bool) (width : Width) (rt rt2 first second rn c : ℕ) (r : Registers) → eqb rn 31 ≡ false
    → (moved_and_based load width rt rt2 first second rn c r).sp ≡ (moved load width rt rt2 first second r).sp
based_stack load width rt rt2 first second rn c r other = ap (λ q. q.sp) (based load width rt rt2 first second rn c r) ∙ rw other refl

-- a pair, and a base that is changed with it
abbrev pub changing_at : Width → (load : Bool) → (rt2 rt rn c : ℕ) → State → ℕ → State
changing_at width load rt2 rt rn c s a = record {
  registers = record (moved_and_based load width rt rt2 (number_at s.memory (register_bytes width) a) (number_at s.memory (register_bytes width) (a + register_bytes width)) rn c s.registers) { pc = following s.registers; nzcv = s.registers.nzcv };
  memory = written_at (Some (record { address = a; bytes = pair_bytes width; stores = not load })) (if load then [] else low_bytes (register_bytes width) (x_at s.registers rt) ++ low_bytes (register_bytes width) (x_at s.registers rt2)) s.memory;
}

agree_on : (one two three : State) → Agree one two → Agree two three → Agree one three
agree_on one two three g h = record {
  general = λ n below kept. g.general n below kept ∙ h.general n below kept;
  stack = g.stack ∙ h.stack;
  flags = g.flags ∙ h.flags;
  memory = λ place. g.memory place ∙ h.memory place;
}

-- The base first, and then the pair.
base_first : (width : Width) (load : Bool) (rt2 rt rn c : ℕ) (s : State) (r1 : Registers) → Changed r1 s.registers rn c → eqb rn 31 ≡ false → rn < 31 → rn ≢ rt → rn ≢ rt2
    → length s.registers.x ≡ 31 → c < 18446744073709551616 → Agree (pair_at width load rt2 rt (record { registers = r1; memory = s.memory }) c) (changing_at width load rt2 rt rn c s c)
base_first width load rt2 rt rn c s r1 h other inside apart apart2 count small =
    let v1 = number_at s.memory (register_bytes width) c in
    let v2 = number_at s.memory (register_bytes width) (c + register_bytes width) in
    let r = s.registers in
    let data_same : x_at r1 rt ≡ x_at r rt = h.general rt (λ e. apart (sym e)) in
    let data_same2 : x_at r1 rt2 ≡ x_at r rt2 = h.general rt2 (λ e. apart2 (sym e)) in
    let here : x_at (moved load width rt rt2 v1 v2 r1) rn ≡ x_at (moved_and_based load width rt rt2 v1 v2 rn c r) rn =
    moved_apart load width rt rt2 v1 v2 rn r1 apart apart2 ∙ h.value ∙ sym (based_here load width rt rt2 v1 v2 rn c r other inside count small) in
    record {
      general = λ n below kept. dite (ℕ_discrete n rn)
          (λ e. subst (λ m. x_at (moved load width rt rt2 v1 v2 r1) m ≡ x_at (moved_and_based load width rt rt2 v1 v2 rn c r) m) (sym e) here)
          (λ there. two_same load rt rt2 v1 v2 n width r1 r (h.count ∙ sym count) (subst (λ l. n < l) (sym h.count) below) (h.general n there)
          ∙ sym (based_apart load width rt rt2 v1 v2 rn c n r other there));
      stack = stack_same load rt rt2 v1 v2 width r1 r h.stack ∙ sym (based_stack load width rt rt2 v1 v2 rn c r other);
      flags = h.flags;
      memory = λ place. rw (data_same, data_same2) refl;
    }

-- The pair first, and then the base.
base_last : (width : Width) (load : Bool) (rt2 rt rn c a : ℕ) (s : State) (r2 : Registers) → Changed r2 (pair_at width load rt2 rt s a).registers rn c → eqb rn 31 ≡ false → rn < 31
    → length s.registers.x ≡ 31 → c < 18446744073709551616
    → Agree (record { registers = r2; memory = (pair_at width load rt2 rt s a).memory }) (changing_at width load rt2 rt rn c s a)
base_last width load rt2 rt rn c a s r2 h other inside count small =
    let v1 = number_at s.memory (register_bytes width) a in
    let v2 = number_at s.memory (register_bytes width) (a + register_bytes width) in
    let r = s.registers in
    let here : x_at r2 rn ≡ x_at (moved_and_based load width rt rt2 v1 v2 rn c r) rn = h.value ∙ sym (based_here load width rt rt2 v1 v2 rn c r other inside count small) in
    record {
      general = λ n below kept. dite (ℕ_discrete n rn)
          (λ e. subst (λ m. x_at r2 m ≡ x_at (moved_and_based load width rt rt2 v1 v2 rn c r) m) (sym e) here)
          (λ there. h.general n there ∙ sym (based_apart load width rt rt2 v1 v2 rn c n r other there));
      stack = h.stack ∙ sym (based_stack load width rt rt2 v1 v2 rn c r other);
      flags = h.flags;
      memory = λ place. refl;
    }

-- The same change of a base, of states that agree.
change_agrees : (below : Bool) (bytes rn : ℕ) (one two : State) → Agree one two → length one.registers.x ≡ 31 → length two.registers.x ≡ 31 → rn < 31 → eqb rn 31 ≡ false → is_scratch rn ≡ false
    → bytes < 4096 → x_at one.registers rn < 18446744073709551616 → x_at two.registers rn < 18446744073709551616
    → Agree (after (changed_of below bytes rn) one) (after (changed_of below bytes rn) two)
change_agrees below bytes rn one two h count1 count2 inside other free fits small1 small2 =
    let g1 = changed below bytes rn one count1 inside other fits small1 in
    let g2 = changed below bytes rn two count2 inside other fits small2 in
    record {
      general = λ n low kept. dite (ℕ_discrete n rn)
          (λ e. subst (λ m. x_at (after (changed_of below bytes rn) one).registers m ≡ x_at (after (changed_of below bytes rn) two).registers m) (sym e)
          (g1.value ∙ (ap (reached below bytes) (h.general rn inside free) ∙ sym g2.value)))
          (λ there. g1.general n there ∙ (h.general n low kept ∙ sym (g2.general n there)));
      stack = g1.stack ∙ (h.stack ∙ sym g2.stack);
      flags = g1.flags ∙ (h.flags ∙ sym g2.flags);
      memory = h.memory;
    }

pub pre_pair_same : (width : Width) (load : Bool) (imm7 : ℤ) (rt2 rn rt : ℕ) (below : Bool) (bytes : ℕ) (is : List Instruction) → offset_of below bytes ≡ pair_offset width imm7 → bytes < 4096
    → (below ≡ true → 1 ≤ bytes) → moves_both rt2 rt ≡ true → eqb rn 31 ≡ false → eqb rn 21 ≡ false → rn < 32 → rn ≢ rt → rn ≢ rt2
    → is ≡ changing_pair true width load rt2 rt rn below bytes
    → DoesTheSame [] is (instructions.Pair (record { width = width; load = load; mode = modes.PreIndex; imm7 = imm7; rt2 = rt2; rn = rn; rt = rt }))
pre_pair_same width load imm7 rt2 rn rt below bytes is far fits some free other no_base inside32 apart apart2 e s whole lies =
    let r = s.registers in
    let x = x_at r rn in
    let b = x_or_sp_at r rn in
    let c = reached below bytes x in
    let refused = instructions.Pair (record { width = width; load = load; mode = modes.PreIndex; imm7 = imm7; rt2 = rt2; rn = rn; rt = rt }) in
    let any = some_pair width in
    let no_stack = eqb-false rn 31 other in
    let inside : rn < 31 = omega (arith, inside32, no_stack) in
    let same : b ≡ x = rw other refl in
    let there : c ≡ displaced b (pair_offset width imm7) = ap (reached below bytes) (sym same) ∙ (displaced_by below bytes b some ∙ ap (displaced b) far) in
    let lie : InSlot r (record { address = c; bytes = pair_bytes width; stores = not load }) =
    subst (λ a. InSlot r (record { address = a; bytes = pair_bytes width; stores = not load })) (sym there) lies in
    let ch = changed below bytes rn s whole.count inside other fits (whole.fit rn) in
    let s1 = after (changed_of below bytes rn) s in
    let base : x_at s1.registers 21 ≡ x_at r 21 = ch.general 21 (λ q. eqb-false rn 21 no_base (sym q)) in
    let address : (x_at s1.registers 21 + x_at s1.registers rn % 4294967296 * 1) % 18446744073709551616 ≡ c =
    ap (λ q. (q + x_at s1.registers rn % 4294967296 * 1) % 18446744073709551616) base
    ∙ (ap (λ q. (x_at r 21 + q % 4294967296 * 1) % 18446744073709551616) ch.value
    ∙ same_address lie.slot (x_at r 21) c lie.base lie.room lie.first (omega (arith, lie.last, any))) in
    let guarded = guarded_after rn c s1 s1 (λ n q. refl) refl refl ch.count refl address in
    let by : Agree (after (pair_of width load rt2 rt) (after (guard_of 18 rn) s1)) (pair_at width load rt2 rt s1 c) =
    by_guard width load rt2 rt c s1 _ guarded free ch.count (reached_small below bytes x) in
    let core : Agree (pair_at width load rt2 rt s1 c) (changing_at width load rt2 rt rn c s c) =
    base_first width load rt2 rt rn c s s1.registers ch other inside apart apart2 whole.count (reached_small below bytes x) in
    subst (λ l. Agree (after_all l s) (after refused s)) (sym e)
    (subst (λ d. Agree (after (pair_of width load rt2 rt) (after (guard_of 18 rn) s1)) (changing_at width load rt2 rt rn d s d)) there
    (agree_on _ _ _ by core))

pub post_pair_same : (width : Width) (load : Bool) (imm7 : ℤ) (rt2 rn rt : ℕ) (below : Bool) (bytes : ℕ) (is : List Instruction) → offset_of below bytes ≡ pair_offset width imm7 → bytes < 4096
    → (below ≡ true → 1 ≤ bytes) → moves_both rt2 rt ≡ true → eqb rn 31 ≡ false → eqb rn 18 ≡ false → eqb rn 22 ≡ false → is_scratch rn ≡ false → rn < 32 → rn ≢ rt → rn ≢ rt2
    → is ≡ changing_pair false width load rt2 rt rn below bytes
    → DoesTheSame [] is (instructions.Pair (record { width = width; load = load; mode = modes.PostIndex; imm7 = imm7; rt2 = rt2; rn = rn; rt = rt }))
post_pair_same width load imm7 rt2 rn rt below bytes is far fits some free other no_first no_offset kept inside32 apart apart2 e s whole lies =
    let r = s.registers in
    let x = x_at r rn in
    let b = x_or_sp_at r rn in
    let c = reached below bytes x in
    let refused = instructions.Pair (record { width = width; load = load; mode = modes.PostIndex; imm7 = imm7; rt2 = rt2; rn = rn; rt = rt }) in
    let any = some_pair width in
    let no_stack = eqb-false rn 31 other in
    let inside : rn < 31 = omega (arith, inside32, no_stack) in
    let same : b ≡ x = rw other refl in
    let there : c ≡ displaced b (pair_offset width imm7) = ap (reached below bytes) (sym same) ∙ (displaced_by below bytes b some ∙ ap (displaced b) far) in
    let lie : InSlot r (record { address = x; bytes = pair_bytes width; stores = not load }) =
    subst (λ a. InSlot r (record { address = a; bytes = pair_bytes width; stores = not load })) same lies in
    let address : (x_at r 21 + x % 4294967296 * 1) % 18446744073709551616 ≡ x =
    same_address lie.slot (x_at r 21) x lie.base lie.room lie.first (omega (arith, lie.last, any)) in
    let guarded = guarded_after rn x s s (λ n q. refl) refl refl whole.count refl address in
    let t = after (pair_of width load rt2 rt) (after (guard_of 18 rn) s) in
    let u = pair_at width load rt2 rt s x in
    let by : Agree t u = by_guard width load rt2 rt x s _ guarded free whole.count (whole.fit rn) in
    let v1 = number_at s.memory (register_bytes width) x in
    let v2 = number_at s.memory (register_bytes width) (x + register_bytes width) in
    let unmoved : x_at u.registers rn ≡ x = moved_apart load width rt rt2 v1 v2 rn r apart apart2 in
    let u_count : length u.registers.x ≡ 31 = moved_count load width rt rt2 v1 v2 r ∙ whole.count in
    let t_same : x_at t.registers rn ≡ x = by.general rn inside kept ∙ unmoved in
    let t_count : length t.registers.x ≡ 31 = moved_count load width rt rt2 _ _ (after (guard_of 18 rn) s).registers ∙ guarded.count in
    let changes : Agree (after (changed_of below bytes rn) t) (after (changed_of below bytes rn) u) =
    change_agrees below bytes rn t u by t_count u_count inside other kept fits (subst (λ q. q < 18446744073709551616) (sym t_same) (whole.fit rn)) (subst (λ q. q < 18446744073709551616) (sym unmoved) (whole.fit rn)) in
    let ch = changed below bytes rn u u_count inside other fits (subst (λ q. q < 18446744073709551616) (sym unmoved) (whole.fit rn)) in
    let ch2 : Changed (after (changed_of below bytes rn) u).registers u.registers rn c =
    subst (λ q. Changed (after (changed_of below bytes rn) u).registers u.registers rn (reached below bytes q)) unmoved ch in
    let core : Agree (after (changed_of below bytes rn) u) (changing_at width load rt2 rt rn c s x) =
    base_last width load rt2 rt rn c x s (after (changed_of below bytes rn) u).registers ch2 other inside whole.count (reached_small below bytes x) in
    subst (λ l. Agree (after_all l s) (after refused s)) (sym e)
    (subst (λ d. Agree (after (changed_of below bytes rn) t) (changing_at width load rt2 rt rn d s b)) there
    (subst (λ a. Agree (after (changed_of below bytes rn) t) (changing_at width load rt2 rt rn c s a)) (sym same)
    (agree_on _ _ _ changes core)))
