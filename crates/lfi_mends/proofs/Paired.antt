-- Pairs at a base and a distance, by x18.
use Rattle.std.proofs.Common.{◌≡◌, ℕ, ◌+◌, ◌*◌, ◌%◌, ◌<◌, ◌≤◌, eqb, eqb-true, Bool, true, false, List, [], ◌∷◌, ◌++◌, length, Some, refl, ap, sym, subst, ◌∙◌, inl, inr, arith, lit≤}
use Rattle.std.specs.Prelude.{if◌then◌else◌, not, ℤ, pos}
use Rattle.std.proofs.lemmas.Bool.{cases_Bool, eqb-false, and_parts, or_parts, not-true}
use Rattle.std.proofs.lemmas.List.{get_or-set_other, length-set}
use Rattle.std.proofs.lemmas.Grind.{get_or-set_at}
use Rattle.a64_word.specs.declared.instruction.Instruction.{Instruction}
use Rattle.a64_word.specs.declared.instruction.Instruction.TheVariants as instructions
use Rattle.a64_word.specs.declared.operands.Width.{Width}
use Rattle.a64_word.specs.declared.operands.Width.TheVariants as widths
use Rattle.a64_word.specs.declared.operands.PairMode.TheVariants as modes
use Rattle.a64_word.specs.Bytes.{number_at, low_bytes}
use Rattle.a64_effects.specs.Effects.{pair_bytes, pair_offset}
use Rattle.a64_semantics.specs.declared.registers.Registers.{Registers}
use Rattle.a64_semantics.specs.Registers.{Write, x_at, x_or_sp_at, put_all, to_general}
use Rattle.a64_semantics.specs.Accesses.{displaced, register_bytes}
use Rattle.a64_semantics.specs.Branches.{following}
use Rattle.lfi_mends.specs.Registers.{is_reserved}
use Rattle.lfi_mends.specs.Outcomes.{State, Agree, IsWhole, InSlot, DoesTheSame, after, after_all, written_at, moves_both}
use Rattle.lfi_mends.specs.inner.Rows.{is_bare, index_of, sums, offset_of, guard_of, pair_of, paired}
use Rattle.lfi_mends.proofs.Standing.{unreserved}
use Rattle.lfi_mends.proofs.Beside.{put_same, put_stack}
use Rattle.lfi_mends.proofs.Summed.{summed, reached, moved_in_slot, reached_none, after_more}

-- ---- what a pair does that accesses an address
abbrev pub loads : (load : Bool) → Width → (rt rt2 first second : ℕ) → List Write
loads load width rt rt2 first second = if load then to_general rt width first (to_general rt2 width second []) else []

abbrev pub pair_at : Width → (load : Bool) → (rt2 rt : ℕ) → State → ℕ → State
pair_at width load rt2 rt s a = record {
  registers = record (put_all (loads load width rt rt2 (number_at s.memory (register_bytes width) a) (number_at s.memory (register_bytes width) (a + register_bytes width))) s.registers) { pc = following s.registers; nzcv = s.registers.nzcv };
  memory = written_at (Some (record { address = a; bytes = pair_bytes width; stores = not load })) (if load then [] else low_bytes (register_bytes width) (x_at s.registers rt) ++ low_bytes (register_bytes width) (x_at s.registers rt2)) s.memory;
}

-- two results, one after another
pub in_turn : (rt value : ℕ) (width : Width) (rest : List Write) (r : Registers) → put_all (to_general rt width value rest) r ≡ put_all rest (put_all (to_general rt width value []) r)
in_turn rt value width rest r = elim (cases_Bool (eqb rt 31)) [
  | inl zr ↦ rw zr refl
  | inr other ↦ rw other refl
]

pub put_count : (rt value : ℕ) (width : Width) (r : Registers) → length (put_all (to_general rt width value []) r).x ≡ length r.x
put_count rt value width r = elim (cases_Bool (eqb rt 31)) [
  | inl zr ↦ rw zr refl
  | inr other ↦ rw (other, other) (length-set r.x rt _)
]

pub two_same : (load : Bool) (rt rt2 first second n : ℕ) (width : Width) (one two : Registers) → length one.x ≡ length two.x → n < length one.x → x_at one n ≡ x_at two n
    → x_at (put_all (loads load width rt rt2 first second) one) n ≡ x_at (put_all (loads load width rt rt2 first second) two) n
two_same false rt rt2 first second n width one two lengths below e = e
two_same true rt rt2 first second n width one two lengths below e =
    let rest = to_general rt2 width second [] in
    let one1 = put_all (to_general rt width first []) one in
    let two1 = put_all (to_general rt width first []) two in
    let lengths1 : length one1.x ≡ length two1.x = put_count rt first width one ∙ (lengths ∙ sym (put_count rt first width two)) in
    let below1 : n < length one1.x = subst (λ l. n < l) (sym (put_count rt first width one)) below in
    ap (λ r. x_at r n) (in_turn rt first width rest one)
    ∙ (put_same false rt2 n second width one1 two1 lengths1 below1 (put_same false rt n first width one two lengths below e)
    ∙ sym (ap (λ r. x_at r n) (in_turn rt first width rest two)))

pub stack_same : (load : Bool) (rt rt2 first second : ℕ) (width : Width) (one two : Registers) → one.sp ≡ two.sp
    → (put_all (loads load width rt rt2 first second) one).sp ≡ (put_all (loads load width rt rt2 first second) two).sp
stack_same false rt rt2 first second width one two e = e
stack_same true rt rt2 first second width one two e =
    let rest = to_general rt2 width second [] in
    ap (λ r. r.sp) (in_turn rt first width rest one)
    ∙ (put_stack false rt2 second width _ _ (put_stack false rt first width one two e)
    ∙ sym (ap (λ r. r.sp) (in_turn rt first width rest two)))

-- The same pair, of registers that agree and of the same bytes, by data registers that are the same in both.
pub pair_agrees : (width : Width) (load : Bool) (rt2 rt : ℕ) (one two : Registers) (memory : ℕ → ℕ) (a : ℕ) → length one.x ≡ 31 → length two.x ≡ 31
    → x_at one rt ≡ x_at two rt → x_at one rt2 ≡ x_at two rt2
    → Agree (record { registers = one; memory = memory }) (record { registers = two; memory = memory })
    → Agree (pair_at width load rt2 rt (record { registers = one; memory = memory }) a) (pair_at width load rt2 rt (record { registers = two; memory = memory }) a)
pair_agrees width load rt2 rt one two memory a first second same same2 h = record {
  general = λ n below kept. two_same load rt rt2 _ _ n width one two (first ∙ sym second) (subst (λ l. n < l) (sym first) below) (h.general n below kept);
  stack = stack_same load rt rt2 _ _ width one two h.stack;
  flags = h.flags;
  memory = λ place. rw (same, same2) refl;
}

-- ---- the guarded address
-- a state that differs from another in x18 and x22 alone, of which the first holds an address
pub record Guarded (s2 s : State) (a : ℕ) : Type 0 where
  pub general : (n : ℕ) → eqb n 18 ≡ false → eqb n 22 ≡ false → x_at s2.registers n ≡ x_at s.registers n
  pub value : x_at s2.registers 18 ≡ a
  pub stack : s2.registers.sp ≡ s.registers.sp
  pub flags : s2.registers.nzcv ≡ s.registers.nzcv
  pub count : length s2.registers.x ≡ 31
  pub memory : s2.memory ≡ s.memory

guard_value : (base x a : ℕ) → (base + x % 4294967296 * 1) % 18446744073709551616 ≡ a
    → (base + x % 4294967296 * 1 % 18446744073709551616 + 0) % 18446744073709551616 % 18446744073709551616 ≡ a
guard_value base x a e = omega (arith, e)

-- after a state that differs in x22 alone
pub guarded_after : (rm a : ℕ) (s s1 : State) → ((n : ℕ) → eqb n 22 ≡ false → x_at s1.registers n ≡ x_at s.registers n) → s1.registers.sp ≡ s.registers.sp → s1.registers.nzcv ≡ s.registers.nzcv
    → length s1.registers.x ≡ 31 → s1.memory ≡ s.memory → (x_at s1.registers 21 + x_at s1.registers rm % 4294967296 * 1) % 18446744073709551616 ≡ a
    → Guarded (after (guard_of 18 rm) s1) s a
guarded_after rm a s s1 general stack flags count memory e = record {
  general = λ n other other22. get_or-set_other s1.registers.x 18 n _ 0 (eqb-false n 18 other) ∙ general n other22;
  value = get_or-set_at s1.registers.x 18 18 _ 0 refl (subst (λ l. 18 < l) (sym count) (lit≤ tt)) ∙ guard_value (x_at s1.registers 21) (x_at s1.registers rm) a e;
  stack = stack;
  flags = flags;
  count = length-set s1.registers.x 18 _ ∙ count;
  memory = memory;
}

-- an address at no offset
pub at_first : (width : Width) (a : ℕ) → a < 18446744073709551616 → displaced a (pair_offset width (pos 0)) ≡ a
at_first widths.W a small = omega (arith, small)
at_first widths.X a small = omega (arith, small)

-- A pair at x18 does what a pair does at the address that x18 holds.
pub by_guard : (width : Width) (load : Bool) (rt2 rt a : ℕ) (s s2 : State) → Guarded s2 s a → moves_both rt2 rt ≡ true → length s.registers.x ≡ 31 → a < 18446744073709551616
    → Agree (after (pair_of width load rt2 rt) s2) (pair_at width load rt2 rt s a)
by_guard width load rt2 rt a s s2 h free count small =
    let tests = and_parts (not (is_reserved rt2)) (not (is_reserved rt)) free in
    let u2 = unreserved rt2 (not-true _ tests.0) in
    let u = unreserved rt (not-true _ tests.1) in
    let r2 = s2.registers in
    let address : displaced (x_at r2 18) (pair_offset width (pos 0)) ≡ a = ap (λ x. displaced x (pair_offset width (pos 0))) h.value ∙ at_first width a small in
    let agree : Agree (record { registers = r2; memory = s.memory }) s = record {
      general = λ n below kept. let apart = or_parts _ _ kept in h.general n apart.0 apart.1;
      stack = h.stack;
      flags = h.flags;
      memory = λ place. refl;
    } in
    let same : Agree (pair_at width load rt2 rt (record { registers = r2; memory = s.memory }) a) (pair_at width load rt2 rt s a) =
    pair_agrees width load rt2 rt r2 s.registers s.memory a h.count count (h.general rt u.first_address u.offset) (h.general rt2 u2.first_address u2.offset) agree in
    let here : Agree (pair_at width load rt2 rt (record { registers = r2; memory = s2.memory }) a) (pair_at width load rt2 rt s a) =
    subst (λ m. Agree (pair_at width load rt2 rt (record { registers = r2; memory = m }) a) (pair_at width load rt2 rt s a)) (sym h.memory) same in
    subst (λ x. Agree (pair_at width load rt2 rt s2 x) (pair_at width load rt2 rt s a)) (sym address) here

pub some_pair : (width : Width) → 1 ≤ pair_bytes width
some_pair widths.W = lit≤ tt
some_pair widths.X = lit≤ tt

reached_small : (below : Bool) (bytes b : ℕ) → reached below bytes b < 18446744073709551616
reached_small true bytes b = omega arith
reached_small false bytes b = omega arith

-- The guarded address, of the base alone and of a sum.
pub guarded_at : (rn : ℕ) (below : Bool) (bytes : ℕ) (s : State) → bytes < 4096 → IsWhole s.registers → (slot : ℕ) → x_at s.registers 21 ≡ slot * 4294967296
    → (slot + 1) * 4294967296 ≤ 18446744073709551616 → slot * 4294967296 ≤ reached below bytes (x_or_sp_at s.registers rn)
    → reached below bytes (x_or_sp_at s.registers rn) < (slot + 1) * 4294967296
    → Guarded (after (guard_of 18 (index_of 22 rn bytes)) (after_all (sums 22 rn below bytes) s)) s (reached below bytes (x_or_sp_at s.registers rn))
guarded_at rn below bytes s fits whole slot base room first last =
    let b = x_or_sp_at s.registers rn in
    let a = reached below bytes b in
    elim (cases_Bool (is_bare rn bytes)) [
      | inl bare ↦
          let tests = and_parts (eqb bytes 0) (not (eqb rn 31)) bare in
          let none : sums 22 rn below bytes ≡ [] = rw bare refl in
          let index : index_of 22 rn bytes ≡ rn = rw bare refl in
          let small = whole.fit rn in
          let same : b ≡ x_at s.registers rn = rw (not-true _ tests.1) refl in
          let zero_bytes : bytes ≡ 0 = eqb-true bytes 0 tests.0 in
          let here : a ≡ b = reached_none below bytes b zero_bytes (omega (arith, small, same)) in
          let address : (x_at s.registers 21 + x_at s.registers rn % 4294967296 * 1) % 18446744073709551616 ≡ a =
          bare_in_slot slot (x_at s.registers 21) (x_at s.registers rn) a (here ∙ same) base room first last in
          subst (λ is. Guarded (after (guard_of 18 (index_of 22 rn bytes)) (after_all is s)) s a) (sym none)
          (subst (λ j. Guarded (after (guard_of 18 j) s) s a) (sym index)
          (guarded_after rn a s s (λ n other. refl) refl refl whole.count refl address))
      | inr sum ↦
          let index : index_of 22 rn bytes ≡ 22 = rw sum refl in
          let h = summed rn below bytes s (omega (arith, fits)) whole.count sum in
          let s1 = after_all (sums 22 rn below bytes) s in
          let moves = moved_in_slot below (x_at s.registers 21) b bytes slot (omega (arith, fits)) base room first last in
          let address : (x_at s1.registers 21 + x_at s1.registers 22 % 4294967296 * 1) % 18446744073709551616 ≡ a =
          rw (h.general 21 refl, h.value) moves in
          subst (λ j. Guarded (after (guard_of 18 j) s1) s a) (sym index)
          (guarded_after 22 a s s1 h.general h.stack h.flags h.count h.memory address)
    ]
  where
    bare_in_slot : (slot base x a : ℕ) → a ≡ x → base ≡ slot * 4294967296 → (slot + 1) * 4294967296 ≤ 18446744073709551616 → slot * 4294967296 ≤ a → a < (slot + 1) * 4294967296
        → (base + x % 4294967296 * 1) % 18446744073709551616 ≡ a
    bare_in_slot slot base x a e at room first last = omega (arith, e, at, room, first, last)

pub pair_same : (width : Width) (load : Bool) (imm7 : ℤ) (rt2 rn rt : ℕ) (below : Bool) (bytes : ℕ) (is : List Instruction) → offset_of below bytes ≡ pair_offset width imm7 → bytes < 4096
    → (below ≡ true → 1 ≤ bytes) → moves_both rt2 rt ≡ true → is ≡ paired 22 width load rt2 rt rn below bytes
    → DoesTheSame [] is (instructions.Pair (record { width = width; load = load; mode = modes.Offset; imm7 = imm7; rt2 = rt2; rn = rn; rt = rt }))
pair_same width load imm7 rt2 rn rt below bytes is far fits some free e s whole lies =
    let b = x_or_sp_at s.registers rn in
    let a = reached below bytes b in
    let refused = instructions.Pair (record { width = width; load = load; mode = modes.Offset; imm7 = imm7; rt2 = rt2; rn = rn; rt = rt }) in
    let there : a ≡ displaced b (pair_offset width imm7) = displaced_by below bytes b some ∙ ap (displaced b) far in
    let lie : InSlot s.registers (record { address = a; bytes = pair_bytes width; stores = not load }) =
    subst (λ x. InSlot s.registers (record { address = x; bytes = pair_bytes width; stores = not load })) (sym there) lies in
    let any = some_pair width in
    let guarded = guarded_at rn below bytes s fits whole lie.slot lie.base lie.room lie.first (omega (arith, lie.last, any)) in
    let core : Agree (after (pair_of width load rt2 rt) (after (guard_of 18 (index_of 22 rn bytes)) (after_all (sums 22 rn below bytes) s))) (pair_at width load rt2 rt s a) =
    by_guard width load rt2 rt a s _ guarded free whole.count (reached_small below bytes b) in
    subst (λ l. Agree (after_all l s) (after refused s)) (sym e)
    (subst (λ t. Agree t (after refused s)) (sym (after_more (sums 22 rn below bytes) (guard_of 18 (index_of 22 rn bytes) ∷ pair_of width load rt2 rt ∷ []) s))
    (subst (λ x. Agree (after (pair_of width load rt2 rt) (after (guard_of 18 (index_of 22 rn bytes)) (after_all (sums 22 rn below bytes) s))) (pair_at width load rt2 rt s x)) there core))
  where
    displaced_by : (below : Bool) (bytes b : ℕ) → (below ≡ true → 1 ≤ bytes) → reached below bytes b ≡ displaced b (offset_of below bytes)
    displaced_by true bytes b some = ap (λ d. (b + d) % 18446744073709551616) (omega (arith, some refl))
    displaced_by false bytes b some = refl
