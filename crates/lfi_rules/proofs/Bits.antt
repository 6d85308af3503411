-- Words that are told to be calm by a few bits.
use Rattle.std.proofs.Common.{◌≡◌, ◌≢◌, ℕ, ◌+◌, ◌*◌, ◌/◌, ◌^◌, ◌<◌, eqb, List, [], Bool, true, false, None, refl, sym, ap, ◌∙◌, arith, inl, inr, ◌⊎◌}
use Rattle.std.specs.Prelude.{not, is_some, if◌then◌else◌}
use Rattle.std.proofs.lemmas.Bool.{and_from, ne_eqb, eqb-false, false≢true}
use Rattle.std.proofs.lemmas.Nat.{mod_below}
use Rattle.lfi_module.specs.declared.profile.Profile.{Profile}
use Rattle.a64_word.specs.declared.instruction.Instruction.{Instruction}
use Rattle.a64_word.specs.declared.instruction.Instruction.TheVariants as instructions
use Rattle.a64_word.specs.declared.operands.Width.{Width}
use Rattle.a64_word.specs.declared.operands.Width.TheVariants as widths
use Rattle.a64_word.specs.declared.operands.Logical.{Logical}
use Rattle.a64_word.specs.declared.operands.Logical.TheVariants as logical
use Rattle.a64_word.specs.Operands.{bit, logical_code}
use Rattle.a64_word.specs.Encoding.{Spells}
use Rattle.a64_word.specs.inner.Bits.{bits_at}
use Rattle.a64_word.proofs.FieldLaws.{reads-from_IsWordOf}
use Rattle.a64_effects.specs.Uses.{Use, general, or_sp, width_in}
use Rattle.a64_effects.specs.Effects.{writes_of, address_of, ordered_transfer, is_ands, is_store, data_width, changes_base, form_of_mode, form_of_pair_mode}
use Rattle.lfi_rules.specs.declared.needs.Need.TheVariants.{Nothing}
use Rattle.lfi_rules.specs.Needs.{opens_of}
use Rattle.lfi_rules.specs.Rules.{written}
use Rattle.lfi_rules.specs.Calm.{branches, is_breakpoint, is_at_stack, is_nothing, is_calm, IsCalm}
use Rattle.lfi_rules.specs.inner.Quiet.{IsQuietWord}
use Rattle.lfi_rules.specs.inner.Passing.{in_profile}
use Rattle.lfi_rules.proofs.Broken.{quiet_told, opens_in}
use Rattle.lfi_rules.proofs.Fields.{joined}
use Rattle.lfi_rules.proofs.Avoiding.{no_stack}

-- ---- words of branches, and of BRK and NOP, have 5 in their bits 26 to 28
low_three : (w : ℕ) → bits_at w 26 3 < 8
low_three w = mod_below (w / 2 ^ 26) (2 ^ 3) (omega arith)

by_six : (w : ℕ) → bits_at w 26 6 ≡ 53 → bits_at w 26 3 ≡ 5
by_six w e =
    let split : bits_at w 26 6 ≡ bits_at w 29 3 * 2 ^ 3 + bits_at w 26 3 = joined w 26 3 3 in
    let small = low_three w in
    omega arith

by_five : (w : ℕ) (n : ℕ) → bits_at w 26 5 ≡ 8 * n + 5 → bits_at w 26 3 ≡ 5
by_five w n e =
    let split : bits_at w 26 5 ≡ bits_at w 29 2 * 2 ^ 3 + bits_at w 26 3 = joined w 26 2 3 in
    let small = low_three w in
    omega arith

-- the instruction neither branches nor stops
record IsStraight (i : Instruction) : Type 0 where
  pub branches : branches i ≡ false
  pub breakpoint : is_breakpoint i ≡ false

straight : (w : ℕ) (i : Instruction) → Spells i w → bits_at w 26 3 ≢ 5 → IsStraight i
straight w (instructions.Branch i) s other = absurd (other (by_five w 0 (reads-from_IsWordOf _ w s.word_of).1.0))
straight w (instructions.ConditionalBranch i) s other =
    let e : bits_at w 24 8 ≡ 84 = (reads-from_IsWordOf _ w s.word_of).0 in
    let split : bits_at w 24 8 ≡ bits_at w 26 6 * 2 ^ 2 + bits_at w 24 2 = joined w 24 6 2 in
    let low : bits_at w 24 2 < 2 ^ 2 = mod_below (w / 2 ^ 24) (2 ^ 2) (omega arith) in
    let six : bits_at w 26 6 ≡ bits_at w 29 3 * 2 ^ 3 + bits_at w 26 3 = joined w 26 3 3 in
    let small = low_three w in
    absurd (other (omega arith))
straight w (instructions.CompareBranch i) s other =
    let e : bits_at w 25 6 ≡ 26 = (reads-from_IsWordOf _ w s.word_of).1.0 in
    let split : bits_at w 25 6 ≡ bits_at w 26 5 * 2 ^ 1 + bits_at w 25 1 = joined w 25 5 1 in
    let low : bits_at w 25 1 < 2 ^ 1 = mod_below (w / 2 ^ 25) (2 ^ 1) (omega arith) in
    absurd (other (by_five w 1 (omega arith)))
straight w (instructions.TestBranch i) s other =
    let e : bits_at w 25 6 ≡ 27 = (reads-from_IsWordOf _ w s.word_of).1.0 in
    let split : bits_at w 25 6 ≡ bits_at w 26 5 * 2 ^ 1 + bits_at w 25 1 = joined w 25 5 1 in
    let low : bits_at w 25 1 < 2 ^ 1 = mod_below (w / 2 ^ 25) (2 ^ 1) (omega arith) in
    absurd (other (by_five w 1 (omega arith)))
straight w (instructions.BranchRegister i) s other =
    let e : bits_at w 23 9 ≡ 428 = (reads-from_IsWordOf _ w s.word_of).0 in
    let split : bits_at w 23 9 ≡ bits_at w 26 6 * 2 ^ 3 + bits_at w 23 3 = joined w 23 6 3 in
    let low : bits_at w 23 3 < 2 ^ 3 = mod_below (w / 2 ^ 23) (2 ^ 3) (omega arith) in
    absurd (other (by_six w (omega arith)))
straight w (instructions.Breakpoint i) s other =
    let e : bits_at w 21 11 ≡ 1697 = (reads-from_IsWordOf _ w s.word_of).0 in
    let split : bits_at w 21 11 ≡ bits_at w 26 6 * 2 ^ 5 + bits_at w 21 5 = joined w 21 6 5 in
    let low : bits_at w 21 5 < 2 ^ 5 = mod_below (w / 2 ^ 21) (2 ^ 5) (omega arith) in
    absurd (other (by_six w (omega arith)))
straight w i s other = record { branches = refl; breakpoint = refl }

-- ---- words whose low field isn't 31 write sp only as the base of an access; nor do others with bit 29, but ORR of an immediate
pub data IsSpared (w : ℕ) : Type 0 where
  by_register : bits_at w 0 5 ≢ 31 → IsSpared w
  by_flags : bits_at w 29 1 ≡ 1 → bits_at w 23 8 ≢ 100 → IsSpared w

or_sp_free : (r : ℕ) (width : Width) → r ≢ 31 → width_in (or_sp r width []) 31 ≡ None
or_sp_free r width other = rw (ne_eqb r 31 other) refl

sum_free : (w : ℕ) (flags : Bool) (r : ℕ) (width : Width) → IsSpared w → bits_at w 29 1 ≡ bit flags → bits_at w 0 5 ≡ r
    → width_in (if flags then general r width [] else or_sp r width []) 31 ≡ None
sum_free w true r width spared flag at = no_stack r width [] refl
sum_free w false r width (by_register other) flag at = or_sp_free r width (λ e. other (at ∙ e))
sum_free w false r width (by_flags set shape) flag at = let clear : bits_at w 29 1 ≡ 0 = flag in absurd (omega arith)

mask_free : (w : ℕ) (operation : Logical) (r : ℕ) (width : Width) → IsSpared w → bits_at w 29 2 ≡ logical_code operation → bits_at w 23 6 ≡ 36 → bits_at w 0 5 ≡ r
    → width_in (if is_ands operation then general r width [] else or_sp r width []) 31 ≡ None
mask_free w logical.Ands r width spared code group at = no_stack r width [] refl
mask_free w logical.And r width (by_register other) code group at = or_sp_free r width (λ e. other (at ∙ e))
mask_free w logical.Orr r width (by_register other) code group at = or_sp_free r width (λ e. other (at ∙ e))
mask_free w logical.Eor r width (by_register other) code group at = or_sp_free r width (λ e. other (at ∙ e))
mask_free w logical.And r width (by_flags set shape) code group at =
    let two : bits_at w 29 2 ≡ 0 = code in
    let split : bits_at w 29 2 ≡ bits_at w 30 1 * 2 ^ 1 + bits_at w 29 1 = joined w 29 1 1 in
    absurd (omega arith)
mask_free w logical.Orr r width (by_flags set shape) code group at =
    let two : bits_at w 29 2 ≡ 1 = code in
    let split : bits_at w 23 8 ≡ bits_at w 29 2 * 2 ^ 6 + bits_at w 23 6 = joined w 23 2 6 in
    absurd (shape (omega arith))
mask_free w logical.Eor r width (by_flags set shape) code group at =
    let two : bits_at w 29 2 ≡ 2 = code in
    let split : bits_at w 29 2 ≡ bits_at w 30 1 * 2 ^ 1 + bits_at w 29 1 = joined w 29 1 1 in
    absurd (omega arith)

base_free : (changes : Bool) (r : ℕ) → r ≢ 31 → width_in (if changes then or_sp r widths.X [] else []) 31 ≡ None
base_free true r other = or_sp_free r widths.X other
base_free false r other = refl

-- what is loaded, and the base
loaded_free : (store : Bool) (rt : ℕ) (width : Width) (base : List Use) → width_in base 31 ≡ None → width_in (if store then base else general rt width base) 31 ≡ None
loaded_free true rt width base e = e
loaded_free false rt width base e = no_stack rt width base e

pair_free : (load : Bool) (rt rt2 : ℕ) (width : Width) (base : List Use) → width_in base 31 ≡ None → width_in (if load then general rt width (general rt2 width base) else base) 31 ≡ None
pair_free true rt rt2 width base e = no_stack rt width (general rt2 width base) (no_stack rt2 width base e)
pair_free false rt rt2 width base e = e

no_sp : (w : ℕ) (i : Instruction) → Spells i w → IsStraight i → IsSpared w → is_at_stack (address_of i) ≡ false → width_in (writes_of i) 31 ≡ None
no_sp w (instructions.AddSubImmediate i) s h spared away =
    let r = reads-from_IsWordOf _ w s.word_of in
    sum_free w i.set_flags i.rd i.width spared r.1.1.0 r.1.1.1.1.1.1.1.0
no_sp w (instructions.LogicalImmediate i) s h spared away =
    let r = reads-from_IsWordOf _ w s.word_of in
    mask_free w i.operation i.rd i.width spared r.1.0 r.1.1.0 r.1.1.1.1.1.1.1.0
no_sp w (instructions.AddSubExtended i) s h spared away =
    let r = reads-from_IsWordOf _ w s.word_of in
    sum_free w i.set_flags i.rd i.width spared r.1.1.0 r.1.1.1.1.1.1.1.1.0
no_sp w (instructions.MoveWide i) s h spared away = no_stack i.rd i.width [] refl
no_sp w (instructions.PcRelative i) s h spared away = no_stack i.rd widths.X [] refl
no_sp w (instructions.Bitfield i) s h spared away = no_stack i.rd i.width [] refl
no_sp w (instructions.LogicalShifted i) s h spared away = no_stack i.rd i.width [] refl
no_sp w (instructions.AddSubShifted i) s h spared away = no_stack i.rd i.width [] refl
no_sp w (instructions.ConditionalSelect i) s h spared away = no_stack i.rd i.width [] refl
no_sp w (instructions.TwoSource i) s h spared away = no_stack i.rd i.width [] refl
no_sp w (instructions.CountLeadingZeros i) s h spared away = no_stack i.rd i.width [] refl
no_sp w (instructions.MultiplyAdd i) s h spared away = no_stack i.rd i.width [] refl
no_sp w (instructions.MultiplyHigh i) s h spared away = no_stack i.rd widths.X [] refl
no_sp w (instructions.Branch i) s h spared away = absurd (false≢true (sym h.branches))
no_sp w (instructions.BranchRegister i) s h spared away = absurd (false≢true (sym h.branches))
no_sp w (instructions.UnsignedOffset i) s h spared away = loaded_free (is_store i.transfer) i.rt (data_width i.size i.transfer) [] refl
no_sp w (instructions.Ordered i) s h spared away =
    loaded_free (is_store (ordered_transfer i.load)) i.rt (data_width i.size (ordered_transfer i.load)) [] refl
no_sp w (instructions.RegisterOffset i) s h spared away = loaded_free (is_store i.transfer) i.rt (data_width i.size i.transfer) [] refl
no_sp w (instructions.SignedOffset i) s h spared away =
    loaded_free (is_store i.transfer) i.rt (data_width i.size i.transfer) _ (base_free (changes_base (form_of_mode i.mode)) i.rn (eqb-false i.rn 31 away))
no_sp w (instructions.Pair i) s h spared away =
    pair_free i.load i.rt i.rt2 i.width _ (base_free (changes_base (form_of_pair_mode i.mode)) i.rn (eqb-false i.rn 31 away))
no_sp w i s h spared away = refl

-- ---- an access whose base isn't 31 isn't at sp; words of others have bit 27 clear, or bit 25 set
pub data IsAway (w : ℕ) : Type 0 where
  by_base : bits_at w 5 5 ≢ 31 → IsAway w
  by_27 : bits_at w 27 1 ≡ 0 → IsAway w
  by_25 : bits_at w 25 1 ≡ 1 → IsAway w

one_register : (w v rn : ℕ) → IsAway w → bits_at w 24 6 ≡ v → (v ≡ 56) ⊎ (v ≡ 57) → bits_at w 5 5 ≡ rn → eqb rn 31 ≡ false
one_register w v rn (by_base other) e which at = ne_eqb rn 31 (λ same. other (at ∙ same))
one_register w v rn (by_27 zero_bit) e which at =
    let split : bits_at w 24 6 ≡ bits_at w 27 3 * 2 ^ 3 + bits_at w 24 3 = joined w 24 3 3 in
    let low : bits_at w 24 3 < 2 ^ 3 = mod_below (w / 2 ^ 24) (2 ^ 3) (omega arith) in
    let bit : bits_at w 27 3 ≡ bits_at w 28 2 * 2 ^ 1 + bits_at w 27 1 = joined w 27 2 1 in
    elim which [
      | inl a ↦ absurd (omega arith)
      | inr b ↦ absurd (omega arith)
    ]
one_register w v rn (by_25 one_bit) e which at =
    let split : bits_at w 24 6 ≡ bits_at w 25 5 * 2 ^ 1 + bits_at w 24 1 = joined w 24 5 1 in
    let low : bits_at w 24 1 < 2 ^ 1 = mod_below (w / 2 ^ 24) (2 ^ 1) (omega arith) in
    let bit : bits_at w 25 5 ≡ bits_at w 26 4 * 2 ^ 1 + bits_at w 25 1 = joined w 25 4 1 in
    elim which [
      | inl a ↦ absurd (omega arith)
      | inr b ↦ absurd (omega arith)
    ]

two_registers : (w rn : ℕ) → IsAway w → bits_at w 25 6 ≡ 20 → bits_at w 5 5 ≡ rn → eqb rn 31 ≡ false
two_registers w rn (by_base other) e at = ne_eqb rn 31 (λ same. other (at ∙ same))
two_registers w rn (by_27 zero_bit) e at =
    let split : bits_at w 25 6 ≡ bits_at w 27 4 * 2 ^ 2 + bits_at w 25 2 = joined w 25 4 2 in
    let low : bits_at w 25 2 < 2 ^ 2 = mod_below (w / 2 ^ 25) (2 ^ 2) (omega arith) in
    let bit : bits_at w 27 4 ≡ bits_at w 28 3 * 2 ^ 1 + bits_at w 27 1 = joined w 27 3 1 in
    absurd (omega arith)
two_registers w rn (by_25 one_bit) e at =
    let bit : bits_at w 25 6 ≡ bits_at w 26 5 * 2 ^ 1 + bits_at w 25 1 = joined w 25 5 1 in
    absurd (omega arith)

ordered_register : (w rn : ℕ) → IsAway w → bits_at w 23 7 ≡ 17 → bits_at w 5 5 ≡ rn → eqb rn 31 ≡ false
ordered_register w rn (by_base other) e at = ne_eqb rn 31 (λ same. other (at ∙ same))
ordered_register w rn (by_27 zero_bit) e at =
    let split : bits_at w 23 7 ≡ bits_at w 27 3 * 2 ^ 4 + bits_at w 23 4 = joined w 23 3 4 in
    let low : bits_at w 23 4 < 2 ^ 4 = mod_below (w / 2 ^ 23) (2 ^ 4) (omega arith) in
    let bit : bits_at w 27 3 ≡ bits_at w 28 2 * 2 ^ 1 + bits_at w 27 1 = joined w 27 2 1 in
    absurd (omega arith)
ordered_register w rn (by_25 one_bit) e at =
    let split : bits_at w 23 7 ≡ bits_at w 25 5 * 2 ^ 2 + bits_at w 23 2 = joined w 23 5 2 in
    let low : bits_at w 23 2 < 2 ^ 2 = mod_below (w / 2 ^ 23) (2 ^ 2) (omega arith) in
    let bit : bits_at w 25 5 ≡ bits_at w 26 4 * 2 ^ 1 + bits_at w 25 1 = joined w 25 4 1 in
    absurd (omega arith)

off_stack : (w : ℕ) (i : Instruction) → Spells i w → IsAway w → is_at_stack (address_of i) ≡ false
off_stack w (instructions.UnsignedOffset i) s away = let r = reads-from_IsWordOf _ w s.word_of in one_register w 57 i.rn away r.1.0 (inr refl) r.1.1.1.1.0
off_stack w (instructions.SignedOffset i) s away = let r = reads-from_IsWordOf _ w s.word_of in one_register w 56 i.rn away r.1.0 (inl refl) r.1.1.1.1.1.1.0
off_stack w (instructions.RegisterOffset i) s away = let r = reads-from_IsWordOf _ w s.word_of in one_register w 56 i.rn away r.1.0 (inl refl) r.1.1.1.1.1.1.1.1.0
off_stack w (instructions.Pair i) s away = let r = reads-from_IsWordOf _ w s.word_of in two_registers w i.rn away r.1.0 r.1.1.1.1.1.1.0
off_stack w (instructions.Ordered i) s away = let r = reads-from_IsWordOf _ w s.word_of in ordered_register w i.rn away r.1.0 r.1.1.1.1.0
off_stack w i s away = refl

pub calm_by_bits : (p : Profile) (w : ℕ) (i : Instruction) → Spells i w → bits_at w 26 3 ≢ 5 → IsSpared w → IsAway w → opens_of p i ≡ Nothing → is_calm p i ≡ true
unfolding written
calm_by_bits p w i s group spared away opens =
    let h = straight w i s group in
    let off = off_stack w i s away in
    let free : written i 31 ≡ None = no_sp w i s h spared off in
    and_from _ _ (and_from _ _ (and_from _ _ (and_from _ _ (ap not h.branches) (ap not h.breakpoint)) (ap (λ o. not (is_some o)) free)) (ap not off)) (ap is_nothing opens)

-- the word is calm that is quiet by its class
pub calm_of_quiet : (p : Profile) (w k n : ℕ) (q : IsQuietWord w k n Nothing) → ((p : Profile) (i : Instruction) → Spells i w → opens_of p i ≡ Nothing → is_calm p i ≡ true) → IsCalm p w
calm_of_quiet p w k n q calm = let t = quiet_told p w k n Nothing q in record {
  instruction = t.instruction;
  spells = t.spells;
  calm = calm p t.instruction t.spells.spells (opens_in p t.instruction ∙ ap (in_profile p) t.quiet.opens);
}
