-- The words of an image are words of 32 bits, since each spells an instruction.
use Rattle.std.proofs.Common.{◌≡◌, ℕ, zero, suc, ◌+◌, ◌^◌, ◌<◌, ◌≤◌, List, [], ◌∷◌, length, get_or, None, refl, sym, subst, arith, inl, inr}
use Rattle.std.proofs.Math.Nat.{mul-le-mul_right}
use Rattle.std.proofs.lemmas.Nat.{pow-add}
use Rattle.std.proofs.lemmas.Bool.{cases_lt}
use Rattle.std.proofs.lemmas.Option.{slice_get-get_or}
use Rattle.a64_word.specs.declared.fields.Field.{Field}
use Rattle.a64_word.specs.declared.instruction.Instruction.{Instruction}
use Rattle.a64_word.specs.declared.instruction.Instruction.TheVariants.{AddSubImmediate, LogicalImmediate, MoveWide, PcRelative, Bitfield, LogicalShifted, AddSubShifted, AddSubExtended, ConditionalCompare, ConditionalSelect, TwoSource, CountLeadingZeros, MultiplyAdd, MultiplyHigh, Nop, Breakpoint, Branch, ConditionalBranch, CompareBranch, TestBranch, BranchRegister, UnsignedOffset, SignedOffset, RegisterOffset, Pair, Ordered}
use Rattle.a64_word.specs.Encoding.{fields, Spells}
use Rattle.a64_word.specs.Fields.{total_width, sum_of, AllFit}
use Rattle.lfi_module.specs.declared.profile.Profile.{Profile}
use Rattle.lfi_rules.specs.Faults.{FirstFault}
use Rattle.lfi_rules.proofs.Lawful.{is_spelled}

abbrev pub AreWords : List ℕ → Type 0
AreWords words = (i : ℕ) → get_or words i 0 < 2 ^ 32

total_is : (i : Instruction) → total_width (fields i) ≡ 32
total_is (AddSubImmediate i) = refl
total_is (LogicalImmediate i) = refl
total_is (MoveWide i) = refl
total_is (PcRelative i) = refl
total_is (Bitfield i) = refl
total_is (LogicalShifted i) = refl
total_is (AddSubShifted i) = refl
total_is (AddSubExtended i) = refl
total_is (ConditionalCompare i) = refl
total_is (ConditionalSelect i) = refl
total_is (TwoSource i) = refl
total_is (CountLeadingZeros i) = refl
total_is (MultiplyAdd i) = refl
total_is (MultiplyHigh i) = refl
total_is Nop = refl
total_is (Branch i) = refl
total_is (ConditionalBranch i) = refl
total_is (CompareBranch i) = refl
total_is (TestBranch i) = refl
total_is (BranchRegister i) = refl
total_is (Breakpoint i) = refl
total_is (UnsignedOffset i) = refl
total_is (SignedOffset i) = refl
total_is (RegisterOffset i) = refl
total_is (Pair i) = refl
total_is (Ordered i) = refl

sum_below : (fs : List Field) → AllFit fs → sum_of fs < 2 ^ total_width fs
sum_below [] fit = omega arith
sum_below (f ∷ fs) fit =
    let rest : sum_of fs < 2 ^ total_width fs = sum_below fs fit.1 in
    let step : f.value + 1 ≤ 2 ^ f.width = omega (arith, fit.0) in
    rw (pow-add 2 f.width (total_width fs)) (omega (arith, rest, mul-le-mul_right (2 ^ total_width fs) step))

spelled_small : (i : Instruction) (word : ℕ) → Spells i word → word < 2 ^ 32
spelled_small i word s = subst (λ n. n < 2 ^ 32) (sym s.word_of.sum) (subst (λ n. sum_of (fields i) < 2 ^ n) (total_is i) (sum_below (fields i) s.word_of.in_range))

outside : (xs : List ℕ) (i : ℕ) → length xs ≤ i → get_or xs i 0 ≡ 0
outside [] i past = refl
outside (x ∷ xs) zero past = absurd (omega (arith, past))
outside (x ∷ xs) (suc i) past = outside xs i (omega (arith, past))

pub lawful_small : (profile : Profile) (words : List ℕ) (n : ℕ) → FirstFault profile words n None → AreWords words
lawful_small profile words n none i = elim (cases_lt i (length words)) [
  | inl inside ↦ elim (cases_lt (get_or words i 0) (2 ^ 32)) [
    | inl small ↦ small
    | inr large ↦ absurd (is_spelled profile words n i (get_or words i 0) none (slice_get-get_or words i 0 inside) (λ inst s. let small : get_or words i 0 < 2 ^ 32 = spelled_small inst (get_or words i 0) s.spells in omega (arith, small, large)))
  ]
  | inr past ↦ let e : get_or words i 0 ≡ 0 = outside words i past in omega (arith, e)
]
