-- A probe isn't calm.
use Rattle.std.proofs.Common.{◌≡◌, ℕ, true, refl}
use Rattle.std.proofs.lemmas.Bool.{and_parts, both_ways, not-true}
use Rattle.lfi_module.specs.declared.profile.Profile.{Profile}
use Rattle.a64_word.specs.declared.instruction.Instruction.{Instruction}
use Rattle.a64_word.specs.declared.instruction.Instruction.TheVariants as instructions
use Rattle.a64_effects.specs.Effects.{address_of}
use Rattle.lfi_rules.specs.declared.needs.Need.{Need}
use Rattle.lfi_rules.specs.declared.needs.Need.TheVariants.{Nothing, Call, Guard, Probe}
use Rattle.lfi_rules.specs.Needs.{probes_stack, waits}
use Rattle.lfi_rules.specs.Calm.{is_at_stack, IsCalm}
use Rattle.lfi_rules.specs.Faults.{Meets, meets_nothing, meets_by}
use Rattle.lfi_rules.specs.inner.Passing.{in_profile}
use Rattle.lfi_rules.proofs.Broken.{calm_tells}

at_stack : (i : Instruction) → probes_stack i ≡ true → is_at_stack (address_of i) ≡ true
at_stack (instructions.UnsignedOffset i) h = (and_parts _ _ h).0
at_stack (instructions.Pair i) h = (and_parts _ _ (and_parts _ _ h).0).1
at_stack (instructions.AddSubImmediate i) h = cc
at_stack (instructions.LogicalImmediate i) h = cc
at_stack (instructions.MoveWide i) h = cc
at_stack (instructions.PcRelative i) h = cc
at_stack (instructions.Bitfield i) h = cc
at_stack (instructions.LogicalShifted i) h = cc
at_stack (instructions.AddSubShifted i) h = cc
at_stack (instructions.AddSubExtended i) h = cc
at_stack (instructions.ConditionalCompare i) h = cc
at_stack (instructions.ConditionalSelect i) h = cc
at_stack (instructions.TwoSource i) h = cc
at_stack (instructions.CountLeadingZeros i) h = cc
at_stack (instructions.MultiplyAdd i) h = cc
at_stack (instructions.MultiplyHigh i) h = cc
at_stack instructions.Nop h = cc
at_stack (instructions.Branch i) h = cc
at_stack (instructions.ConditionalBranch i) h = cc
at_stack (instructions.CompareBranch i) h = cc
at_stack (instructions.TestBranch i) h = cc
at_stack (instructions.BranchRegister i) h = cc
at_stack (instructions.Breakpoint i) h = cc
at_stack (instructions.SignedOffset i) h = cc
at_stack (instructions.Ordered i) h = cc
at_stack (instructions.RegisterOffset i) h = cc

pub probe_not_calm : (p : Profile) (w count : ℕ) → Meets p w (Probe count) → IsCalm p w → ⊥
probe_not_calm p w count (meets_nothing e) calm = cc
probe_not_calm p w count (meets_by i s m) calm =
    let tests = and_parts _ _ (calm_tells p w i s calm) in
    both_ways (is_at_stack (address_of i)) (not-true _ (and_parts _ _ tests.0).1) (at_stack i m)

-- So a calm word that meets a need ends it.
pub calm_misses : (p : Profile) (w : ℕ) (need : Need) → IsCalm p w → Meets p w need → waits need ≡ Nothing
calm_misses p w Nothing calm m = refl
calm_misses p w Call calm m = refl
calm_misses p w Guard calm m = refl
calm_misses p w (Probe count) calm m = absurd (probe_not_calm p w count m calm)

pub in_profile_met : (p : Profile) (w : ℕ) (need : Need) → Meets p w need → Meets p w (in_profile p need)
in_profile_met p w Nothing m = m
in_profile_met p w Call m = m
in_profile_met p w Guard m = m
in_profile_met p w (Probe count) (meets_nothing e) = cc
in_profile_met p w (Probe count) (meets_by i s m) = meets_by i s m
