-- The state in which all registers hold where slot 0 begins, and the access there.
use Rattle.std.proofs.Common.{◌≡◌, ℕ, true, false, zero, suc, ◌^◌, ◌<◌, replicate, slice_index, refl, lit≤}
use Rattle.a64_word.specs.declared.operands.Transfer.{Transfer}
use Rattle.a64_word.specs.declared.operands.Transfer.TheVariants.{Load}
use Rattle.a64_semantics.specs.Accesses.{touches}
use Rattle.lfi_rules.specs.declared.rule.Rule.TheVariants as rules
use Rattle.lfi_rules.specs.Rules.{writes, written, keeps}
use Rattle.lfi_mends.specs.Outcomes.{IsWhole, LiesInSlot}
use Rattle.lfi_mends.specs.Edges.{at_the_base, moves_at_x1, adds_one}

fits : (count n : ℕ) → slice_index (replicate count (2 ^ 32)) n < 2 ^ 64
fits zero n = lit≤ tt
fits (suc count) zero = lit≤ tt
fits (suc count) (suc n) = fits count n

pub whole : IsWhole at_the_base.registers
whole = record { count = refl; fit = fits 31; stack = lit≤ tt }

pub lies : (transfer : Transfer) (rt : ℕ) → LiesInSlot at_the_base.registers (touches (moves_at_x1 transfer rt) at_the_base.registers)
lies transfer rt = record { slot = 1; base = refl; room = lit≤ tt; first = lit≤ tt; last = lit≤ tt }

pub loads_0 : writes (moves_at_x1 Load 0) 0 ≡ true
unfolding written
loads_0 = refl

pub loads_18 : writes (moves_at_x1 Load 18) 18 ≡ true
unfolding written
loads_18 = refl

pub loads_22 : writes (moves_at_x1 Load 22) 22 ≡ true
unfolding written
loads_22 = refl

pub loads_23 : writes (moves_at_x1 Load 23) 23 ≡ true
unfolding written
loads_23 = refl

pub loads_24 : writes (moves_at_x1 Load 24) 24 ≡ true
unfolding written
loads_24 = refl

pub loads_30 : writes (moves_at_x1 Load 30) 30 ≡ true
unfolding written
loads_30 = refl

pub keeps_15 : writes (moves_at_x1 Load 0) 15 ≡ false
unfolding written
keeps_15 = refl

pub keeps_30 : writes (moves_at_x1 Load 0) 30 ≡ false
unfolding written
keeps_30 = refl

pub breaks_base : keeps (adds_one 21 21) 0 1 rules.BaseKept ≡ false
unfolding written
breaks_base = refl

pub breaks_address : keeps (adds_one 18 18) 0 1 rules.AddressGuarded ≡ false
unfolding written
breaks_address = refl

pub breaks_link : keeps (adds_one 30 30) 0 1 rules.LinkGuarded ≡ false
unfolding written
breaks_link = refl

pub breaks_offset : keeps (adds_one 22 22) 0 1 rules.OffsetNarrow ≡ false
unfolding written
breaks_offset = refl

pub breaks_stack : keeps (adds_one 0 31) 0 1 rules.StackBounded ≡ false
unfolding written
breaks_stack = refl
