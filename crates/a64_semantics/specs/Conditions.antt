-- When a condition holds: the Arm manual's C1.2.4.
use Rattle.std.specs.Prelude.{Bool, true, false, not, ◌&&◌, ◌||◌}
use Rattle.a64_word.specs.declared.operands.Condition.{Condition}
use Rattle.a64_word.specs.declared.operands.Condition.TheVariants as condition
use Rattle.a64_semantics.specs.declared.flags.Flags.{Flags}

-- both or neither
abbrev pub is_same : Bool → Bool → Bool
is_same = elim [ true ↦ λ b. b | false ↦ not ]

-- a condition holds of these flags
abbrev pub holds : Condition → Flags → Bool
holds condition.Eq f = f.zero
holds condition.Ne f = not f.zero
holds condition.Cs f = f.carry
holds condition.Cc f = not f.carry
holds condition.Mi f = f.negative
holds condition.Pl f = not f.negative
holds condition.Vs f = f.overflow
holds condition.Vc f = not f.overflow
holds condition.Hi f = f.carry && not f.zero
holds condition.Ls f = not f.carry || f.zero
holds condition.Ge f = is_same f.negative f.overflow
holds condition.Lt f = not (is_same f.negative f.overflow)
holds condition.Gt f = not f.zero && is_same f.negative f.overflow
holds condition.Le f = f.zero || not (is_same f.negative f.overflow)
holds condition.Al f = true
holds condition.Nv f = true
