-- Instructions that keep the rules wherever they stand. No rule is stated here: they are those of lfi_rules.
use Rattle.std.specs.Prelude.{◌≡◌, ◌≢◌, ℕ, List, [], ◌∷◌, take}
use Rattle.lfi_mends.specs.declared.mend.Mend.{Mend}
use Rattle.lfi_module.specs.declared.profile.Profile.{Profile}
use Rattle.a64_word.specs.declared.instruction.Instruction.{Instruction}
use Rattle.a64_word.specs.Profiles.{SpellsIn}
use Rattle.lfi_rules.specs.declared.needs.Need.{Need}
use Rattle.lfi_rules.specs.declared.needs.Need.TheVariants.{Nothing}
use Rattle.lfi_rules.specs.Needs.{opens_of}
use Rattle.lfi_rules.specs.declared.rule.Rule.{Rule}
use Rattle.lfi_rules.specs.declared.rule.Rule.TheVariants.{TargetInside}
use Rattle.lfi_rules.specs.Faults.{Allowed, Meets}

-- A word of the profile spells an instruction; the word breaks no rule by itself, wherever it stands in a module of whatever length,
-- but for where a direct branch goes; and it meets a need.
pub record Stands (profile : Profile) (need : Need) (i : Instruction) : Type 0 where
  pub word : ℕ
  pub spells : SpellsIn profile i word
  pub allowed : (k n : ℕ) (rule : Rule) → rule ≢ TargetInside → Allowed profile word k n rule
  pub meets : Meets profile word need

-- Instructions one after another stand so after words that leave the one need open, each meets what the one before it opens, and they leave the other.
abbrev pub Leads : Profile → (before : Need) → List Instruction → (after : Need) → Type 0
Leads profile before [] after = before ≡ after
Leads profile before (i ∷ rest) after = Stands profile before i × Leads profile (opens_of profile i) rest after

-- Instructions keep the rules wherever they stand, after any word that leaves nothing open, and leave nothing open.
abbrev pub KeepsRules : Profile → List Instruction → Type 0
KeepsRules profile is = Leads profile Nothing is Nothing

-- the instructions of a mend
abbrev pub mended : Mend → List Instruction
mended mend = take mend.count mend.instructions
