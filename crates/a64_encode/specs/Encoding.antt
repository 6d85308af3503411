-- What encoding gives. Source: this project's profile, docs/PROFILE.md.
use Rattle.std.specs.Prelude.{ℕ, Option, Some, None}
use Rattle.lfi_module.specs.declared.profile.Profile.{Profile}
use Rattle.a64_word.specs.declared.instruction.Instruction.{Instruction}
use Rattle.a64_word.specs.Profiles.{SpellsIn}

-- What encoding gives in a profile: the word of the instruction, or that it has none there.
abbrev pub EncodesIn : Profile → Instruction → Option ℕ → Type 0
EncodesIn profile i None = (word : ℕ) → SpellsIn profile i word → ⊥
EncodesIn profile i (Some word) = SpellsIn profile i word
