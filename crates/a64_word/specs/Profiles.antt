-- Which instructions a profile has, and which words spell them. Source: this project's profile, docs/PROFILE.md.
use Rattle.std.specs.Prelude.{◌≡◌, ℕ, Bool, true}
use Rattle.lfi_module.specs.declared.profile.Profile.{Profile}
use Rattle.lfi_module.specs.Profiles.{is_two}
use Rattle.a64_word.specs.declared.instruction.Instruction.{Instruction}
use Rattle.a64_word.specs.declared.instruction.Instruction.TheVariants.{Ordered}
use Rattle.a64_word.specs.Encoding.{Spells}

-- whether a profile has an instruction: the second has all, the first all but LDAR, STLR and those like them
abbrev pub is_of : Profile → Instruction → Bool
is_of profile (Ordered i) = is_two profile
is_of profile _ = true

-- Instruction i is one of the profile, and is spelled by this word.
pub record SpellsIn (profile : Profile) (i : Instruction) (word : ℕ) : Type 0 where
  pub spells : Spells i word
  pub of_profile : is_of profile i ≡ true
