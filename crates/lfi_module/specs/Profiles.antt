-- The profiles by their numbers, as image files and command lines name them. Source: this project's profile, docs/PROFILE.md.
use Rattle.std.specs.Prelude.{ℕ, Bool, true, false}
use Rattle.lfi_module.specs.declared.profile.Profile.{Profile}
use Rattle.lfi_module.specs.declared.profile.Profile.TheVariants.{One, Two}

-- the number of a profile
abbrev pub profile_number : Profile → ℕ
profile_number = elim [ One ↦ 1 | Two ↦ 2 ]

-- whether it is the second profile
abbrev pub is_two : Profile → Bool
is_two = elim [ One ↦ false | Two ↦ true ]
