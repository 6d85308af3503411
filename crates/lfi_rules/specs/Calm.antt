-- The words that may stand between an instruction that moves sp and its probe. Source: this project's profiles,
-- docs/PROFILE.md.
use Rattle.std.specs.Prelude.{◌≡◌, ℕ, ◌==◌, ◌&&◌, not, Bool, true, false, Option, Some, None, is_some}
use Rattle.lfi_module.specs.declared.profile.Profile.{Profile}
use Rattle.a64_word.specs.declared.instruction.Instruction.{Instruction}
use Rattle.a64_word.specs.declared.instruction.Instruction.TheVariants as instructions
use Rattle.a64_effects.specs.declared.access.Address.{Address}
use Rattle.a64_effects.specs.Effects.{target_of, address_of}
use Rattle.lfi_rules.specs.declared.needs.Need.{Need}
use Rattle.lfi_rules.specs.declared.needs.Need.TheVariants as needs
use Rattle.lfi_rules.specs.Registers as registers
use Rattle.a64_word.specs.Profiles.{SpellsIn}
use Rattle.lfi_rules.specs.Needs.{opens_of}
use Rattle.lfi_rules.specs.Rules.{writes}

-- a branch of any kind
abbrev pub branches : Instruction → Bool
branches (instructions.BranchRegister i) = true
branches i = is_some (target_of i 0)

-- it is BRK
abbrev pub is_breakpoint : Instruction → Bool
is_breakpoint = elim [ instructions.Breakpoint i ↦ true | _ ↦ false ]

-- an access with base sp
abbrev pub is_at_stack : Option Address → Bool
is_at_stack = elim [ Some address ↦ address.base == registers.stack | None ↦ false ]

-- nothing is asked of the next word
abbrev pub is_nothing : Need → Bool
is_nothing = elim [ needs.Nothing ↦ true | _ ↦ false ]

-- An instruction is calm: it is no branch and no BRK, doesn't write sp, accesses nothing with base sp, and opens nothing.
abbrev pub is_calm : Profile → Instruction → Bool
is_calm profile i =
    not (branches i) && not (is_breakpoint i) && not (writes i registers.stack) && not (is_at_stack (address_of i)) && is_nothing (opens_of profile i)

-- A word is calm: it is an instruction that is.
pub record IsCalm (profile : Profile) (word : ℕ) : Type 0 where
  pub instruction : Instruction
  pub spells : SpellsIn profile instruction word
  pub calm : is_calm profile instruction ≡ true
