-- What is told of a word without decoding it.
use Rattle.std.specs.Prelude.{◌≡◌, ℕ, ◌==◌, true, false}
use Rattle.a64_word.specs.declared.instruction.Instruction.{Instruction}
use Rattle.a64_word.specs.Encoding.{Spells}
use Rattle.a64_word.specs.Profiles.{is_of, SpellsIn}
use Rattle.lfi_module.specs.declared.profile.Profile.{Profile}
use Rattle.lfi_rules.specs.declared.needs.Need.{Need}
use Rattle.lfi_rules.specs.declared.rule.Rule.TheVariants as rules
use Rattle.lfi_rules.specs.Registers as registers
use Rattle.lfi_module.specs.declared.profile.Profile.TheVariants.{One}
use Rattle.lfi_rules.specs.Needs.{opens_of, meets_of}
use Rattle.lfi_rules.specs.Rules.{keeps}

-- none of the registers that the profile reserves, where number 31 is zr
pub record IsUnreserved (register : ℕ) : Type 0 where
  pub first_address : (register == registers.first_address) ≡ false
  pub base : (register == registers.base) ≡ false
  pub offset : (register == registers.offset) ≡ false
  pub second_address : (register == registers.second_address) ≡ false
  pub third_address : (register == registers.third_address) ≡ false
  pub link : (register == registers.link) ≡ false

-- none of the registers that the profile reserves, where number 31 is sp
pub record IsFree (register : ℕ) : Type 0 where
  pub unreserved : IsUnreserved register
  pub stack : (register == registers.stack) ≡ false

-- An instruction keeps all rules but those that need the word or a second one, and opens this need in the first profile.
pub record IsQuiet (i : Instruction) (k n : ℕ) (need : Need) : Type 0 where
  pub confined : keeps i k n rules.AccessConfined ≡ true
  pub base : keeps i k n rules.BaseKept ≡ true
  pub address : keeps i k n rules.AddressGuarded ≡ true
  pub link : keeps i k n rules.LinkGuarded ≡ true
  pub offset : keeps i k n rules.OffsetNarrow ≡ true
  pub stack : keeps i k n rules.StackBounded ≡ true
  pub target : keeps i k n rules.TargetInside ≡ true
  pub branch : keeps i k n rules.BranchBounded ≡ true
  pub opens : opens_of One i ≡ need

-- A word is an instruction of a profile that does so.
pub record IsToldWord (profile : Profile) (word k n : ℕ) (need : Need) : Type 0 where
  pub instruction : Instruction
  pub spells : SpellsIn profile instruction word
  pub quiet : IsQuiet instruction k n need

-- A word is an instruction of every profile that does so.
pub record IsQuietWord (word k n : ℕ) (need : Need) : Type 0 where
  pub instruction : Instruction
  pub of_one : is_of One instruction ≡ true
  pub spells : Spells instruction word
  pub quiet : IsQuiet instruction k n need

-- A word is an instruction of every profile that meets this need.
pub record IsMet (word : ℕ) (need : Need) : Type 0 where
  pub instruction : Instruction
  pub of_one : is_of One instruction ≡ true
  pub spells : Spells instruction word
  pub met : meets_of instruction need ≡ true
