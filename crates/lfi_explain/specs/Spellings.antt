-- A word with the instruction that it spells, what the profile says of it, and its line at its address.
use Rattle.std.specs.Prelude.{◌≡◌, ℕ, ℤ, ◌+◌, ◌*◌, if◌then◌else◌, Bool, true, false, List, ◌++◌, codes, Option, Some, None, IfSome}
use Rattle.a64_word.specs.declared.instruction.Instruction.{Instruction}
use Rattle.a64_word.specs.declared.instruction.Instruction.TheVariants.{BranchRegister}
use Rattle.lfi_module.specs.declared.profile.Profile.{Profile}
use Rattle.lfi_module.specs.declared.profile.Profile.TheVariants.{Two}
use Rattle.a64_word.specs.Profiles.{SpellsIn}
use Rattle.a64_text.specs.Digits.{hexadecimal}
use Rattle.a64_text.specs.Texts.{text}
use Rattle.a64_effects.specs.declared.access.Address.{Address}
use Rattle.a64_effects.specs.Effects.{address_of, target_of}
use Rattle.lfi_module.specs.Numbers.{base_of}
use Rattle.lfi_rules.specs.declared.needs.Need.{Need}
use Rattle.lfi_rules.specs.declared.needs.Need.TheVariants.{Nothing}
use Rattle.lfi_rules.specs.Needs.{opens_of, meets_of}
use Rattle.lfi_rules.specs.Calm.{is_calm}
use Rattle.lfi_rules.specs.Rules.{writes}
use Rattle.lfi_rules.specs.Map.{code_offset}
use Rattle.lfi_rules.specs.Registers.{first_address, second_address, third_address}
use Rattle.lfi_explain.specs.declared.spelling.Spelling.{Spelling}

-- The word, with the instruction of a profile that spells it, if one does; and with that of the second profile.
pub record IsSpelling (profile : Profile) (word : ℕ) (spelling : Spelling) : Type 0 where
  pub same : spelling.word ≡ word
  pub same_profile : spelling.profile ≡ profile
  pub found : IfSome spelling.instruction (λ i. SpellsIn profile i word)
  pub only : (i : Instruction) → SpellsIn profile i word → spelling.instruction ≡ Some i
  pub found_in_second : IfSome spelling.in_second (λ i. SpellsIn Two i word)
  pub only_in_second : (i : Instruction) → SpellsIn Two i word → spelling.in_second ≡ Some i

-- what it asks of the words after it
abbrev pub opened_by : Spelling → Need
opened_by spelling = of spelling.instruction
  where
    of : Option Instruction → Need
    of (Some i) = opens_of spelling.profile i
    of None = Nothing

-- nothing is asked of the next word
abbrev pub is_nothing : Need → Bool
is_nothing = elim [ Nothing ↦ true | _ ↦ false ]

-- the word meets this need; one that nothing spells meets only the need of nothing
abbrev pub is_met_by : Spelling → Need → Bool
is_met_by spelling need = of spelling.instruction
  where
    of : Option Instruction → Bool
    of (Some i) = meets_of i need
    of None = is_nothing need

-- whether it may stand between a move of sp and its probe
abbrev pub is_calm_by : Spelling → Bool
is_calm_by spelling = of spelling.instruction
  where
    of : Option Instruction → Bool
    of (Some i) = is_calm spelling.profile i
    of None = false

-- where it accesses memory
abbrev pub address_by : Spelling → Option Address
address_by spelling = of spelling.instruction
  where
    of : Option Instruction → Option Address
    of (Some i) = address_of i
    of None = None

-- where it branches to
abbrev pub target_by : Spelling → (place : ℕ) → Option ℤ
target_by spelling place = of spelling.instruction
  where
    of : Option Instruction → Option ℤ
    of (Some i) = target_of i place
    of None = None

-- through which register it branches
abbrev pub branch_register_by : Spelling → Option ℕ
branch_register_by spelling = of spelling.instruction
  where
    of : Option Instruction → Option ℕ
    of (Some (BranchRegister i)) = Some i.rn
    of _ = None

-- the first of x18, x23 and x24 that is written
abbrev pub first_written : Instruction → Option ℕ
first_written i =
    if writes i first_address then Some first_address
    else (if writes i second_address then Some second_address else (if writes i third_address then Some third_address else None))

-- the first address register that the word writes
abbrev pub written_address_by : Spelling → Option ℕ
written_address_by spelling = of spelling.instruction
  where
    of : Option Instruction → Option ℕ
    of (Some i) = first_written i
    of None = None

-- the text of a word: its instruction's, or `.inst` with its number
abbrev pub instruction_text : (word : ℕ) → Option Instruction → List ℕ
instruction_text word (Some i) = text i
instruction_text word None = codes ".inst 0x" ++ hexadecimal 8 word

-- the assembly text of a word
abbrev pub spelling_text : Spelling → List ℕ
spelling_text spelling = instruction_text spelling.word spelling.instruction

-- where the word at a place lies. Source: this project's profile, docs/PROFILE.md.
abbrev pub address_at : (slot place : ℕ) → ℕ
address_at slot place = base_of slot + code_offset + 4 * place

-- a word at its address
abbrev pub located_text : (slot place : ℕ) → Spelling → List ℕ
located_text slot place spelling =
    codes "0x" ++ hexadecimal 16 (address_at slot place) ++ codes "  " ++ hexadecimal 8 spelling.word ++ codes "  " ++ spelling_text spelling
