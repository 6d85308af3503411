-- What is told of a mend in C: its words.
use Rattle.std.specs.Prelude.{◌≡◌, ℕ, ◌<◌, List, [], ◌∷◌, ◌++◌, length, drop, Some, Ok, Err}
use Rattle.a64_word.specs.declared.instruction.Instruction.{Instruction}
use Rattle.a64_word.specs.Profiles.{SpellsIn}
use Rattle.a64_word.specs.Words.{words_of}
use Rattle.lfi_module.specs.declared.profile.Profile.{Profile}
use Rattle.lfi_rules.specs.declared.fault.Fault.{Fault}
use Rattle.lfi_mends.specs.declared.mend.Mend.{Mend}
use Rattle.lfi_mends.specs.declared.reason.Reason.{Reason}
use Rattle.lfi_mends.specs.Mends.{mended}
use Rattle.lfi_explain.specs.Mendings.{MendsNear}
use Rattle.lfi_verifier.specs.declared.fault.LfiFault.{LfiFault}
use Rattle.lfi_verifier.specs.Explained.{HasWordAt}
use Rattle.lfi_verifier.specs.Faults.{fault_at}

-- the numbers are those of a fault at a word of this code
pub record IsFaultOf (code : List ℕ) (told : LfiFault) (fault : Fault) : Type 0 where
  pub has : HasWordAt code fault.word
  pub found : fault_at told ≡ Some (Some fault)

-- each of some instructions is spelled by a word
abbrev pub AreSpelled : Profile → List Instruction → Type 0
AreSpelled profile [] = Unit {0}
AreSpelled profile (i ∷ is) = ((word : ℕ) × SpellsIn profile i word) × AreSpelled profile is

-- Words spell instructions, each one of them.
abbrev pub Spell : Profile → List Instruction → (words : List ℕ) → Type 0
Spell profile [] [] = Unit {0}
Spell profile (i ∷ is) (word ∷ words) = SpellsIn profile i word × Spell profile is words
Spell profile is words = ⊥

-- These words spell the mend of a word of this code with a fault, by the words before it and the one after it.
pub record SpellMend (profile : Profile) (code : List ℕ) (found : Fault) (spelling : List ℕ) : Type 0 where
  pub mend : Mend
  pub mends : MendsNear profile found.rule (words_of code) found.word (Ok mend)
  pub spells : Spell profile (mended mend) spelling

-- The numbers begin with the words of its mend, and are otherwise as they were; the count is that of these words.
abbrev pub TellsMend : Profile → (code : List ℕ) → Fault → (old new : List ℕ) → (count : ℕ) → Type 0
TellsMend profile code found old new count =
    (spelling : List ℕ) × SpellMend profile code found spelling × (new ≡ spelling ++ drop (length spelling) old) × (count ≡ length spelling)

-- There is no mend of it, for a reason.
pub record HasNoMend (profile : Profile) (code : List ℕ) (found : Fault) : Type 0 where
  pub reason : Reason
  pub mends : MendsNear profile found.rule (words_of code) found.word (Err reason)

-- There is no room for the words of its mend.
abbrev pub LacksRoom : Profile → (code : List ℕ) → Fault → (room : ℕ) → Type 0
LacksRoom profile code found room = (spelling : List ℕ) × SpellMend profile code found spelling × (room < length spelling)
