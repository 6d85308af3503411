-- What is told of a fault as text.
use Rattle.std.specs.Prelude.{◌≡◌, ℕ, ◌<◌, ◌≤◌, List, ◌++◌, length, take, drop, Some}
use Rattle.a64_word.specs.Words.{words_of}
use Rattle.lfi_module.specs.Numbers.{module_count}
use Rattle.lfi_module.specs.declared.profile.Profile.{Profile}
use Rattle.lfi_check.specs.Checking.{IsCode}
use Rattle.lfi_rules.specs.declared.fault.Fault.{Fault}
use Rattle.lfi_explain.specs.declared.explanation.Explanation.{Explanation}
use Rattle.lfi_explain.specs.Explanations.{ExplainsNear, explanation_text}
use Rattle.lfi_verifier.specs.declared.fault.LfiFault.{LfiFault}
use Rattle.lfi_verifier.specs.Faults.{fault_at}
use Rattle.lfi_verifier.specs.States.{IsWordCount}

-- the bytes are code, and one of its words stands at a place
abbrev pub HasWordAt : (code : List ℕ) → (place : ℕ) → Type 0
HasWordAt code place = IsCode code × (place < length (words_of code))

-- the bytes are the first words of a module of `words` words, or all of them, and one of these stands at a place
abbrev pub BeginsModule : (words : ℕ) → (code : List ℕ) → (place : ℕ) → Type 0
BeginsModule words code place = IsWordCount words × HasWordAt code place × (length (words_of code) ≤ words)

-- the numbers are those of a fault at one of the first words of a module
pub record IsTold (slot words : ℕ) (code : List ℕ) (told : LfiFault) (fault : Fault) : Type 0 where
  pub in_slots : slot < module_count
  pub begins : BeginsModule words code fault.word
  pub found : fault_at told ≡ Some (Some fault)

-- The text begins with the explanation of this fault by a profile, by the words that came of a module, as far as there was room, and is otherwise as it was; the count is
-- that of the whole explanation. Where all words came, it `Explains` the fault as `check --explain` does, since `words` is then how many these are.
pub record TellsFault (profile : Profile) (slot words : ℕ) (code : List ℕ) (found : Fault) (old new : List ℕ) (count : ℕ) : Type 0 where
  pub explanation : Explanation
  pub explains : ExplainsNear (words_of code) found.word (record { slot = slot; words = words; profile = profile; fault = found }) explanation
  pub text : new ≡ take (length old) (explanation_text explanation) ++ drop (length (explanation_text explanation)) old
  pub whole : count ≡ length (explanation_text explanation)
