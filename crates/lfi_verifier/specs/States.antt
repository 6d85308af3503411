-- What a state that a C caller keeps between calls stands for.
use Rattle.std.specs.Prelude.{◌≡◌, ℕ, ◌+◌, ◌*◌, ◌%◌, ◌≤◌, ◌-◌, nat_lt, ◌==◌, if◌then◌else◌, List, length, Option, Some, None}
use Rattle.lfi_module.specs.Numbers.{most_words}
use Rattle.lfi_module.specs.Profiles.{profile_number}
use Rattle.lfi_module.specs.declared.profile.Profile.{Profile}
use Rattle.a64_word.specs.Words.{words_of}
use Rattle.lfi_rules.specs.Faults.{FirstFault}
use Rattle.lfi_rules.specs.declared.fault.Fault.{Fault}
use Rattle.lfi_rules.specs.declared.needs.Need.{Need}
use Rattle.lfi_rules.specs.declared.needs.Need.TheVariants.{Nothing, Call, Guard, Probe}
use Rattle.lfi_check.specs.Begun.{Begins}
use Rattle.lfi_check.specs.declared.beginning.Beginning.{Beginning}
use Rattle.lfi_verifier.specs.declared.fault.LfiFault.{LfiFault}
use Rattle.lfi_verifier.specs.declared.state.LfiState.{LfiState}
use Rattle.lfi_verifier.specs.declared.status.Status.{Status}
use Rattle.lfi_verifier.specs.declared.status.Status.TheVariants.{Lawful, Refused, Incomplete}
use Rattle.lfi_verifier.specs.Faults.{fault_at, fault_told}
use Rattle.lfi_verifier.specs.Statuses.{status_number}

-- a number of words that a module can have
abbrev pub IsWordCount : ℕ → Type 0
IsWordCount words = (1 ≤ words) × (words ≤ most_words)

-- a need by its number in a state: a probe that is due within n words has the number n + 3
abbrev pub need_at : ℕ → Option Need
need_at k = if k == 0 then Some Nothing else (if k == 1 then Some Call else (if k == 2 then Some Guard else (if nat_lt k 259 then Some (Probe (k - 3)) else None)))

-- The state's numbers are those of a module of which a beginning has been judged.
pub record Keeps (state : LfiState) (beginning : Beginning) : Type 0 where
  pub profile : state.profile ≡ profile_number beginning.profile
  pub words : state.words ≡ beginning.words
  pub judged : state.judged ≡ beginning.judged
  pub fault : fault_at state.fault ≡ Some beginning.fault
  pub need : need_at state.need ≡ Some beginning.tail

-- no more words have been judged than a module has
abbrev pub IsInRange : Beginning → Type 0
IsInRange beginning = IsWordCount beginning.words × (beginning.judged ≤ beginning.words)

-- The state's numbers are some that a module of which a beginning was judged can have.
pub record IsState (state : LfiState) : Type 0 where
  pub beginning : Beginning
  pub keeps : Keeps state beginning
  pub in_range : IsInRange beginning

-- The state is one of a module of `words` words that is judged by a profile, of which these bytes came, and it holds their first
-- fault.
pub record StandsFor (state : LfiState) (profile : Profile) (words : ℕ) (bytes : List ℕ) : Type 0 where
  pub beginning : Beginning
  pub keeps : Keeps state beginning
  pub judged_by : beginning.profile ≡ profile
  pub count : beginning.words ≡ words
  pub some : 1 ≤ words
  pub begins : Begins beginning bytes

-- a piece of whole words, no more than are to come of a module of `words` words of which these bytes came
abbrev pub Fits : (words : ℕ) → (bytes piece : List ℕ) → Type 0
Fits words bytes piece = (length piece % 4 ≡ 0) × (length bytes + length piece ≤ 4 * words)

-- the same of a beginning
abbrev pub HasRoom : Beginning → (piece : List ℕ) → Type 0
HasRoom beginning piece = (length piece % 4 ≡ 0) × (4 * beginning.judged + length piece ≤ 4 * beginning.words)

-- the status of a piece that was taken, by the first fault so far
abbrev pub status_after : Option Fault → Status
status_after (Some fault) = Refused
status_after None = Lawful

-- The status tells whether these bytes, the first of a module of `words` words, have a fault by a profile.
pub record TellsSoFar (profile : Profile) (words : ℕ) (bytes : List ℕ) (number : ℕ) : Type 0 where
  pub fault : Option Fault
  pub first : FirstFault profile (words_of bytes) words fault
  pub told : number ≡ status_number (status_after fault)

-- the status of a module of which words are still to come, by the first fault so far
abbrev pub status_within : Option Fault → Status
status_within (Some fault) = Refused
status_within None = Incomplete

-- Status and fault tell the first fault by a profile of these bytes, the first of a module of `words` words, or that there is none and words are missing.
pub record TellsPart (profile : Profile) (words : ℕ) (bytes : List ℕ) (number : ℕ) (told : LfiFault) : Type 0 where
  pub fault : Option Fault
  pub first : FirstFault profile (words_of bytes) words fault
  pub status : number ≡ status_number (status_within fault)
  pub tells : told ≡ fault_told fault
