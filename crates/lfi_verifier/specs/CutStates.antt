-- What a state that may be cut within a word stands for.
use Rattle.std.specs.Prelude.{◌≡◌, ℕ, ◌≤◌, ◌==◌, if◌then◌else◌, List, slice_index, Option, Some, None}
use Rattle.lfi_module.specs.declared.profile.Profile.{Profile}
use Rattle.lfi_check.specs.declared.cut.CutWord.{CutWord}
use Rattle.lfi_check.specs.declared.cut.CutWord.TheVariants.{Nothing, One, Two, Three}
use Rattle.lfi_check.specs.declared.cut.CutBeginning.{CutBeginning}
use Rattle.lfi_check.specs.Cuts.{BeginsCut}
use Rattle.lfi_verifier.specs.declared.cut_state.LfiCutState.{LfiCutState}
use Rattle.lfi_verifier.specs.States.{Keeps, IsInRange}

-- the cut word that the first `count` of these bytes are
abbrev pub word_at : (count : ℕ) (held : List ℕ) → Option CutWord
word_at count held =
    if count == 0 then Some Nothing else (if count == 1 then Some (One (slice_index held 0))
    else (if count == 2 then Some (Two (slice_index held 0) (slice_index held 1))
    else (if count == 3 then Some (Three (slice_index held 0) (slice_index held 1) (slice_index held 2)) else None)))

-- The state's numbers are those of a module of which a beginning came that may be cut.
pub record KeepsCut (state : LfiCutState) (cut : CutBeginning) : Type 0 where
  pub whole : Keeps state.whole cut.whole
  pub word : word_at state.count state.held ≡ Some cut.word

-- The state's numbers are some that such a module can have.
pub record IsCutState (state : LfiCutState) : Type 0 where
  pub cut : CutBeginning
  pub keeps : KeepsCut state cut
  pub in_range : IsInRange cut.whole

-- These bytes came of a module of `words` words that is judged by a profile.
pub record IsCutOf (cut : CutBeginning) (profile : Profile) (words : ℕ) (bytes : List ℕ) : Type 0 where
  pub judged_by : cut.whole.profile ≡ profile
  pub count : cut.whole.words ≡ words
  pub some : 1 ≤ words
  pub begins : BeginsCut cut bytes

-- The state is one of a module of `words` words that is judged by a profile, of which these bytes came, cut anywhere.
pub record StandsForCut (state : LfiCutState) (profile : Profile) (words : ℕ) (bytes : List ℕ) : Type 0 where
  pub cut : CutBeginning
  pub keeps : KeepsCut state cut
  pub is : IsCutOf cut profile words bytes
