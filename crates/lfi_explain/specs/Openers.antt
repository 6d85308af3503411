-- The word that opens the need that a word has to meet.
use Rattle.std.specs.Prelude.{◌≡◌, ℕ, ◌+◌, nat_lt, if◌then◌else◌, List, Option, Some, None, slice_get}
use Rattle.lfi_module.specs.declared.profile.Profile.{Profile}
use Rattle.lfi_rules.specs.declared.needs.Need.{Need}
use Rattle.lfi_rules.specs.declared.needs.Need.TheVariants.{Nothing}
use Rattle.lfi_rules.specs.Needs.{term_of}
use Rattle.lfi_rules.specs.Faults.{IsDue, IsOpenAt}
use Rattle.lfi_explain.specs.declared.opener.Opener.{Opener}
use Rattle.lfi_explain.specs.Spellings.{IsSpelling, opened_by}

-- what a word asks of one behind the calm words after it: nothing, where that comes too late
abbrev pub asked_by : Opener → Need
asked_by opener = if nat_lt opener.gone (term_of (opened_by opener.spelling)) then opened_by opener.spelling else Nothing

-- what it asks, if there is such a word
abbrev pub asked_if : Option Opener → Need
asked_if (Some opener) = asked_by opener
asked_if None = Nothing

-- The word at a place before place k opens a need that is due at place k.
pub record IsOpener (profile : Profile) (ws : List ℕ) (k : ℕ) (opener : Opener) : Type 0 where
  pub place : ℕ
  pub before : k ≡ place + opener.gone + 1
  pub word : ℕ
  pub at : slice_get ws place ≡ Some word
  pub spelling : IsSpelling profile word opener.spelling
  pub due : IsDue profile ws place opener.gone (opened_by opener.spelling)

-- the word that opens what is open at place k of ws; nothing is open there, where there is none
abbrev pub IsOpenerIf : Profile → List ℕ → (k : ℕ) → Option Opener → Type 0
IsOpenerIf profile ws k None = IsOpenAt profile ws k Nothing
IsOpenerIf profile ws k (Some opener) = IsOpener profile ws k opener
