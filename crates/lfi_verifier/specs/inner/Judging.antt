-- How the verdicts of a stream go on.
use Rattle.std.specs.Prelude.{◌≡◌, ◌≢◌, ℕ, ◌%◌, Bool, true, List, [], ◌++◌, length, Option, Some, None}
use Rattle.lfi_module.specs.declared.profile.Profile.{Profile}
use Rattle.lfi_rules.specs.declared.fault.Fault.{Fault}
use Rattle.lfi_check.specs.declared.cut.CutBeginning.{CutBeginning}
use Rattle.lfi_model.specs.declared.item.Reason.{Reason}
use Rattle.lfi_model.specs.declared.item.Reason.TheVariants.{Close}
use Rattle.lfi_verifier.specs.declared.finding.Finding.{Finding}
use Rattle.lfi_verifier.specs.declared.status.Status.TheVariants.{Lawful, Refused, Incomplete}
use Rattle.lfi_verifier.specs.declared.verdicts.LfiStreamVerdicts.{LfiStreamVerdicts}
use Rattle.lfi_verifier.specs.CutStates.{IsCutOf, StandsForCut}
use Rattle.lfi_verifier.specs.States.{StandsFor}
use Rattle.lfi_verifier.specs.StreamVerdicts.{state_at, FindsSoFar}

-- what is told of a module without a fault that has ended for a reason, where all its words came or didn't
abbrev pub finding_of_end : Reason → (all : Bool) → Finding
finding_of_end Close true = record { status = Lawful; fault = None }
finding_of_end reason all = record { status = Incomplete; fault = None }

abbrev pub finding_by : Option Fault → Reason → (all : Bool) → Finding
finding_by (Some fault) reason all = record { status = Refused; fault = Some fault }
finding_by None reason all = finding_of_end reason all

-- The whole pages of module m are judged, and where some bytes of its next page came, these after them.
pub record IsJudgedTo (verdicts : LfiStreamVerdicts) (m : ℕ) (profile : Profile) (words : ℕ) (whole came : List ℕ) : Type 0 where
  pub pages : StandsFor (state_at verdicts.modules m) profile words whole
  pub coming : came ≢ [] → StandsForCut verdicts.coming profile words (whole ++ came)

-- a cut beginning is one of which these bytes came
abbrev pub IsFound : Option CutBeginning → Profile → (words : ℕ) → (bytes : List ℕ) → Type 0
IsFound None profile words bytes = ⊥
IsFound (Some cut) profile words bytes = IsCutOf cut profile words bytes

-- All bytes of module m are judged that came; where they ended a page, as whole pages too.
pub record GoesOn (verdicts : LfiStreamVerdicts) (m : ℕ) (ended : Bool) (profile : Profile) (words : ℕ) (bytes : List ℕ) (finding : Finding) : Type 0 where
  pub coming : StandsForCut verdicts.coming profile words bytes
  pub finds : FindsSoFar profile words bytes finding
  pub pages : ended ≡ true → length bytes % 4 ≡ 0 → StandsFor (state_at verdicts.modules m) profile words bytes
