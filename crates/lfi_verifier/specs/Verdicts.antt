-- How a verdict on code is told in C.
use Rattle.std.specs.Prelude.{◌≡◌, ℕ, List, Some, None}
use Rattle.lfi_module.specs.declared.profile.Profile.{Profile}
use Rattle.lfi_check.specs.Checking.{Checks}
use Rattle.lfi_check.specs.declared.verdict.Verdict.{Verdict}
use Rattle.lfi_check.specs.declared.verdict.Verdict.TheVariants as verdict
use Rattle.lfi_verifier.specs.declared.fault.LfiFault.{LfiFault}
use Rattle.lfi_verifier.specs.declared.status.Status.TheVariants as status
use Rattle.lfi_verifier.specs.Faults.{fault_told}
use Rattle.lfi_verifier.specs.Statuses.{status_number}

-- the status and the fault that tell a verdict
abbrev pub Tells : Verdict → (number : ℕ) → LfiFault → Type 0
Tells (verdict.Lawful words) number told = (number ≡ status_number status.Lawful) × (told ≡ fault_told None)
Tells (verdict.Refused fault) number told = (number ≡ status_number status.Refused) × (told ≡ fault_told (Some fault))
Tells verdict.BadLength number told = (number ≡ status_number status.BadLength) × (told ≡ fault_told None)

-- They tell the verdict on these bytes by a profile: the one that `lfiload check` prints.
pub record TellsVerdict (profile : Profile) (bytes : List ℕ) (number : ℕ) (told : LfiFault) : Type 0 where
  pub verdict : Verdict
  pub checks : Checks profile bytes verdict
  pub tells : Tells verdict number told
