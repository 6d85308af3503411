-- Why a module isn't packed. Source: this project's format, docs/PROFILE.md.
use Rattle.std.specs.Prelude.{ℕ, ◌<◌, List, length, Option, IfSome, ⊤, codes}
use Rattle.lfi_pack.specs.declared.fault.PackFault.{PackFault}
use Rattle.lfi_pack.specs.declared.fault.PackFault.TheVariants.{Shorter, Longer, ReadFailed, WriteFailed}

-- what is printed of a fault
abbrev pub fault_text : PackFault → List ℕ
fault_text Shorter = codes "code shorter than told"
fault_text Longer = codes "code longer than told"
fault_text (ReadFailed kind) = codes "read failed"
fault_text (WriteFailed kind) = codes "write failed"

-- The fault of code that is to have this length, where it is known; an I/O error can come at any time.
abbrev pub IsPackFault : Option (List ℕ) → ℕ → PackFault → Type 0
IsPackFault code len Shorter = IfSome code (λ bytes. length bytes < len)
IsPackFault code len Longer = IfSome code (λ bytes. len < length bytes)
IsPackFault code len (ReadFailed kind) = ⊤
IsPackFault code len (WriteFailed kind) = ⊤
