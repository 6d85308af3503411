-- What `lfiload load --explain` tells of refused modules. Source: this project's profile, docs/COMMANDS.md.
use Rattle.std.specs.Prelude.{◌≡◌, ℕ, ◌<◌, List, [], ◌∷◌, ◌++◌, length, Option, Some, None, codes, decimal}
use Rattle.lfi_sequence.specs.declared.report.ModuleReport.{ModuleReport}
use Rattle.lfi_sequence.specs.declared.refused.RefusedModule.{RefusedModule}
use Rattle.lfi_sequence.specs.Refused.{near_words, AreNear}
use Rattle.lfi_explain.specs.declared.explanation.Explanation.{Explanation}
use Rattle.lfi_explain.specs.declared.explanation.KnownFault.{KnownFault}
use Rattle.lfi_explain.specs.Explanations.{ExplainsNear, explanation_line}

-- what a report knows of a refused module's fault
abbrev pub known_of : RefusedModule → KnownFault
known_of m =
    record { slot = m.slot; words = m.extent.words; profile = m.extent.profile; fault = m.refusal.fault }

-- A refused module's fault is explained by the words near it, in the module's own slot; of any other module nothing is told.
abbrev pub IsRefusal : Option RefusedModule → Option Explanation → Type 0
IsRefusal (Some refused) told = (e : Explanation) × (told ≡ Some e) × ExplainsNear (near_words refused.refusal.near) refused.refusal.near.at (known_of refused) e
IsRefusal None told = told ≡ None

-- Where the words near a refused module's fault are of these, what is told of it is what all these tell.
abbrev pub IsToldByAll : RefusedModule → Option Explanation → Type 0
IsToldByAll refused told = (ws : List ℕ) (e : Explanation) → AreNear ws refused.refusal.fault.word refused.refusal.near → refused.refusal.fault.word < length ws
    → told ≡ Some e → ExplainsNear ws refused.refusal.fault.word (known_of refused) e

-- the lines of a refused module
abbrev pub refusal_lines : Option Explanation → List ℕ
refusal_lines (Some e) = codes "module " ++ decimal e.slot ++ codes ": " ++ explanation_line e
refusal_lines None = []

-- What is told of a module: its refusal's explanation, where it was refused.
abbrev pub TellsOfRefused : ModuleReport → List ℕ → Type 0
TellsOfRefused report text = (told : Option Explanation) × IsRefusal report.refused told × (text ≡ refusal_lines told)

-- the lines of the refused modules, in order
abbrev pub TellRefused : List ModuleReport → List ℕ → Type 0
TellRefused [] text = text ≡ []
TellRefused (report ∷ reports) text = (here rest : List ℕ) × TellsOfRefused report here × TellRefused reports rest × (text ≡ here ++ rest)
