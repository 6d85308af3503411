-- What is printed of an outcome, and of a whole run.
use Rattle.std.specs.Prelude.{◌≡◌, All, IsTrue, suc, [], ◌∷◌, List, ℕ, ◌++◌, codes, decimal, Option, Some, None}
use Rattle.lfi_rules.specs.Texts.{fault_text}
use Rattle.lfi_frame.specs.declared.fault.FrameFault.{FrameFault}
use Rattle.lfi_frame.specs.Faults.{number_of}
use Rattle.lfi_model.specs.declared.outcome.Outcome.{Outcome}
use Rattle.lfi_model.specs.declared.outcome.Outcome.TheVariants.{Unused, Complete, Refused, Incomplete, Lost, PageFault, NoMemory}
use Rattle.lfi_model.specs.Outcomes.{is_well}
use Rattle.lfi_model.specs.declared.summary.Summary.{Summary}

-- what became of a module, in words
abbrev pub outcome_text : Outcome → List ℕ
outcome_text Unused = codes "unused"
outcome_text (Complete n) = codes "complete, " ++ decimal n ++ codes " words"
outcome_text (Refused fault) = codes "refused, " ++ fault_text fault
outcome_text (Incomplete pages all) = codes "incomplete, " ++ decimal pages ++ codes " of " ++ decimal all ++ codes " pages"
outcome_text (Lost fault) = codes "lost, fault " ++ decimal (number_of fault)
outcome_text (PageFault index) = codes "page fault, index " ++ decimal index
outcome_text NoMemory = codes "no memory"

-- the line of module m; one that was not claimed has none
abbrev pub module_line : ℕ → Outcome → List ℕ
module_line m Unused = []
module_line m outcome = codes "module " ++ decimal m ++ codes ": " ++ outcome_text outcome ++ codes "\n"

-- the line of connection c; one that came to no fault has none
abbrev pub connection_line : ℕ → Option FrameFault → List ℕ
connection_line c None = []
connection_line c (Some fault) = codes "connection " ++ decimal c ++ codes ": fault " ++ decimal (number_of fault) ++ codes "\n"

-- the lines of the modules, or the connections, from this number on
abbrev pub lines_from : {A : Type 0} → (ℕ → A → List ℕ) → ℕ → List A → List ℕ
lines_from line n [] = []
lines_from line n (first ∷ rest) = line n first ++ lines_from line (suc n) rest

-- The text of a run: a line for each module that was claimed, one for each connection that came to a fault, and the strays.
abbrev pub summary_text : Summary → List ℕ
summary_text summary =
    lines_from module_line 0 summary.outcomes ++ lines_from connection_line 0 summary.faults ++ codes "strays " ++ decimal summary.strays ++ codes "\n"

-- Each module that was claimed is complete, and no connection came to a fault.
pub record IsWell (summary : Summary) : Type 0 where
  pub modules : All (λ outcome. IsTrue (is_well outcome)) summary.outcomes
  pub connections : All (λ fault. fault ≡ None) summary.faults
