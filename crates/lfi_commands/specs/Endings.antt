-- How a load ends, by what it found. Source: this project's profile, docs/COMMANDS.md.
use Rattle.std.specs.Prelude.{◌≡◌, ℕ, Bool, true, false, List, Option, Some, slice_get}
use Rattle.lfi_frame.specs.declared.fault.FrameFault.{FrameFault}
use Rattle.lfi_frame.specs.declared.fault.FrameFault.TheVariants.{ReadFailed}
use Rattle.lfi_model.specs.Texts.{IsWell}
use Rattle.lfi_stage.specs.declared.settlement.Report.{Report}
use Rattle.lfi_stage.specs.Summaries.{summary_of}
use Rattle.lfi_file_commands.specs.declared.ending.Ending.{Ending}
use Rattle.lfi_file_commands.specs.declared.ending.Ending.TheVariants.{Well, NotWell, WrongWords, Failed}

-- a read of some connection failed
abbrev pub IsReadFailed : List (Option FrameFault) → Type 0
IsReadFailed faults = (c : ℕ) × (slice_get faults c ≡ Some (Some ReadFailed))

-- by a report
abbrev pub EndsBy : Report → Ending → Type 0
EndsBy report Well = IsWell (summary_of report)
EndsBy report NotWell = (¬ (IsWell (summary_of report))) × (¬ (IsReadFailed report.faults))
EndsBy report WrongWords = ⊥
EndsBy report Failed = IsReadFailed report.faults

-- by a load: by its report, where all connections were taken and all images that were asked for were put
abbrev pub EndsLoad : Report → (all_taken all_put : Bool) → Ending → Type 0
EndsLoad report true true ending = EndsBy report ending
EndsLoad report true false ending = ending ≡ Failed
EndsLoad report false all_put ending = ending ≡ Failed
