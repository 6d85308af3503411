-- What is told of reads that failed, and by `lfiload serve` of the clients of connections, and how it ends by them. Source: this project's profile, docs/COMMANDS.md.
use Rattle.std.specs.Prelude.{◌≡◌, ℕ, Bool, true, false, List, [], ◌++◌, Option, Some, None, codes, decimal, get_or, nat_eq}
use Rattle.std.specs.List.{count_by}
use Rattle.lfi_model.specs.Texts.{lines_from}
use Rattle.lfi_sync.specs.declared.fate.Absence.{Absence}
use Rattle.lfi_sync.specs.declared.fate.Absence.TheVariants.{NotCome, NotTaken}
use Rattle.lfi_sync.specs.declared.fate.ClientFate.{ClientFate}
use Rattle.lfi_sync.specs.declared.fate.ClientFate.TheVariants.{Heard, CutOff, Absent}
use Rattle.lfi_sync.specs.Fates.{is_absent, is_cut_off}
use Rattle.lfi_file_commands.specs.declared.device_cause.DeviceCause.{DeviceCause}
use Rattle.std.specs.declared.io.ErrorKind.{ErrorKind}
use Rattle.lfi_frame.specs.declared.fault.FrameFault.{FrameFault}
use Rattle.lfi_frame.specs.declared.fault.FrameFault.TheVariants.{ReadFailed}
use Rattle.lfi_file_commands.specs.declared.device_cause.DeviceCause.TheVariants.{Other}
use Rattle.lfi_file_commands.specs.declared.ending.Ending.{Ending}
use Rattle.lfi_file_commands.specs.declared.ending.Ending.TheVariants.{Well, NotWell}
use Rattle.lfi_file_commands.specs.Causes.{cause_line, cause_of}
use Rattle.lfi_file_commands.specs.Endings.{EndsUnlessLost}

-- the line of connection c, which can't be read, for this cause
abbrev pub unread_line : ℕ → DeviceCause → List ℕ
unread_line c cause = codes "lfiload: connection " ++ decimal c ++ codes ": cannot read" ++ cause_line cause ++ codes "\n"

-- the cause by an error's kind, where it was told
abbrev pub cause_told : Option ErrorKind → DeviceCause
cause_told None = Other
cause_told (Some kind) = cause_of kind

-- the line of connection c, where a read of it failed, with an error of this kind
abbrev pub read_line : ℕ → Option FrameFault → Option ErrorKind → List ℕ
read_line c (Some ReadFailed) kind = unread_line c (cause_told kind)
read_line c fault kind = []

-- those of all connections with these faults, by their numbers
abbrev pub read_lines : List (Option FrameFault) → (kinds : List (Option ErrorKind)) → List ℕ
read_lines faults kinds = lines_from (λ c fault. read_line c fault (get_or kinds c None)) 0 faults

-- the line of connection c, which had not come when the time was over
abbrev pub not_come_line : ℕ → List ℕ
not_come_line c = codes "lfiload: time is over: connection " ++ decimal c ++ codes " had not come\n"

-- the line of connection c, which had not ended when the time was over
abbrev pub cut_off_line : ℕ → List ℕ
cut_off_line c = codes "lfiload: time is over: connection " ++ decimal c ++ codes " had not ended\n"

-- the line of connection c, which has no client, for this
abbrev pub absent_line : ℕ → Absence → List ℕ
absent_line c NotCome = not_come_line c
absent_line c (NotTaken kind) = unread_line c (cause_of kind)

-- the line of connection c, by what became of its client; of one that was heard there is none
abbrev pub fate_line : ℕ → ClientFate → List ℕ
fate_line c Heard = []
fate_line c CutOff = cut_off_line c
fate_line c (Absent why) = absent_line c why

-- those of all connections, by their numbers
abbrev pub fate_lines : List ClientFate → List ℕ
fate_lines fates = lines_from fate_line 0 fates

-- each connection has a client
abbrev pub are_all_taken : List ClientFate → Bool
are_all_taken fates = nat_eq (count_by is_absent fates) 0

-- no client was cut off
abbrev pub are_all_in_time : List ClientFate → Bool
are_all_in_time fates = nat_eq (count_by is_cut_off fates) 0

-- an ending that isn't well
abbrev pub not_well : Ending → Ending
not_well = elim [ Well ↦ NotWell | ending ↦ ending ]

-- how `serve` ends, by its load: where a client was cut off it isn't well, and has failed where that can't be told
abbrev pub EndsServing : (in_time is_lost : Bool) → (by_load : Ending) → Ending → Type 0
EndsServing true is_lost by_load ending = ending ≡ by_load
EndsServing false is_lost by_load ending = EndsUnlessLost is_lost (not_well by_load) ending
