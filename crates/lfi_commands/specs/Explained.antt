-- What `lfiload load --explain` and `serve --explain` tell: of refused modules, of which connection has claimed each module, and of connections. Source: this project's
-- profile, docs/COMMANDS.md.
use Rattle.std.specs.Prelude.{◌≡◌, ℕ, ◌==◌, ◌&&◌, Bool, true, false, List, [], ◌++◌, Option, Some, None, codes, decimal, slice_get, slice_index, if◌then◌else◌}
use Rattle.lfi_frame.specs.declared.fault.FrameFault.{FrameFault}
use Rattle.lfi_frame.specs.declared.fault.FrameFault.TheVariants.{NoMemory, Ended, ReadFailed}
use Rattle.lfi_frame.specs.Faults.{fault_text}
use Rattle.lfi_model.specs.Texts.{lines_from}
use Rattle.lfi_receive.specs.declared.start.MessageStart.{MessageStart}
use Rattle.lfi_stage.specs.declared.settlement.Report.{Report}
use Rattle.lfi_file_commands.specs.declared.kind.FileKind.{FileKind}
use Rattle.lfi_file_commands.specs.declared.kind.FileKind.TheVariants.{Stream, Plain}
use Rattle.lfi_file_commands.specs.Kinds.{file_kind, kind_line}
use Rattle.lfi_file_commands.specs.Refused.{TellRefused}

-- the line of module m, which this connection has claimed
abbrev pub holder_line : ℕ → Option ℕ → List ℕ
holder_line m None = []
holder_line m (Some c) = codes "module " ++ decimal m ++ codes ": from connection " ++ decimal c ++ codes "\n"

-- those of all modules, by their numbers
abbrev pub holder_lines : List (Option ℕ) → List ℕ
holder_lines holders = lines_from holder_line 0 holders

-- a header shows the fault
abbrev pub is_of_header : FrameFault → Bool
is_of_header = elim [ NoMemory ↦ false | Ended ↦ false | ReadFailed ↦ false | fault ↦ true ]

-- what the bytes of a connection are, where its first header has the fault
abbrev pub first_kind : FrameFault → MessageStart → Option FileKind
first_kind fault start = if is_of_header fault && start.byte == 0 then Some (file_kind start.header) else None

-- the line of what begins as no stream: what it is, and what to do with it
abbrev pub no_stream_line : FileKind → List ℕ
no_stream_line = elim [ Stream ↦ [] | Plain ↦ codes "  file: no stream; lfiload pack makes one of code\n" | kind ↦ kind_line kind ]

-- the same, where it is told
abbrev pub first_line : Option FileKind → List ℕ
first_line None = []
first_line (Some kind) = no_stream_line kind

-- the path of a stream, where it has one
abbrev pub of_text : Option (List ℕ) → List ℕ
of_text None = []
of_text (Some path) = codes " of " ++ path

-- the lines of connection c, where it came to a fault: the fault, where the message begins that has it, and what the file is
abbrev pub fault_lines : ℕ → Option FrameFault → Option MessageStart → (path : Option (List ℕ)) → List ℕ
fault_lines c (Some fault) (Some start) path =
    codes "connection " ++ decimal c ++ codes ": " ++ fault_text fault ++ codes "\n  message at byte " ++ decimal start.byte ++ of_text path ++ codes "\n" ++ first_line (first_kind fault start)
fault_lines c fault start path = []

-- the line of its strays, where there are any
abbrev pub strays_line : ℕ → (strays : ℕ) → List ℕ
strays_line c strays = if strays == 0 then [] else codes "connection " ++ decimal c ++ codes ": strays " ++ decimal strays ++ codes "\n"

-- both, of a connection with this fault, among those with these starts, strays and paths
abbrev pub connection_lines : (starts : List MessageStart) → (strays : List ℕ) → (paths : List (List ℕ)) → ℕ → Option FrameFault → List ℕ
connection_lines starts strays paths c fault = fault_lines c fault (slice_get starts c) (slice_get paths c) ++ strays_line c (slice_index strays c)

-- those of all connections, by their numbers
abbrev pub all_connection_lines : List (Option FrameFault) → (starts : List MessageStart) → (strays : List ℕ) → (paths : List (List ℕ)) → List ℕ
all_connection_lines faults starts strays paths = lines_from (connection_lines starts strays paths) 0 faults

-- what is told of a report: of its refused modules, of which connection has claimed each module, and of the connections, whose streams have these paths, where that is asked for; and else nothing
abbrev pub TellsExplained : Bool → Report → (paths : List (List ℕ)) → List ℕ → Type 0
TellsExplained true report paths text =
    (refused : List ℕ) × TellRefused report.modules refused × (text ≡ refused ++ (holder_lines report.holders ++ all_connection_lines report.faults report.starts report.connection_strays paths))
TellsExplained false report paths text = text ≡ []
