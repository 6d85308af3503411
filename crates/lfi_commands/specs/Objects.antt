-- What `lfiload load --format json` and `serve --format json` print: which key has which value. Source: this project's profile, docs/COMMANDS.md; of JSON RFC 8259.
use Rattle.std.specs.Prelude.{◌≡◌, ℕ, suc, Bool, true, false, List, [], ◌∷◌, ◌++◌, Option, Some, None, codes, decimal, get_or, slice_get, slice_index, take}
use Rattle.std.specs.declared.io.ErrorKind.{ErrorKind}
use Rattle.lfi_explain.specs.declared.explanation.Explanation.{Explanation}
use Rattle.lfi_frame.specs.declared.fault.FrameFault.{FrameFault}
use Rattle.lfi_frame.specs.declared.fault.FrameFault.TheVariants.{ReadFailed}
use Rattle.lfi_frame.specs.Faults.{fault_text, number_of}
use Rattle.lfi_model.specs.declared.outcome.Outcome.{Outcome}
use Rattle.lfi_model.specs.declared.outcome.Outcome.TheVariants as outcomes
use Rattle.lfi_model.specs.Texts.{lines_from}
use Rattle.lfi_receive.specs.declared.start.MessageStart.{MessageStart}
use Rattle.lfi_sequence.specs.declared.refused.RefusedModule.{RefusedModule}
use Rattle.lfi_sequence.specs.declared.report.ModuleReport.{ModuleReport}
use Rattle.lfi_stage.specs.declared.settlement.Report.{Report}
use Rattle.lfi_sync.specs.declared.fate.Absence.{Absence}
use Rattle.lfi_sync.specs.declared.fate.Absence.TheVariants.{NotCome, NotTaken}
use Rattle.lfi_sync.specs.declared.fate.ClientFate.{ClientFate}
use Rattle.lfi_sync.specs.declared.fate.ClientFate.TheVariants.{Heard, CutOff, Absent}
use Rattle.lfi_file_commands.specs.declared.device_cause.DeviceCause.{DeviceCause}
use Rattle.lfi_file_commands.specs.declared.device_cause.DeviceCause.TheVariants.{Other}
use Rattle.lfi_file_commands.specs.declared.kind.FileKind.{FileKind}
use Rattle.lfi_file_commands.specs.declared.kind.FileKind.TheVariants.{Plain, Stream}
use Rattle.lfi_file_commands.specs.Causes.{cause_of, cause_text}
use Rattle.lfi_file_commands.specs.Images.{Fate}
use Rattle.lfi_file_commands.specs.Json.{comma, explained_members, fault_members, image_item, kind_member, quoted}
use Rattle.lfi_file_commands.specs.Refused.{IsRefusal}
use Rattle.lfi_commands.specs.Clients.{cause_told}
use Rattle.lfi_commands.specs.Explained.{first_kind}

-- what is known of the connections of a load beside its report: how many they are; and by their numbers, where there are any, the paths of their streams, what became of their clients, and the
-- kinds of the errors of reads
pub record Sources : Type 0 where
  pub count : ℕ
  pub paths : List (List ℕ)
  pub clients : List ClientFate
  pub kinds : List (Option ErrorKind)

-- what became of a module
abbrev pub outcome_value : Outcome → List ℕ
outcome_value outcomes.Unused = codes "\"unused\""
outcome_value (outcomes.Complete n) = codes "\"complete\",\"words\":" ++ decimal n
outcome_value (outcomes.Refused fault) = codes "\"refused\"," ++ fault_members fault
outcome_value (outcomes.Incomplete pages all) = codes "\"incomplete\",\"pages\":" ++ decimal pages ++ codes ",\"of\":" ++ decimal all
outcome_value (outcomes.Lost fault) = codes "\"lost\",\"fault\":" ++ decimal (number_of fault)
outcome_value (outcomes.PageFault index) = codes "\"page fault\",\"index\":" ++ decimal index
outcome_value outcomes.NoMemory = codes "\"no memory\""

-- what stands first in the object of module m
abbrev pub outcome_members : ℕ → Outcome → List ℕ
outcome_members m outcome = codes "{\"module\":" ++ decimal m ++ codes ",\"outcome\":" ++ outcome_value outcome

-- what explains why it is refused, where that is told
abbrev pub told_members : Option Explanation → List ℕ
told_members None = []
told_members (Some e) = explained_members e

-- the connection that has claimed it
abbrev pub holder_member : Option ℕ → List ℕ
holder_member None = []
holder_member (Some c) = codes ",\"connection\":" ++ decimal c

-- the object of module m
abbrev pub module_item : ℕ → Outcome → Option Explanation → (holder : Option ℕ) → List ℕ
module_item m outcome told holder = comma m ++ outcome_members m outcome ++ told_members told ++ (holder_member holder ++ codes "}")

-- why a module is refused is explained where that is asked for, and else not
abbrev pub IsAskedRefusal : (explain : Bool) → Option RefusedModule → Option Explanation → Type 0
IsAskedRefusal true refused told = IsRefusal refused told
IsAskedRefusal false refused told = told ≡ None

-- the objects of modules, from number m on
abbrev pub TellModules : (explain : Bool) → (holders : List (Option ℕ)) → (m : ℕ) → List ModuleReport → List ℕ → Type 0
TellModules explain holders m [] text = text ≡ []
TellModules explain holders m (report ∷ reports) text =
    (told : Option Explanation) × (rest : List ℕ) × IsAskedRefusal explain report.refused told × TellModules explain holders (suc m) reports rest
    × (text ≡ module_item m report.outcome told (get_or holders m None) ++ rest)

-- why something failed, where that is told
abbrev pub cause_member : (key : List ℕ) → DeviceCause → List ℕ
cause_member key = elim [ Other ↦ [] | cause ↦ codes ",\"" ++ key ++ codes "\":\"" ++ cause_text cause ++ codes "\"" ]

-- why a connection has no client
abbrev pub absence_members : Absence → List ℕ
absence_members NotCome = codes ",\"client\":\"not come\""
absence_members (NotTaken kind) = codes ",\"client\":\"not taken\"" ++ cause_member (codes "client_error") (cause_of kind)

-- what became of its client
abbrev pub client_members : ClientFate → List ℕ
client_members Heard = codes ",\"client\":\"heard\""
client_members CutOff = codes ",\"client\":\"cut off\""
client_members (Absent why) = absence_members why

-- the same, where there are clients
abbrev pub client_member : Option ClientFate → List ℕ
client_member None = []
client_member (Some fate) = client_members fate

-- the path of its stream, where it has one
abbrev pub path_member : Option (List ℕ) → List ℕ
path_member None = []
path_member (Some path) = codes ",\"path\":" ++ quoted path

-- what begins as no stream, where that is told
abbrev pub file_member : Option FileKind → List ℕ
file_member None = []
file_member (Some Stream) = []
file_member (Some Plain) = codes ",\"file\":\"no stream; lfiload pack makes one of code\""
file_member (Some kind) = kind_member kind

-- why a read failed, by the kind of its error
abbrev pub read_member : FrameFault → Option ErrorKind → List ℕ
read_member ReadFailed kind = cause_member (codes "read_error") (cause_told kind)
read_member fault kind = []

-- the fault of its stream: its number, and in words; where the message begins that has it; what begins so; and why a read failed
abbrev pub stream_members : Option FrameFault → Option MessageStart → (kind : Option ErrorKind) → List ℕ
stream_members (Some fault) (Some start) kind =
    codes ",\"fault\":" ++ decimal (number_of fault) ++ codes ",\"reason\":\"" ++ fault_text fault ++ codes "\",\"byte\":" ++ decimal start.byte ++ file_member (first_kind fault start) ++ read_member fault kind
stream_members fault start kind = []

-- what stands first in the object of connection c
abbrev pub connection_member : ℕ → List ℕ
connection_member c = codes "{\"connection\":" ++ decimal c

-- what stands behind its path: what became of its client, its strays, and its fault
abbrev pub connection_members : Option ClientFate → (strays : ℕ) → Option FrameFault → Option MessageStart → (kind : Option ErrorKind) → List ℕ
connection_members client strays fault start kind = client_member client ++ codes ",\"strays\":" ++ decimal strays ++ stream_members fault start kind

-- the object of connection c, by the path of its stream and what stands behind it
abbrev pub connection_object : ℕ → (path : Option (List ℕ)) → (members : List ℕ) → List ℕ
connection_object c path members = comma c ++ connection_member c ++ path_member path ++ (members ++ codes "}")

-- that of connection c, which has this fault
abbrev pub connection_item : Report → Sources → ℕ → Option FrameFault → List ℕ
connection_item report sources c fault =
    connection_object c (slice_get sources.paths c)
    (connection_members (slice_get sources.clients c) (slice_index report.connection_strays c) fault (slice_get report.starts c) (get_or sources.kinds c None))

-- those of all connections
abbrev pub connection_items : Report → Sources → List ℕ
connection_items report sources = lines_from (connection_item report sources) 0 (take sources.count report.faults)

-- what is told of images behind the strays, of those that were to be put into this folder
abbrev pub images_member : (strays : ℕ) → (items : List ℕ) → List ℕ
images_member strays items = codes "],\"strays\":" ++ decimal strays ++ codes ",\"images\":[" ++ items ++ codes "]}\n"

-- It is the object of a report: it tells of all modules, explained where that is asked for, of all connections, of the strays, and of the images that were to be put into a folder.
pub record IsObject (report : Report) (sources : Sources) (explain : Bool) (folder : List ℕ) (fates : List Fate) (object : List ℕ) : Type 0 where
  pub modules : List ℕ
  pub tells : TellModules explain report.holders 0 report.modules modules
  pub same : object ≡ codes "{\"modules\":[" ++ modules ++ codes "],\"connections\":[" ++ connection_items report sources ++ images_member report.strays (lines_from (image_item folder) 0 fates)
