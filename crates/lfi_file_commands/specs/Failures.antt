-- What `lfiload` tells of a failure. Source: this project's profile, docs/COMMANDS.md.
use Rattle.std.specs.Prelude.{◌≡◌, ⊤, ℕ, Bool, true, false, List, [], ◌++◌, Option, Some, codes, slice_get, string_bytes}
use Rattle.std.specs.List.{flat_map}
use Rattle.std.specs.Io.KnownBytes.{Appends}
use Rattle.std.specs.declared.io.ErrorKind.{ErrorKind}
use Rattle.std.specs.declared.io.ErrorKind.TheVariants.{OutOfMemory}
use Rattle.lfi_file_commands.specs.declared.device_cause.DeviceCause.{DeviceCause}
use Rattle.lfi_file_commands.specs.declared.device_cause.DeviceCause.TheVariants.{BrokenPipe}
use Rattle.lfi_file_commands.specs.declared.checking.CommandFault.{CommandFault}
use Rattle.lfi_file_commands.specs.declared.checking.CommandFault.TheVariants as fault
use Rattle.lfi_file_commands.specs.declared.failure.Target.{Target}
use Rattle.lfi_file_commands.specs.declared.failure.Target.TheVariants.{StandardOutput, File}
use Rattle.lfi_file_commands.specs.declared.failure.Failure.{Failure}
use Rattle.lfi_file_commands.specs.declared.failure.Failure.TheVariants.{CannotRead, CannotWrite, CannotListen, NoMemory, NoThread}
use Rattle.lfi_file_commands.specs.Left.{Left}
use Rattle.lfi_sync.specs.declared.refusal.LoadError.{LoadError}
use Rattle.lfi_sync.specs.declared.refusal.LoadError.TheVariants as load_error
use Rattle.lfi_file_commands.specs.Causes.{cause_behind, cause_line, cause_of}

-- what can't be written, in words
abbrev pub target_text : Target → List ℕ
target_text StandardOutput = codes "standard output"
target_text (File path) = string_bytes path

-- a failure in words, and its cause in a line of its own, where it is told
abbrev pub failure_text : Failure → List ℕ
failure_text (CannotRead path cause) = codes "cannot read " ++ path.now ++ cause_line cause
failure_text (CannotWrite target cause) = codes "cannot write " ++ target_text target ++ cause_line cause
failure_text (CannotListen path cause) = codes "cannot listen\n  " ++ path.now ++ cause_behind cause
failure_text NoMemory = codes "no memory"
failure_text NoThread = codes "no memory"

-- its line; of an output that nobody reads any longer nothing is told
abbrev pub failure_line : Failure → List ℕ
failure_line (CannotWrite StandardOutput BrokenPipe) = []
failure_line failure = codes "lfiload: " ++ failure_text failure ++ codes "\n"

-- the lines of several
abbrev pub failure_lines : List Failure → List ℕ
failure_lines failures = flat_map failure_line failures

-- the fault is that of a write
abbrev pub is_of_a_write : CommandFault → Bool
is_of_a_write (fault.NotWritten cause) = true
is_of_a_write _ = false

-- the failure is that of the output
abbrev pub is_of_output : Failure → Bool
is_of_output (CannotWrite StandardOutput cause) = true
is_of_output _ = false

-- the fault of a read that fails with an error of this kind
abbrev pub fault_of_read : ErrorKind → CommandFault
fault_of_read = elim [ OutOfMemory ↦ fault.NoMemory | kind ↦ fault.NotRead (cause_of kind) ]

-- it names this path as one that can't be read, and this cause
abbrev pub TellsRead : List ℕ → DeviceCause → Failure → Type 0
TellsRead path cause (CannotRead told c) = (told.now ≡ path) × (c ≡ cause)
TellsRead path cause _ = ⊥

-- it tells of a command's fault, where the input is the file at this path
abbrev pub TellsOf : CommandFault → List ℕ → Failure → Type 0
TellsOf fault.NoMemory path failure = failure ≡ NoMemory
TellsOf (fault.NotRead cause) path failure = TellsRead path cause failure
TellsOf (fault.NotWritten cause) path failure = failure ≡ CannotWrite StandardOutput cause

-- it names this path as one that can't be read, or tells that there was no memory
abbrev pub IsOfReading : List ℕ → Failure → Type 0
IsOfReading path (CannotRead told cause) = told.now ≡ path
IsOfReading path NoMemory = ⊤
IsOfReading path _ = ⊥

-- it names one of these paths as one that can't be read, or tells that there was no memory
abbrev pub IsOfReadingOne : List (List ℕ) → Failure → Type 0
IsOfReadingOne paths (CannotRead told cause) = (c : ℕ) × (slice_get paths c ≡ Some told.now)
IsOfReadingOne paths NoMemory = ⊤
IsOfReadingOne paths _ = ⊥

-- it names this path as that of a file that can't be written, or tells that there was no memory
abbrev pub IsOfWriting : List ℕ → Failure → Type 0
IsOfWriting path (CannotWrite (File told) cause) = string_bytes told ≡ path
IsOfWriting path NoMemory = ⊤
IsOfWriting path _ = ⊥

-- it tells of a fault of a command whose inputs are the files at these paths
abbrev pub FailsOn : List (List ℕ) → Failure → Type 0
FailsOn paths (CannotRead told cause) = (c : ℕ) × (slice_get paths c ≡ Some told.now)
FailsOn paths (CannotWrite StandardOutput cause) = ⊤
FailsOn paths NoMemory = ⊤
FailsOn paths _ = ⊥

-- what refuses a load: memory, or a thread
abbrev pub failure_of_load : LoadError → Failure
failure_of_load load_error.NoMemory = NoMemory
failure_of_load load_error.NoThread = NoThread

-- it tells that a load was refused, or of the output for its report
abbrev pub IsOfLoad : Failure → Type 0
IsOfLoad (CannotWrite StandardOutput cause) = ⊤
IsOfLoad NoMemory = ⊤
IsOfLoad NoThread = ⊤
IsOfLoad _ = ⊥

-- it tells of a fault of a load of the files at these paths
abbrev pub FailsLoading : List (List ℕ) → Failure → Type 0
FailsLoading paths NoThread = ⊤
FailsLoading paths failure = FailsOn paths failure

-- it tells of a fault of a load that listens at a socket at this path
abbrev pub FailsServing : List ℕ → Failure → Type 0
FailsServing socket (CannotListen told cause) = told.now ≡ socket
FailsServing socket failure = IsOfLoad failure

-- These lines were written to the errors, unless something is lost.
abbrev pub Told : Bool → (old new : Option (List ℕ)) → List ℕ → Type 0
Told true old new lines = ⊤
Told false old new lines = Appends old new lines

-- These lines were told on the errors, unless something is lost, and nothing else was written or put.
abbrev pub TellsLines : List ℕ → (old new : Left) → Type 0
TellsLines lines old new = Told new.is_lost old.errors new.errors lines × (new.out ≡ old.out) × (new.put ≡ old.put)
