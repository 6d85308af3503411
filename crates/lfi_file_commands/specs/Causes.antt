-- The causes of I/O errors, and what is told of them. Source: this project's profile, docs/COMMANDS.md.
use Rattle.std.specs.Prelude.{ℕ, List, [], ◌++◌, codes}
use Rattle.std.specs.declared.io.ErrorKind.{ErrorKind}
use Rattle.std.specs.declared.io.ErrorKind.TheVariants as kind
use Rattle.lfi_file_commands.specs.declared.device_cause.DeviceCause.{DeviceCause}
use Rattle.lfi_file_commands.specs.declared.device_cause.DeviceCause.TheVariants.{NotFound, PermissionDenied, IsADirectory, NotADirectory, TooManyLinks, NameTooLong, ReadOnly, StorageFull, QuotaExceeded, FileTooLarge, BrokenPipe, ConnectionReset, AddressInUse, EndedEarly, InvalidData, Other}

-- by the kind of the system's error
abbrev pub cause_of : ErrorKind → DeviceCause
cause_of kind.NotFound = NotFound
cause_of kind.PermissionDenied = PermissionDenied
cause_of kind.IsADirectory = IsADirectory
cause_of kind.NotADirectory = NotADirectory
cause_of kind.FilesystemLoop = TooManyLinks
cause_of kind.InvalidFilename = NameTooLong
cause_of kind.ReadOnlyFilesystem = ReadOnly
cause_of kind.StorageFull = StorageFull
cause_of kind.QuotaExceeded = QuotaExceeded
cause_of kind.FileTooLarge = FileTooLarge
cause_of kind.BrokenPipe = BrokenPipe
cause_of kind.ConnectionReset = ConnectionReset
cause_of kind.AddrInUse = AddressInUse
cause_of kind.UnexpectedEof = EndedEarly
cause_of kind.InvalidData = InvalidData
cause_of _ = Other

-- in words
abbrev pub cause_text : DeviceCause → List ℕ
cause_text NotFound = codes "No such file or directory"
cause_text PermissionDenied = codes "Permission denied"
cause_text IsADirectory = codes "Is a directory"
cause_text NotADirectory = codes "Not a directory"
cause_text TooManyLinks = codes "Too many levels of symbolic links"
cause_text NameTooLong = codes "File name too long"
cause_text ReadOnly = codes "Read-only file system"
cause_text StorageFull = codes "No space left on device"
cause_text QuotaExceeded = codes "Disk quota exceeded"
cause_text FileTooLarge = codes "File too large"
cause_text BrokenPipe = codes "Broken pipe"
cause_text ConnectionReset = codes "Connection reset by peer"
cause_text AddressInUse = codes "Address already in use"
cause_text EndedEarly = codes "The file ended early"
cause_text InvalidData = codes "Not valid UTF-8"
cause_text Other = []

-- what follows the failure in its line: a line of its own, or nothing
abbrev pub cause_line : DeviceCause → List ℕ
cause_line = elim [ Other ↦ [] | cause ↦ codes "\n  " ++ cause_text cause ]

-- what follows the path in the second line: the cause, or nothing
abbrev pub cause_behind : DeviceCause → List ℕ
cause_behind = elim [ Other ↦ [] | cause ↦ codes ": " ++ cause_text cause ]
