-- Lines that the parser takes, and that can't be carried out. (docs/COMMANDS.md)
use Rattle.std.specs.Prelude.{ℕ, suc, ◌+◌, length, Bool, true, false, if◌then◌else◌, nat_lt, List, [], ◌∷◌, codes, map, Option, Some, None, option_map}
use Rattle.std.specs.Str.{bytes_eq}
use Rattle.clap.specs.Words.{Text}
use Rattle.lfi_command_line.specs.declared.flaw.Flaw.{Flaw}
use Rattle.lfi_command_line.specs.declared.flaw.Flaw.TheVariants.{TooManyStreams, TooManyModules, NoFolder, NoSocket, InputTwice}
use Rattle.lfi_command_line.specs.declared.line.Line.{Line}
use Rattle.lfi_command_line.specs.declared.options.LoadOptions.{LoadOptions}
use Rattle.lfi_command_line.specs.declared.options.PackOptions.{PackOptions}
use Rattle.lfi_command_line.specs.declared.line.Line.TheVariants.{Check, Load, Serve, Pack, Info}

-- a path is there and empty
abbrev pub is_empty_path : Option Text → Bool
is_empty_path None = false
is_empty_path (Some []) = true
is_empty_path (Some (byte ∷ rest)) = false

-- how many of these paths name the standard input
abbrev pub input_count : List Text → ℕ
input_count [] = 0
input_count (path ∷ rest) = if bytes_eq path (codes "-") then suc (input_count rest) else input_count rest

-- of a line that names these files, and this folder for images
abbrev pub flaw_of_files : (folder : Option Text) → List Text → Option Flaw
flaw_of_files folder paths = if is_empty_path folder then Some NoFolder else if nat_lt 1 (input_count paths) then Some InputTwice else None

-- of a line that names this socket, and this folder for images
abbrev pub flaw_of_socket : (folder : Option Text) → (socket : Text) → Option Flaw
flaw_of_socket folder socket = if is_empty_path (Some socket) then Some NoSocket else if is_empty_path folder then Some NoFolder else None

-- of a line that asks for this load: there are 8 connections at most
abbrev pub flaw_of_load : LoadOptions → Option Flaw
flaw_of_load asked =
    if nat_lt 8 (length asked.streams.items) then Some TooManyStreams
    else flaw_of_files (option_map (λ s. s.now) asked.report.out) (map (λ s. s.now) asked.streams.items)

-- of a line that asks for this stream: there are 16 modules, counted from 0
abbrev pub flaw_of_pack : PackOptions → Option Flaw
flaw_of_pack asked = if nat_lt 16 (asked.first + length asked.codes.items) then Some TooManyModules else flaw_of_files None (map (λ s. s.now) asked.codes.items)

-- why a line can't be carried out, if it can't
abbrev pub flaw_of : Line → Option Flaw
flaw_of (Load asked) = flaw_of_load asked
flaw_of (Serve asked) = flaw_of_socket (option_map (λ s. s.now) asked.report.out) asked.socket.now
flaw_of (Pack asked) = flaw_of_pack asked
flaw_of (Check asked) = flaw_of_files None (map (λ s. s.now) asked.files.items)
flaw_of (Info asked) = flaw_of_files None (map (λ s. s.now) asked.files.items)
flaw_of _ = None

-- in words
abbrev pub flaw_text : Flaw → List ℕ
flaw_text TooManyStreams = codes "at most 8 streams"
flaw_text TooManyModules = codes "more files than modules, of which the last is 15"
flaw_text NoFolder = codes "--out names no folder"
flaw_text NoSocket = codes "--socket names no path"
flaw_text InputTwice = codes "- can be named once"
