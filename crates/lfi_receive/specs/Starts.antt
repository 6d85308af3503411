-- Where the message begins at which a connection ended. Source: this project's profile, docs/COMMANDS.md.
use Rattle.std.specs.Prelude.{◌≡◌, ℕ, ◌%◌, ◌^◌, List, length, take, flat_map}
use Rattle.lfi_frame.specs.declared.fault.FrameFault.{FrameFault}
use Rattle.lfi_frame.specs.Streams.{Message, spelling, rest_of, faulty}
use Rattle.lfi_receive.specs.declared.start.MessageStart.{MessageStart}

-- how many bytes whole messages have, modulo 2^64
abbrev pub bytes_of_whole : List Message → ℕ
bytes_of_whole messages = length (flat_map spelling messages) % 2 ^ 64

-- This is where the rest of a text begins, after its whole messages; and where the rest shows a header with a fault, it is that header.
pub record IsStart (start : MessageStart) (messages : List Message) (rest : List ℕ) : Type 0 where
  pub byte : start.byte ≡ bytes_of_whole messages
  pub header : (fault : FrameFault) → rest_of rest ≡ faulty fault → start.header ≡ take 12 rest
