-- The numbers in a line of the command line. Only private clauses and proofs use it.
use Rattle.std.specs.Prelude.{⊤, ◌+◌, ◌≤◌, length}
use Rattle.lfi_module.specs.Pages.{HasPages}
use Rattle.lfi_command_line.specs.declared.line.Line.{Line}
use Rattle.lfi_command_line.specs.declared.line.Line.TheVariants.{Check, Load, Serve, Run, Disassemble, Pack, Unpack, Info}

-- a line for 1 to 8 streams and verifiers, where it is one for streams; and for modules up to the last one, with pages that their profile has, where it packs
abbrev pub IsInRange : Line → Type 0
IsInRange (Check asked) = ⊤
IsInRange (Load asked) = ((1 ≤ asked.verifiers) × (asked.verifiers ≤ 8)) × ((1 ≤ length asked.streams.items) × (length asked.streams.items ≤ 8))
IsInRange (Serve asked) = ((1 ≤ asked.verifiers) × (asked.verifiers ≤ 8)) × ((1 ≤ asked.connections) × (asked.connections ≤ 8))
IsInRange (Run asked) = ⊤
IsInRange (Disassemble asked) = ⊤
IsInRange (Pack asked) = (asked.first + length asked.codes.items ≤ 16) × HasPages asked.profile asked.pages
IsInRange (Unpack asked) = ⊤
IsInRange (Info asked) = ⊤

-- a line that needs no threads, in its range
abbrev pub IsForFiles : Line → Type 0
IsForFiles (Load asked) = ⊥
IsForFiles (Serve asked) = ⊥
IsForFiles line = IsInRange line
