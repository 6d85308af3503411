-- What is known of what clients send, and of readers that are watched.
use Rattle.std.specs.Prelude.{ℕ, List, [], Option, Some, None}
use Rattle.lfi_sync.specs.declared.client.Client.{Client}
use Rattle.lfi_sync.specs.declared.client.Client.TheVariants.{Present, Absent}
use Rattle.lfi_sync.specs.declared.reading.Watched.{Watched}
use Rattle.lfi_sync.specs.declared.fate.ClientFate.{ClientFate}
use Rattle.lfi_sync.specs.declared.fate.ClientFate.TheVariants as fate

-- nothing, where there is none; else what its reader has left
abbrev pub sent_by : {R : Type 0} → (R → Option (List ℕ)) → Client R → Option (List ℕ)
sent_by remaining (Present reader) = remaining reader
sent_by remaining (Absent why) = Some []

-- the same over a socket, of which isn't known what it has left
abbrev pub sent_over_socket : {R : Type 0} → Client R → Option (List ℕ)
sent_over_socket client = sent_by (λ reader. None) client

-- the same by what became of the client
abbrev pub sent_at : ClientFate → Option (List ℕ)
sent_at fate.Heard = None
sent_at fate.CutOff = None
sent_at (fate.Absent why) = Some []

-- the reader that is watched, and what it has left
abbrev pub reader_of : {R : Type 0} → Watched R → R
reader_of watched = watched.reader

-- what the reader that is watched has left
abbrev pub read_by : {R : Type 0} → (R → Option (List ℕ)) → Watched R → Option (List ℕ)
read_by remaining watched = remaining (reader_of watched)
