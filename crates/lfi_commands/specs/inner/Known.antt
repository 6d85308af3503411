-- What is known of connections, as the program keeps it. Only private clauses and proofs use it.
use Rattle.std.specs.Prelude.{map}
use Rattle.lfi_commands.specs.declared.sources.Sources as kept
use Rattle.lfi_commands.specs.Objects.{Sources}

-- what is kept of connections, as definitions see it
abbrev pub known_of : kept.Sources → Sources
known_of s = record { count = s.count; paths = map (λ path. path.now) s.paths.now; clients = s.clients.now; kinds = s.kinds }
