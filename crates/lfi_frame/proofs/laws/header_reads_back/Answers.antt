use Rattle.std.proofs.Common.{◌≡◌, [], subst}
use Rattle.std.proofs.lemmas.List.{append-nil}
use Rattle.lfi_frame.specs.Streams.{header_at, header_bytes}
use Rattle.lfi_frame.proofs.Headers.{header_back}
use Rattle.lfi_frame.proofs.laws.header_reads_back.Goals as goal

pub returns : goal.returns
returns c = λ h m a b. subst (λ l. header_at l ≡ h) (append-nil (header_bytes h)) (header_back h [] m a b)
