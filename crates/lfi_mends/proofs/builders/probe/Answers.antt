use Rattle.lfi_mends.proofs.Standing.{probe_stands}
use Rattle.lfi_mends.proofs.builders.probe.Goals as goal

pub returns-clause-stands : goal.returns-clause-stands
returns-clause-stands c = λ profile count. rw c.new-zero.ensures (probe_stands profile count)
