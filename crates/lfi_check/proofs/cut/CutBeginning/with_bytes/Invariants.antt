use Rattle.std.proofs.Common.{take}
use Rattle.lfi_check.specs.Cuts.{Takes}
use Rattle.lfi_check.proofs.cut.CutBeginning.with_bytes.Given as goal

abbrev pub invariant-loop-byte : goal.invariant-loop-byte
invariant-loop-byte l = Takes l.fn.self l.cut (take l.byte-index l.piece)
