use Rattle.std.proofs.Common.{◌≡◌, ◌+◌, ◌∷◌, take}
use Rattle.lfi_mends.specs.Mends.{mended}
use Rattle.lfi_mends.proofs.mend.Mend.behind.Given as goal

abbrev pub invariant-loop-i : goal.invariant-loop-i
invariant-loop-i l = (l.mend.count ≡ l.i + 1) × (mended l.mend ≡ l.fn.first ∷ take l.i l.self.instructions)
