use Rattle.std.proofs.Common.{◌≡◌, length, take}
use Rattle.lfi_verifier.specs.Mended.{Spell}
use Rattle.lfi_verifier.proofs.mending.words_of.Given as goal

abbrev pub invariant-loop-instruction : goal.invariant-loop-instruction
invariant-loop-instruction l = (length l.words.items ≡ l.instruction-index) × Spell l.profile (take l.instruction-index l.instructions) l.words.items
