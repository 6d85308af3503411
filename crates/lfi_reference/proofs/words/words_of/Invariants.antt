use Rattle.std.proofs.Common.{◌≡◌, take}
use Rattle.a64_word.specs.Words.{words_of}
use Rattle.lfi_reference.proofs.words.words_of.Given as goal

abbrev pub invariant-loop-i : goal.invariant-loop-i
invariant-loop-i l = l.words.items ≡ take l.i (words_of l.bytes)
