use Rattle.std.proofs.Common.{◌≡◌, ◌-◌, ◌++◌, length, take, drop}
use Rattle.a64_word.specs.Words.{words_of}
use Rattle.lfi_sequence.proofs.near.copied.Given as goal

abbrev pub invariant-loop-place : goal.invariant-loop-place
invariant-loop-place l = record {
  room : length l.words ≡ 6;
  same : take (l.place - l.first) l.words ≡ take (l.place - l.first) (drop l.first (l.builder.placed ++ words_of l.page.bytes));
}
