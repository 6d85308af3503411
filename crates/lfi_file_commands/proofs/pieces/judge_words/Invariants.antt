use Rattle.std.proofs.Common.{◌≡◌, ◌≤◌, ℕ, ◌-◌, List, length}
use Rattle.std.specs.Io.KnownBytes.{Consumes}
use Rattle.lfi_check.specs.Begun.{Begins}
use Rattle.lfi_file_commands.proofs.pieces.judge_words.Given as goal

abbrev pub invariant-loop-beginning : goal.invariant-loop-beginning
invariant-loop-beginning g l = record {
  size : length l.buffer ≡ length l.initial.buffer;
  words : l.beginning.words ≡ l.words;
  profile : l.beginning.profile ≡ l.fn.profile;
  room : l.beginning.judged ≤ l.words;
  bytes : List ℕ;
  read : Consumes (g.R.Read.remaining l.initial.reader) (g.R.Read.remaining l.reader) bytes;
  begins : Begins l.beginning bytes;
}

abbrev pub decreases-loop-beginning : goal.decreases-loop-beginning
decreases-loop-beginning g l = l.words - l.beginning.judged
