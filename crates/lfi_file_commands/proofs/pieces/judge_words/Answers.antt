use Rattle.std.proofs.Common.{◌++◌, ◌∙◌, rules}
use Rattle.std.proofs.KnownBytes.{Consumes-trans}
use Rattle.lfi_file_commands.proofs.pieces.judge_words.Goals as goal

pub loop-beginning-preserved : goal.loop-beginning-preserved
loop-beginning-preserved g c = record {
  size = search rules;
  words = c.in_ok-beginning.ensures.words ∙ c.loop-beginning.invariant.words;
  profile = c.in_ok-beginning.ensures.profile ∙ c.loop-beginning.invariant.profile;
  room = search rules;
  bytes = c.loop-beginning.invariant.bytes ++ c.next_piece.new.piece;
  read = Consumes-trans _ _ _ _ _ c.loop-beginning.invariant.read c.in_ok-beginning.ensures.read;
  begins = c.in_ok-beginning.ensures.begins c.loop-beginning.invariant.bytes c.loop-beginning.invariant.begins;
}
