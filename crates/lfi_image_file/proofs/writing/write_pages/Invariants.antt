use Rattle.std.proofs.Common.{◌≤◌, ◌-◌, length, take}
use Rattle.std.specs.Io.KnownBytes.{Appends}
use Rattle.lfi_image_file.specs.Files.{code_of}
use Rattle.lfi_image.specs.Built.{words_in}
use Rattle.lfi_image_file.proofs.writing.write_pages.Given as goal

abbrev pub invariant-loop-at : goal.invariant-loop-at
invariant-loop-at g l = (l.at ≤ length l.pages) × Appends (g.W.Write.contents l.initial.writer) (g.W.Write.contents l.writer) (code_of (words_in (take l.at l.pages)))

abbrev pub decreases-loop-at : goal.decreases-loop-at
decreases-loop-at g l = length l.pages - l.at
