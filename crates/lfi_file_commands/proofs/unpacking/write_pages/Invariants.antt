use Rattle.std.proofs.Common.{take}
use Rattle.std.specs.Io.KnownBytes.{Appends}
use Rattle.lfi_image_file.specs.Files.{code_of}
use Rattle.lfi_image.specs.Built.{words_in}
use Rattle.lfi_file_commands.proofs.unpacking.write_pages.Given as goal

abbrev pub invariant-loop-at : goal.invariant-loop-at
invariant-loop-at g l = Appends (g.W.Write.contents l.initial.writer) (g.W.Write.contents l.writer) (code_of (words_in (take l.at l.pages)))
