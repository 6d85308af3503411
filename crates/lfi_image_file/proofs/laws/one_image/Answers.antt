use Rattle.std.proofs.Common.{sym, ◌∙◌}
use Rattle.lfi_image_file.proofs.OneImage.{one_file}
use Rattle.lfi_image_file.proofs.laws.one_image.Goals as goal

pub returns : goal.returns
returns c = λ one other bytes is_one is_other of_one of_other. one_file one other is_one is_other (sym of_one ∙ of_other)
