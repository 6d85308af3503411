use Rattle.std.proofs.Common.{subst}
use Rattle.lfi_image_file.specs.Reading.{IsFault}
use Rattle.lfi_image_file.proofs.Whole.{file_good}
use Rattle.lfi_image_file.proofs.laws.file_of_an_image.Goals as goal

pub returns : goal.returns
returns c = λ image bytes fault is file told. file_good image fault is (subst (λ xs. IsFault xs fault) file told)
