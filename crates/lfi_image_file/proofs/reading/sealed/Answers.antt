use Rattle.std.proofs.Common.{arith}
use Rattle.lfi_image_file.proofs.Pieces.{code_of_words}
use Rattle.lfi_image_file.proofs.reading.sealed.Goals as goal

pub returns-in-Ok-clause-back : goal.returns-in-Ok-clause-back
returns-in-Ok-clause-back c = code_of_words c.args.bytes.now c.requires.0.1 (λ i. omega (arith, c.type_inv.bytes i))

pub returns-in-Err-clause-back : goal.returns-in-Err-clause-back
returns-in-Err-clause-back c = code_of_words c.args.bytes.now c.requires.0.1 (λ i. omega (arith, c.type_inv.bytes i))
