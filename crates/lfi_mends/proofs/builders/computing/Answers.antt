use Rattle.lfi_mends.proofs.Standing.{computing_stands}
use Rattle.lfi_mends.proofs.builders.computing.Goals as goal

pub returns-clause-stands : goal.returns-clause-stands
returns-clause-stands c = λ profile. (computing_stands profile c.args.instruction c.requires.computes c.requires.legal c.requires.fits).0

pub returns-clause-opens : goal.returns-clause-opens
returns-clause-opens c = λ profile. (computing_stands profile c.args.instruction c.requires.computes c.requires.legal c.requires.fits).1
