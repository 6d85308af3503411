use Rattle.std.proofs.Common.{rules}
use Rattle.lfi_mends.proofs.Standing.{immediate_stands}
use Rattle.lfi_mends.proofs.builders.sum_with_immediate.Goals as goal

pub returns-clause-stands : goal.returns-clause-stands
returns-clause-stands c = λ profile. immediate_stands profile c.args.into c.args.subtract c.args.shifted c.args.imm12 c.args.base c.requires.fits (search rules) (search rules) c.requires.holds
