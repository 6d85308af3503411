use Rattle.std.proofs.Common.{rules}
use Rattle.lfi_mends.proofs.Standing.{changed_stands}
use Rattle.lfi_mends.proofs.builders.changed.Goals as goal

pub returns-clause-stands : goal.returns-clause-stands
returns-clause-stands c = λ profile. (changed_stands profile c.args.subtract c.args.imm12 c.args.base c.requires.fits (search rules) c.requires.free c.requires.no_stack).0
