use Rattle.std.proofs.Common.{rules}
use Rattle.lfi_mends.proofs.Standing.{index_sum_stands}
use Rattle.lfi_mends.proofs.builders.sum_with_index.Goals as goal

pub returns-clause-stands : goal.returns-clause-stands
returns-clause-stands c = λ profile. index_sum_stands profile c.args.into c.args.amount c.args.index c.args.base c.requires.amount (search rules) (search rules) (search rules) c.requires.holds
