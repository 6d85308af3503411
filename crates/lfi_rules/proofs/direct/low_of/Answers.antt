use Rattle.std.proofs.Common.{arith}
use Rattle.lfi_rules.proofs.Offsets.{low_small}
use Rattle.lfi_rules.proofs.direct.low_of.Goals as goal

pub returns-clause-is : goal.returns-clause-is
returns-clause-is c = c.low_table.ensures.at c.args.kind (omega arith)

pub returns-clause-most : goal.returns-clause-most
returns-clause-most c = rw (c.low_table.ensures.at c.args.kind (omega arith)) (low_small c.args.kind)
