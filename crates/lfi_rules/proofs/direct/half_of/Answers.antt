use Rattle.std.proofs.Common.{arith}
use Rattle.lfi_rules.proofs.Offsets.{half_large, half_small}
use Rattle.lfi_rules.proofs.direct.half_of.Goals as goal

pub returns-clause-is : goal.returns-clause-is
returns-clause-is c = c.half_table.ensures.at c.args.kind (omega arith)

pub returns-clause-some : goal.returns-clause-some
returns-clause-some c = rw (c.half_table.ensures.at c.args.kind (omega arith)) (half_large c.args.kind)

pub returns-clause-most : goal.returns-clause-most
returns-clause-most c = rw (c.half_table.ensures.at c.args.kind (omega arith)) (half_small c.args.kind)
