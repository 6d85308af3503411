use Rattle.std.proofs.Common.{rules}
use Rattle.lfi_mends.proofs.Standing.{branch_stands, through_first}
use Rattle.lfi_mends.proofs.builders.branch.Goals as goal

pub returns-clause-stands : goal.returns-clause-stands
returns-clause-stands c = λ profile. rw c.new.ensures (branch_stands profile c.args.kind 18 (search rules) (through_first c.args.kind c.requires))
