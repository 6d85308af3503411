use Rattle.std.proofs.Common.{◌∙◌}
use Rattle.a64_semantics.proofs.Bits.{turned}
use Rattle.a64_semantics.proofs.shifts.shifted_x.Goals as goal

pub returns-in-Ror : goal.returns-in-Ror
returns-in-Ror c = rw c.in-Ror.is (c.rotate_right.ensures ∙ turned c.args.x c.args.by 64 c.requires c.ranges.x.fits)
