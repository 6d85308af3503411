use Rattle.std.proofs.Common.{◌∙◌}
use Rattle.a64_semantics.proofs.Bits.{turned}
use Rattle.a64_semantics.proofs.shifts.shifted_w.Goals as goal

pub returns-in-Ror : goal.returns-in-Ror
returns-in-Ror c = rw c.in-Ror.is (c.rotate_right.ensures ∙ turned c.args.x c.args.by 32 c.requires c.ranges.x.fits)
