use Rattle.std.proofs.Common.{ap, sym, ◌∙◌}
use Rattle.a64_semantics.specs.Shifts.{shifted}
use Rattle.a64_semantics.proofs.Unshifted.{unshifted}
use Rattle.a64_semantics.proofs.shifts.shifted.Goals as goal

pub returns-then-by-eq0-clause-value : goal.returns-then-by-eq0-clause-value
returns-then-by-eq0-clause-value c =
    unshifted c.args.width c.args.shift c.args.x c.requires.x ∙ ap (shifted c.args.width c.args.shift c.args.x) (sym c.if-by-eq0.true)
