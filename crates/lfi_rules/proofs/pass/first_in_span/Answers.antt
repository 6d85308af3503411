use Rattle.std.proofs.Common.{◌+◌}
use Rattle.lfi_rules.proofs.pass.first_in_span.Goals as goal

pub first_untold-requires-clause-marked : goal.first_untold-requires-clause-marked
first_untold-requires-clause-marked g c = (c.args.start, c.args.start + 1024, c.requires.room, c.mark_untold-count.ensures.marked)

pub returns-clause-some : goal.returns-clause-some
returns-clause-some g c = c.first_untold.ensures.some c.args.start (c.args.start + 1024) c.requires.room c.mark_untold-count.ensures.marked

pub returns-clause-none : goal.returns-clause-none
returns-clause-none g c = c.first_untold.ensures.none c.args.start (c.args.start + 1024) c.mark_untold-count.ensures.marked
