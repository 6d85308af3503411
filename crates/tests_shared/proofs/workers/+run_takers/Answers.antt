use Rattle.std.proofs.Common.{rules, ◌∙◌, sym}
use Rattle.std.proofs.iter.Serving.{serving}
use Rattle.std.specs.Prelude.{vec_len}
use Rattle.tests_shared.proofs.Rows.{last_new}
use Rattle.tests_shared.proofs.workers.+run_takers.Goals as goal

-- The thread has the last of the passes, which are those of a new queue.
pub spawn_with-requires-clause-keeps : goal.spawn_with-requires-clause-keeps
spawn_with-requires-clause-keeps g t c κs within =
    let h = last_new c.args.run.queue.now (vec_len c.args.takes) c.pop.new.self.items c.in-Some.pass (sym c.in-Some.ensures.items ∙ c.requires.0) (search rules) in
    let number = c.len-number.ensures in
    grind serving

pub run_takers-row-requires-after_bounds : goal.run_takers-row-requires-after_bounds
run_takers-row-requires-after_bounds g t c κs within =
    let h = last_new c.args.run.queue.now (vec_len c.args.takes) c.pop.new.self.items c.in-Some.pass (sym c.in-Some.ensures.items ∙ c.requires.0) (search rules) in
    search rules

pub spawn_with-requires-clause-runs : goal.spawn_with-requires-clause-runs
spawn_with-requires-clause-runs g t c κs within =
    let h = last_new c.args.run.queue.now (vec_len c.args.takes) c.pop.new.self.items c.in-Some.pass (sym c.in-Some.ensures.items ∙ c.requires.0) (search rules) in
    let number = c.len-number.ensures in
    grind serving
