use Rattle.std.proofs.Common.{◌∙◌, refl}
use Rattle.std.specs.Prelude.{is_some, is_err, ◌||◌}
use Rattle.lfi_model.specs.Items.{fault_by_cause}
use Rattle.lfi_connection.proofs.InputEnds.{ends}
use Rattle.lfi_connection.proofs.ending.fault_at_end.Goals as goal

pub returns : goal.returns
returns g c = λ claimed ms rest fed faultless at.
    c.fault_by.ensures
    ∙ (λ i. fault_by_cause c.args.cause (c.is_err-unfinished.ensures.value i || c.is_some-going.ensures i))
    ∙ ends (g.P.ProgressTable.progress_at c.args.table.now) claimed c.args.feed.now ms rest c.args.cause c.end.result c.first_going.result at fed faultless (c.end.ensures.stands ms rest fed).1
    c.first_going.ensures.in_range c.first_going.ensures.going c.first_going.ensures.none (is_err c.end.result || is_some c.first_going.result) refl
