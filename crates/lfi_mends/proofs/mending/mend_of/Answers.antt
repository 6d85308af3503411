use Rattle.lfi_mends.specs.Mends.{mended}
use Rattle.lfi_mends.specs.Outcomes.{meeting}
use Rattle.lfi_mends.proofs.Behind.{same_behind, bounded_behind}
use Rattle.lfi_mends.proofs.mending.mend_of.Goals as goal

pub returns-in-Ok-clause-does : goal.returns-in-Ok-clause-does
returns-in-Ok-clause-does c = λ i other spells plain.
    same_behind (meeting c.args.unmet) (mended c.in-Ok.mend) (mended c.behind_need.result) i c.behind_need.ensures.items (c.in-Ok.ensures.does i spells plain)

pub returns-in-Ok-clause-bounded : goal.returns-in-Ok-clause-bounded
returns-in-Ok-clause-bounded c = λ i other spells bounded.
    bounded_behind (meeting c.args.unmet) (mended c.in-Ok.mend) (mended c.behind_need.result) i c.behind_need.ensures.items (c.in-Ok.ensures.bounded i spells bounded)
