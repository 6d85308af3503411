use Rattle.std.proofs.Common.{subst}
use Rattle.page_buf.specs.Page.{PageView}
use Rattle.lfi_sequence.specs.inner.Pools.{Offers}
use Rattle.lfi_sequence.proofs.Offered.{offered}
use Rattle.lfi_sequence.proofs.placing.give_back.Goals as goal

pub returns-clause-offers : goal.returns-clause-offers
returns-clause-offers c = subst (λ (p : PageView). Offers p.size c.args.pool.now c.give.new.self) c.into_parts-page.ensures.page
    (offered c.give.result c.into_parts-page.result.0.size c.args.pool.now c.give.new.self c.give.ensures.ok c.give.ensures.small c.give.ensures.large)
