use Rattle.std.proofs.Common.{sym, subst, inr}
use Rattle.page_buf.specs.Members.{MemberView}
use Rattle.lfi_receive.specs.inner.Pools.{Asks}
use Rattle.lfi_receive.proofs.ahead.PageMemory.page.Goals as goal

pub returns-clause-asks : goal.returns-clause-asks
returns-clause-asks c = λ _. subst (λ (pool : MemberView). Asks c.args.self.now.pool pool) (sym c.spend.ensures) (inr c.in_default.ensures.none)
