use Rattle.std.proofs.Common.{IfNone, subst}
use Rattle.page_buf.specs.SeenSlots.{Passed, full}
use Rattle.page_buf.specs.Pools.{seen_by}
use Rattle.page_buf.proofs.member.PoolMember.get.Goals as goal

pub returns-clause-none : goal.returns-clause-none
returns-clause-none c = subst (λ v. IfNone c.get.result (Passed full 64 v.seen (seen_by c.get.new.seat))) c.self.view_is c.get.ensures.none
