use Rattle.std.proofs.Common.{OnErr, subst}
use Rattle.page_buf.specs.SeenSlots.{Passed, empty}
use Rattle.page_buf.specs.Pools.{seen_by}
use Rattle.page_buf.proofs.member.PoolMember.give.Goals as goal

pub returns-then-eq-clause-small : goal.returns-then-eq-clause-small
returns-then-eq-clause-small c = λ _. subst (λ v. OnErr c.give.result (Passed empty 64 v.seen (seen_by c.give.new.seat))) c.self.view_is c.give.ensures.err
