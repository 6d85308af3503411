use Rattle.std.proofs.Common.{sym, subst}
use Rattle.lfi_mends.specs.Mends.{Stands}
use Rattle.lfi_mends.proofs.mending.meeting.Goals as goal

pub returns-in-Guard-clause-stands : goal.returns-in-Guard-clause-stands
returns-in-Guard-clause-stands c = λ profile. subst (λ need. Stands profile need c.link_guard.result) (sym c.in-Guard.is) (c.link_guard.ensures.stands profile)

pub returns-in-Probe-clause-stands : goal.returns-in-Probe-clause-stands
returns-in-Probe-clause-stands c = λ profile. subst (λ need. Stands profile need c.probe.result) (sym c.in-Probe.is) (c.probe.ensures.stands profile _)
