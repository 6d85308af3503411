-- The parts are those of the owners, and each taker has an end of each.
use Rattle.std.proofs.Common.{ap, sym, ◌∙◌, subst, length}
use Rattle.std.proofs.lemmas.List.{length-map}
use Rattle.lfi_queues.specs.declared.part.Home.{Home}
use Rattle.lfi_queues.specs.Passes.{new_passes}
use Rattle.lfi_queues.specs.inner.Owners.{AreNewOwners}
use Rattle.lfi_queues.specs.inner.Parts.{intake_id, IsNewTaker}
use Rattle.lfi_queues.proofs.intake.Intake.new.Goals as goal

pub new_owners-requires : goal.new_owners-requires
new_owners-requires g c = c.in_ok-ends.ensures.new

pub put_passes-requires-clause-owners : goal.put_passes-requires-clause-owners
put_passes-requires-clause-owners g c = subst (λ n. AreNewOwners n c.in_ok-owners.owners.items) (c.in_ok-ends.ensures.count ∙ sym (ap (λ (h : Home). h.takers) c.of-home.ensures)) c.in_ok-owners.ensures.owners

pub put_passes-requires-clause-home : goal.put_passes-requires-clause-home
put_passes-requires-clause-home g c = ap (λ (h : Home). h.parts) c.of-home.ensures

pub take_passes-requires : goal.take_passes-requires
take_passes-requires g c = λ k t at. subst (λ ps. IsNewTaker ps k t) (sym (ap (λ (h : Home). h.parts) c.of-home.ensures)) (c.in_ok-owners.ensures.takers k t at)

pub returns-clause-counts : goal.returns-clause-counts
returns-clause-counts g c = (ap (λ (h : Home). length h.parts) c.of-home.ensures ∙ length-map _ _ ∙ c.in_ok-owners.ensures.count, ap (λ (h : Home). h.takers) c.of-home.ensures)

pub returns-clause-puts : goal.returns-clause-puts
returns-clause-puts g c = c.in_ok-puts.ensures ∙ ap (λ n. new_passes (intake_id c.of-home.result.value) n) c.in_ok-owners.ensures.count

pub returns-clause-takes : goal.returns-clause-takes
returns-clause-takes g c = c.in_ok-takes.ensures ∙ ap (λ n. new_passes (intake_id c.of-home.result.value) n) (c.in_ok-owners.ensures.taker_count ∙ c.in_ok-ends.ensures.count)
