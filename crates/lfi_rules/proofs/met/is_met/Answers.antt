use Rattle.std.proofs.Common.{ℕ, sym, subst, inl, inr}
use Rattle.std.proofs.lemmas.Bool.{eqb-true, eqb-false, or_cases}
use Rattle.lfi_rules.specs.declared.needs.Need.{Need}
use Rattle.lfi_rules.specs.declared.needs.Need.TheVariants.{Call, Guard, Probe}
use Rattle.lfi_module.specs.declared.profile.Profile.{Profile}
use Rattle.lfi_rules.specs.Faults.{Meets, meets_nothing, meets_by}
use Rattle.lfi_rules.specs.inner.Quiet.{IsMet}
use Rattle.lfi_rules.proofs.Jumps.{call_is_met, guard_is_met}
use Rattle.lfi_rules.proofs.Broken.{met_in}
use Rattle.lfi_rules.proofs.Only.{only_call, only_guard}
use Rattle.lfi_rules.proofs.met.is_met.Goals as goal

meets : (p : Profile) (word : ℕ) (need : Need) → IsMet word need → Meets p word need
meets p word need h = met_in p word need h

any_count : (p : Profile) (word a b : ℕ) → Meets p word (Probe a) → Meets p word (Probe b)
any_count p word a b (meets_nothing e) = cc
any_count p word a b (meets_by i s m) = meets_by i s m

pub returns-in-Call-clause-met : goal.returns-in-Call-clause-met
returns-in-Call-clause-met c = λ p h. subst (λ x. Meets p c.args.word x) (sym c.in-Call.is) (subst (λ w. Meets p w Call) (sym (eqb-true _ _ h)) (meets p _ _ call_is_met))

pub returns-in-Guard-clause-met : goal.returns-in-Guard-clause-met
returns-in-Guard-clause-met c = λ p h. subst (λ x. Meets p c.args.word x) (sym c.in-Guard.is) (subst (λ w. Meets p w Guard) (sym (eqb-true _ _ h)) (meets p _ _ guard_is_met))

pub returns-in-Probe-clause-met : goal.returns-in-Probe-clause-met
returns-in-Probe-clause-met c = λ p h. subst (λ x. Meets p c.args.word x) (sym c.in-Probe.is) (any_count p c.args.word 1 _ (elim (or_cases _ _ h) [
  | inl one ↦ meets p c.args.word (Probe 1) (c.probes_by_one.ensures one)
  | inr two ↦ meets p c.args.word (Probe 1) (c.probes_by_two.ensures two)
]))

pub returns-in-Call-clause-call : goal.returns-in-Call-clause-call
returns-in-Call-clause-call c = λ p e h m. eqb-false _ _ h (only_call p c.args.word m)

pub returns-in-Guard-clause-guard : goal.returns-in-Guard-clause-guard
returns-in-Guard-clause-guard c = λ p e h m. eqb-false _ _ h (only_guard p c.args.word m)
