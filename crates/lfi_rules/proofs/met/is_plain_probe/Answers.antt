use Rattle.std.proofs.Common.{inl, inr}
use Rattle.std.proofs.lemmas.Bool.{or_cases}
use Rattle.lfi_rules.specs.declared.needs.Need.TheVariants.{Probe}
use Rattle.lfi_rules.proofs.Broken.{met_in}
use Rattle.lfi_rules.proofs.met.is_plain_probe.Goals as goal

pub returns : goal.returns
returns c = λ p h. elim (or_cases _ _ h) [
  | inl one ↦ met_in p c.args.word (Probe 1) (c.probes_plainly_by_one.ensures one)
  | inr two ↦ met_in p c.args.word (Probe 1) (c.probes_plainly_by_two.ensures two)
]
