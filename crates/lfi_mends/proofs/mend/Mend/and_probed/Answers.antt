use Rattle.lfi_rules.specs.declared.needs.Need.TheVariants.{Probe}
use Rattle.lfi_rules.specs.Needs.{window}
use Rattle.lfi_mends.proofs.Standing.{keeps_closed}
use Rattle.lfi_mends.specs.Mends.{mended}
use Rattle.lfi_mends.proofs.mend.Mend.and_probed.Goals as goal

pub returns-clause-keeps : goal.returns-clause-keeps
returns-clause-keeps c = λ profile.
    keeps_closed profile (Probe (window profile)) (mended c.args.self) (mended c.then.result) (mended c.then-2.result) c.args.instruction c.probe.result c.then.ensures.items c.then-2.ensures.items
    (c.requires.keeps profile) (c.requires.stands profile) (c.requires.opens profile) (c.probe.ensures.stands profile (window profile)) (c.probe.ensures.opens profile)
