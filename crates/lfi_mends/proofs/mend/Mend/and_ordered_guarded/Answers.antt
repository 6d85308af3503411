use Rattle.lfi_module.specs.declared.profile.Profile.TheVariants.{Two}
use Rattle.lfi_rules.specs.declared.needs.Need.TheVariants.{Guard}
use Rattle.lfi_mends.proofs.Standing.{keeps_closed}
use Rattle.lfi_mends.specs.Mends.{mended}
use Rattle.lfi_mends.proofs.mend.Mend.and_ordered_guarded.Goals as goal

pub returns-clause-keeps : goal.returns-clause-keeps
returns-clause-keeps c =
    keeps_closed Two Guard (mended c.args.self) (mended c.then.result) (mended c.then-2.result) c.args.instruction c.link_guard.result c.then.ensures.items c.then-2.ensures.items
    c.requires.keeps c.requires.stands c.requires.opens (c.link_guard.ensures.stands Two) (c.link_guard.ensures.opens Two)
