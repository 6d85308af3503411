use Rattle.lfi_module.specs.declared.profile.Profile.TheVariants.{Two}
use Rattle.lfi_mends.proofs.Standing.{keeps_more}
use Rattle.lfi_mends.specs.Mends.{mended}
use Rattle.lfi_mends.proofs.mend.Mend.and_ordered.Goals as goal

pub returns-clause-keeps : goal.returns-clause-keeps
returns-clause-keeps c = keeps_more Two (mended c.args.self) (mended c.then.result) c.args.instruction c.then.ensures.items c.requires.keeps c.requires.stands c.requires.opens
