use Rattle.lfi_mends.proofs.Standing.{keeps_more}
use Rattle.lfi_mends.specs.Mends.{mended}
use Rattle.lfi_mends.proofs.mend.Mend.and.Goals as goal

pub returns-clause-keeps : goal.returns-clause-keeps
returns-clause-keeps c = λ profile.
    keeps_more profile (mended c.args.self) (mended c.then.result) c.args.instruction c.then.ensures.items (c.requires.keeps profile) (c.requires.stands profile) (c.requires.opens profile)
