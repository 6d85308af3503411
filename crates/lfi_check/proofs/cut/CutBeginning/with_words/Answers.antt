use Rattle.std.proofs.Common.{rules, sym, subst}
use Rattle.lfi_check.specs.Cuts.{Takes}
use Rattle.lfi_check.proofs.Cuts.{aligned}
use Rattle.lfi_check.proofs.cut.CutBeginning.with_words.Goals as goal

pub returns : goal.returns
returns c =
    subst (λ r. Takes c.args.self r c.args.piece.now) (sym c.of.ensures.is)
    (aligned c.args.self c.with.result c.args.piece.now (c.requires.aligned (search rules)) c.with.ensures.begins c.with.ensures.judged c.with.ensures.words c.with.ensures.profile)
