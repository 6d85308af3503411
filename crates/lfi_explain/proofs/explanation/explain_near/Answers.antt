use Rattle.lfi_explain.specs.Mendings.{need_of}
use Rattle.lfi_explain.proofs.Room.{explanation_short, spelled_of, opener_spelled}
use Rattle.lfi_explain.proofs.explanation.explain_near.Goals as goal

pub returns-clause-fits : goal.returns-clause-fits
returns-clause-fits g c =
    let known = c.args.known.now in
    let at = c.of-spelling.result in
    explanation_short _ (spelled_of known.profile c.word.result at c.of-spelling.ensures)
    (opener_spelled known.profile (g.W.Words.words c.args.words.now) c.args.at _ c.opener_before-opener.ensures)
    (at.profile, need_of known.fault.rule at c.opener_before-opener.result, c.mend_at.ensures.leads)
