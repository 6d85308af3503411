use Rattle.std.proofs.Common.{subst}
use Rattle.lfi_explain.specs.Mendings.{IsMend}
use Rattle.lfi_explain.proofs.mend_of_word.mend_at.Goals as goal

pub returns : goal.returns
returns c =
    let mend = c.mend_of.ensures in
    subst (λ need. IsMend c.args.at.now.profile c.args.rule c.args.at.now.word need c.args.next.now c.mend_of.result) c.need_of-need.ensures
    (record { leads = mend.leads; does = mend.does; bounded = mend.bounded; told = mend.told })
