use Rattle.std.proofs.Common.{sym, ◌∙◌}
use Rattle.lfi_rules.proofs.Marked.{one_more_fine, by_none}
use Rattle.lfi_rules.proofs.pass.first_by_look.Goals.{then-not-is_told_late+else-is_some, else-not-is_told_late}
use Rattle.lfi_rules.proofs.pass.first_by_look.Goals as goal

pub loop-place-preserved : goal.loop-place-preserved
loop-place-preserved g c =
    one_more_fine c.args.region.profile (g.W.Words.words c.args.region.words.now) c.args.region.first c.args.region.n c.args.marked.now c.loop-place.place-index c.loop-place.invariant
    (elim c.if-not-is_told_late.branch [
      | then-not-is_told_late+else-is_some w ↦ by_none w.fault_at-fault.result _ (sym w.is_some.ensures ∙ w.if-is_some.false) w.fault_at-fault.ensures.none
      | else-not-is_told_late w ↦ c.is_told_late.ensures w.if-not-is_told_late.false
    ])
