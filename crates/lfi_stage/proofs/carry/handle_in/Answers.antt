use Rattle.std.proofs.Common.{◌≡◌, Some, sym, ◌∙◌, ap, subst}
use Rattle.lfi_board.specs.Known.{module_of}
use Rattle.lfi_stage.specs.inner.Rows.{HasMore}
use Rattle.lfi_stage.proofs.carry.handle_in.Goals as goal

pub returns-in-Some : goal.returns-in-Some
returns-in-Some c = λ s is.
    let both : Some c.in-Some.sequence ≡ Some s = sym c.in-Some.is ∙ is in
    let same : c.in-Some.sequence ≡ s = cc in
    (c.handle.new.self, cc, subst (λ old. HasMore old c.handle.new.self c.args.item) same (record { same = ap module_of c.handle.ensures.same; tie = c.handle.ensures.tie }))
