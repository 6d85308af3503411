use Rattle.std.proofs.Common.{◌≡◌, ◌-◌, None, arith, sym, subst}
use Rattle.lfi_confinement.specs.Moves.{first_denied}
use Rattle.lfi_machine.specs.Owned.{Owned, IsLocated, writes_by}
use Rattle.lfi_machine.proofs.Permits.{all_within}
use Rattle.lfi_machine.proofs.slot.SlotMemory.locate.Goals as goal

pub returns-in-None-clause-ok : goal.returns-in-None-clause-ok
returns-in-None-clause-ok c =
    let inside = c.self.inside in
    let at = c.self.invariant.1 in
    let words = c.self.invariant.0.lawful.most in
    let none : first_denied inside.image (writes_by c.args.access) c.args.bytes c.args.address ≡ None =
    subst (λ (o : Owned). first_denied o.image (writes_by c.args.access) c.args.bytes c.args.address ≡ None) (sym c.self.view_is) (sym c.in-None.ensures) in
    let within = all_within inside.image (writes_by c.args.access) c.args.bytes c.args.address words c.requires.some none in
    subst (λ (o : Owned). IsLocated o (writes_by c.args.access) c.args.bytes c.args.address (c.args.address - inside.base)) c.self.view_is
    (record { permitted = none; at = omega (arith, at, within.low); within = omega (arith, at, within.low, within.high) })
