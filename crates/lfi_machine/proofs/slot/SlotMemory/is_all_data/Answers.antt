use Rattle.std.proofs.Common.{◌≡◌, ◌+◌, ◌-◌, ◌%◌, None, leb-true, arith, subst}
use Rattle.lfi_confinement.specs.Moves.{first_denied}
use Rattle.lfi_machine.specs.Owned.{Owned}
use Rattle.lfi_machine.proofs.Permits.{all_data}
use Rattle.lfi_machine.proofs.slot.SlotMemory.is_all_data.Goals as goal

pub returns-then-self-offset : goal.returns-then-self-offset
returns-then-self-offset c =
    λ h stores. (
    let inside = c.self.inside in
    let offset = (c.args.address + (18446744073709551616 - inside.base)) % 18446744073709551616 in
    let high = leb-true offset (4294967296 - c.from.result) h in
    let at = c.self.invariant.1 in
    let first = c.self.invariant.2 in
    let slot = c.self.invariant.0.slot in
    let bytes = c.from.ensures in
    let few = c.requires in
    let fits = c.ranges.address.fits in
    let data_from = c.if-self-offset.true in
    subst (λ (o : Owned). first_denied o.image stores c.args.bytes c.args.address ≡ None) c.self.view_is
    (all_data inside.image stores c.args.bytes c.args.address (omega (arith, at, high, slot, fits)) (omega (arith, at, first, data_from, high, slot, fits)) (omega (arith, at, high, bytes, few, slot, fits))))
