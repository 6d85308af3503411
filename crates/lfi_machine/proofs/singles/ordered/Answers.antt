use Rattle.std.proofs.Common.{◌-◌, ◌^◌, [], refl, subst}
use Rattle.std.specs.Prelude.{if◌then◌else◌}
use Rattle.sparse_memory.specs.Kept.{KeepsOnly}
use Rattle.a64_word.specs.declared.instruction.Instruction.TheVariants.{Ordered}
use Rattle.a64_word.specs.declared.operands.Transfer.{Transfer}
use Rattle.a64_word.specs.Operands.{size_code}
use Rattle.a64_effects.specs.Effects.{is_store, ordered_transfer}
use Rattle.a64_semantics.specs.Registers.{x_at}
use Rattle.a64_semantics.specs.Accesses.{stored_by}
use Rattle.a64_semantics.specs.Writes.{to_loaded}
use Rattle.lfi_confinement.specs.Slots.{base}
use Rattle.lfi_machine.specs.Owned.{memory}
use Rattle.lfi_machine.specs.inner.Addresses.{ordered_access}
use Rattle.lfi_machine.specs.inner.Transfers.{Finishes}
use Rattle.lfi_machine.proofs.Carried.{access_done}
use Rattle.lfi_machine.proofs.singles.ordered.Goals as goal

pub returns-clause-accesses : goal.returns-clause-accesses
returns-clause-accesses c =
    let i = c.args.i.now in
    let r = c.args.registers.now in
    let address = c.ordered_address-address.result in
    let done = subst (λ (t : Transfer). Finishes c.args.slot.now c.single.new.slot r c.single.new.registers (record { stores = is_store t; bytes = 2 ^ size_code i.size; address = address })
    (to_loaded i.size t i.rt (memory c.args.slot.now) address []) (stored_by i.size t (x_at r i.rt)) [] c.single.result) c.ordered_transfer.ensures c.single.ensures.done in
    access_done (Ordered i) (ordered_access i) c.args.slot.now c.single.new.slot r c.single.new.registers
    address [] c.single.result refl refl refl c.requires.confined c.ordered_address-address.ensures refl done

pub returns-clause-keeps : goal.returns-clause-keeps
returns-clause-keeps c =
    let i = c.args.i.now in
    let old = c.args.slot.now in
    let new = c.single.new.slot in
    let kept = subst (λ (t : Transfer). KeepsOnly old.kept new.kept (c.ordered_address-address.result - base old.image) (if is_store t then 2 ^ size_code i.size else 0)) c.ordered_transfer.ensures c.single.ensures.keeps in
    subst (λ a. KeepsOnly old.kept new.kept (a - base old.image) (if is_store (ordered_transfer i.load) then 2 ^ size_code i.size else 0)) c.ordered_address-address.ensures kept
