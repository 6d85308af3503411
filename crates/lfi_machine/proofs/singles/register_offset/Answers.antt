use Rattle.std.proofs.Common.{refl}
use Rattle.a64_word.specs.declared.instruction.Instruction.TheVariants.{RegisterOffset}
use Rattle.lfi_machine.specs.inner.Addresses.{index_access}
use Rattle.lfi_machine.proofs.Carried.{access_done}
use Rattle.lfi_machine.proofs.singles.register_offset.Goals as goal

pub returns-clause-accesses : goal.returns-clause-accesses
returns-clause-accesses c =
    access_done (RegisterOffset c.args.i.now) (index_access c.args.i.now) c.args.slot.now c.single.new.slot c.args.registers.now c.single.new.registers
    c.index_address-address.result _ c.single.result refl refl refl c.requires.confined c.index_address-address.ensures refl c.single.ensures.done
