use Rattle.std.proofs.Common.{refl}
use Rattle.a64_word.specs.declared.instruction.Instruction.TheVariants.{UnsignedOffset}
use Rattle.lfi_machine.specs.inner.Addresses.{unsigned_access}
use Rattle.lfi_machine.proofs.Carried.{access_done}
use Rattle.lfi_machine.proofs.singles.unsigned_offset.Goals as goal

pub returns-clause-accesses : goal.returns-clause-accesses
returns-clause-accesses c =
    access_done (UnsignedOffset c.args.i.now) (unsigned_access c.args.i.now) c.args.slot.now c.single.new.slot c.args.registers.now c.single.new.registers
    c.unsigned_address-address.result _ c.single.result refl refl refl c.requires.confined c.unsigned_address-address.ensures refl c.single.ensures.done
