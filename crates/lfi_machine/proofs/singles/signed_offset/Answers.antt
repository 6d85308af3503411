use Rattle.std.proofs.Common.{refl}
use Rattle.a64_word.specs.declared.instruction.Instruction.TheVariants.{SignedOffset}
use Rattle.lfi_machine.specs.inner.Addresses.{signed_access}
use Rattle.lfi_machine.proofs.Carried.{access_done}
use Rattle.lfi_machine.proofs.singles.signed_offset.Goals as goal

pub returns-clause-accesses : goal.returns-clause-accesses
returns-clause-accesses c =
    access_done (SignedOffset c.args.i.now) (signed_access c.args.i.now) c.args.slot.now c.single.new.slot c.args.registers.now c.single.new.registers
    c.signed_address-address.result _ c.single.result refl refl refl c.requires.confined c.signed_address-address.ensures c.signed_base-moved.ensures c.single.ensures.done
