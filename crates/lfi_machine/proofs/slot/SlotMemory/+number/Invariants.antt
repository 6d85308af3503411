use Rattle.lfi_machine.proofs.slot.SlotMemory.+number.Given as goal

abbrev pub decreases-number : goal.decreases-number
decreases-number l = l.bytes
