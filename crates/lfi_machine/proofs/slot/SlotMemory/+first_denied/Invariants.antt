use Rattle.lfi_machine.proofs.slot.SlotMemory.+first_denied.Given as goal

abbrev pub decreases-first_denied : goal.decreases-first_denied
decreases-first_denied l = l.bytes
