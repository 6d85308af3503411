use Rattle.sparse_memory.proofs.memory.SparseMemory.+number.Given as goal

abbrev pub decreases-number : goal.decreases-number
decreases-number l = l.bytes
