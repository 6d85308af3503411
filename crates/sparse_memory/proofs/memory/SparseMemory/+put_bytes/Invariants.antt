use Rattle.sparse_memory.proofs.memory.SparseMemory.+put_bytes.Given as goal

abbrev pub decreases-put_bytes : goal.decreases-put_bytes
decreases-put_bytes l = l.bytes
