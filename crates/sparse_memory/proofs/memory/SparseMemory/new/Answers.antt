use Rattle.std.proofs.Common.{rules}
use Rattle.sparse_memory.proofs.Counted.{some_none}
use Rattle.sparse_memory.proofs.memory.SparseMemory.new.Goals as goal

pub invariant_of-result : goal.invariant_of-result
invariant_of-result c =
    let none = some_none c.in_ok-table.table.items c.in_ok-table.ensures.zero in
    record { whole = search rules; frames = search rules; counted = rw none (search rules); within = search rules; apart = search rules }
